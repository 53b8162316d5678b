-- What of a message counts: its fields up to their lengths. Tidied, it is zero past every length.
use Rattle.std.specs.Prelude.{map, option_map}
use Rattle.envelope.specs.Tidy.{tidy_call, tidy}
use Rattle.layout.specs.declared.Hops.{Hops}
use Rattle.layout.specs.declared.Datagram.{Datagram}
use Rattle.layout.specs.Texts.{hops_of, hop_array}

abbrev pub tidy_hops : Hops → Hops
tidy_hops h = hop_array (map tidy_call (hops_of h))

unfoldable pub tidy_datagram : Datagram → Datagram
tidy_datagram m = record {
  fields = tidy m.fields;
  link = option_map tidy_call m.link;
  flood = m.flood;
  route = option_map tidy_hops m.route;
  hops = option_map tidy_hops m.hops;
}
