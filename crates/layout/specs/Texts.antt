-- Hops held in an array, and the blank message.
use Rattle.std.specs.Prelude.{List, [], length, take, replicate, None}
use Rattle.octets.specs.Bytes.{front}
use Rattle.envelope.specs.declared.CallText.{CallText}
use Rattle.envelope.specs.Texts.{call_text, blank_envelope}
use Rattle.layout.specs.declared.Hops.{Hops}
use Rattle.layout.specs.declared.Datagram.{Datagram}

-- the hops that count
abbrev pub hops_of : Hops → List CallText
hops_of h = take h.count h.items

-- hops in their array, with blanks behind them
abbrev pub hop_array : List CallText → Hops
hop_array l = record { count = length l; items = front l (replicate 16 (call_text [])) }

unfoldable pub no_hops : Hops
no_hops = hop_array []

unfoldable pub blank_datagram : Datagram
blank_datagram = record { fields = blank_envelope; link = None; flood = None; route = None; hops = None }
