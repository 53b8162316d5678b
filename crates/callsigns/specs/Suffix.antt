-- What the private reader of a callsign's suffix answers. No public promise rests on it.
use Rattle.std.specs.Prelude.{ℕ, List, Option, Some, None, if◌then◌else◌}
use Rattle.callsigns.specs.Callsign.{suffix, suffix_ssid}

unfoldable pub suffix_of : List ℕ → Option ℕ
suffix_of t = if suffix t then Some (suffix_ssid t) else None
