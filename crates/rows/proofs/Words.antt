-- A row that the code is handed has numbers of 32 bits in its places: what its type says, as the logic has it.
use mathlib.Core.Path.{◌≡◌}
use Prim.Native.Nat.{◌<◌}
use mathlib.Core.Bool.{true}
use mathlib.Core.List.{List}
use mir.Val.{Val}
use denote.Shadow.{shadow}
use denote.Struct.Field.{row_field}
use denote.Builtin.{Array}
use borrow.Author.Tests.{lt-ltb}
use Rattle.octets.proofs.Tests.{and_both}
use Rattle.places.specs.contracts.Held as held
use Rattle.places.proofs.Words.{each-words, every_front}
use Rattle.rows.specs.declared.Row.{Row}
use Rattle.rows.specs.Stream.{small}
use Rattle.rows.specs.Row.{stream_of}

pub small_row : (r : Row) (vs : List Val) → r.clock < 4294967296 → shadow ((row_field (Array held.the_row (tt {0}) 16)).row.own_val r.held vs) → small (stream_of r) ≡ true
small_row r vs c p = and_both _ _ (lt-ltb _ _ c) (every_front r.count r.held (each-words r.held p.0 p.1.1))
