-- What the code answers, by its contract as the check reads it: for a text of ASCII alone, and for a text by the run of ASCII that it begins with.
use mathlib.Core.Path.{◌≡◌, ◌∙◌}
use mathlib.Core.Bool.{true}
use contract.Lifetimes.{Lfts}
use denote.Triple.Clauses.{Lasts, at_exit}
use borrow.Fn.Kinds.{Dens, res_t, ended_of}
use Rattle.octets.specs.Words.{◌and◌, every}
use Rattle.utf8.specs.Ascii.{ascii, ascii_run, behind_ascii}
use Rattle.utf8.proofs.Runs.{ascii-well-formed}
use Rattle.utf8.proofs.AsciiRuns.{by-ascii-and-rest}
use Rattle.utf8.proofs.well_formed.Kinds.{ps, r}
use Rattle.utf8.proofs.well_formed.Reads.{Post}

-- the contract allows the answer x to the argument a
abbrev Allowed : (κs : Lfts 1) (a : Dens κs ps) → (res_t r κs).Denot → Lasts (ended_of 1 ps r) κs a → Type 0
Allowed κs a x v = Post κs a x (at_exit (ended_of 1 ps r) κs a v)

-- a text of bytes up to 0x7F alone is well-formed
pub ascii-answered : (κs : Lfts 1) (a : Dens κs ps) (x : (res_t r κs).Denot) (v : Lasts (ended_of 1 ps r) κs a)
    → every ascii a.0.now ≡ true → Allowed κs a x v → x ≡ true
ascii-answered κs a x v e p = p ∙ ascii-well-formed a.0.now e

-- the answer for a text is that for its run of ASCII, taken as long as it goes, and that for the rest behind it: three calls, each with its own lifetimes
pub answered-by-ascii-and-rest : (κ κ' κ'' : Lfts 1) (a : Dens κ ps) (b : Dens κ' ps) (d : Dens κ'' ps)
    (x : (res_t r κ).Denot) (y : (res_t r κ').Denot) (z : (res_t r κ'').Denot)
    (u : Lasts (ended_of 1 ps r) κ a) (v : Lasts (ended_of 1 ps r) κ' b) (w : Lasts (ended_of 1 ps r) κ'' d)
    → b.0.now ≡ ascii_run a.0.now → d.0.now ≡ behind_ascii a.0.now
    → Allowed κ a x u → Allowed κ' b y v → Allowed κ'' d z w → x ≡ y and z
answered-by-ascii-and-rest κ κ' κ'' a b d x y z u v w e f p q s = rw (p, q, s, e, f) (by-ascii-and-rest a.0.now)
