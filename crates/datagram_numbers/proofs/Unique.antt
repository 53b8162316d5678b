-- Every public function leaves one outcome and asks nothing.
use Rattle.std.proofs.Common.{ℕ, refl, sym, ◌∙◌}
use mathlib.Core.List.{Mem, not-mem-nil}
use mir.Syntax.{Width}
use denote.Plain.{UInt}
use denote.Signed.{SInt}
use denote.RattleType.{RattleType}
use Rattle.octets.specs.Unique.{One, Free}
use Rattle.datagram_numbers.proofs.read_if.Kinds as read-if-kinds
use Rattle.datagram_numbers.proofs.read_if.Reads as read-if-reads
use Rattle.datagram_numbers.proofs.read_opening.Kinds as read-opening-kinds
use Rattle.datagram_numbers.proofs.read_opening.Reads as read-opening-reads
use Rattle.datagram_numbers.proofs.read_fragment.Kinds as read-fragment-kinds
use Rattle.datagram_numbers.proofs.read_fragment.Reads as read-fragment-reads

pub read-if-one : (T : _) (l : _) (c : _) (m : _) (d : _) (n : _) (e : _) → One 2 (read-if-kinds.ps T l c) (read-if-kinds.r T l c) (read-if-reads.Post T l c m d n e)
read-if-one T l c m d n e κs a x y v w p q = (p ∙ sym q, refl)

-- of a type that holds no reference, as numbers do not
pub read-if-free : (T : RattleType) (l : _) (c : _) (m : _) (d : _) (n : _) (e : _) → ((b : ℕ) → Mem b T.lives → ⊥) → Free 2 (read-if-kinds.ps T l c) (read-if-reads.Pre T l c m d n e)
read-if-free T l c m d n e none κs a b h = absurd (none b h)

-- so of every unsigned number, and of every signed one
pub read-if-unsigned-free : (w : Width) (l : _) (c : _) (m : _) (d : _) (n : _) (e : _) → Free 2 (read-if-kinds.ps (UInt w) l c) (read-if-reads.Pre (UInt w) l c m d n e)
read-if-unsigned-free w l c m d n e = read-if-free (UInt w) l c m d n e (λ b h. not-mem-nil h)

pub read-if-signed-free : (w : Width) (l : _) (c : _) (m : _) (d : _) (n : _) (e : _) → Free 2 (read-if-kinds.ps (SInt w) l c) (read-if-reads.Pre (SInt w) l c m d n e)
read-if-signed-free w l c m d n e = read-if-free (SInt w) l c m d n e (λ b h. not-mem-nil h)

pub read-opening-one : One 1 read-opening-kinds.ps read-opening-kinds.r read-opening-reads.Post
read-opening-one κs a x y v w p q = (p ∙ sym q, refl)

pub read-opening-free : Free 1 read-opening-kinds.ps read-opening-reads.Pre
read-opening-free κs a = tt

pub read-fragment-one : One 1 read-fragment-kinds.ps read-fragment-kinds.r read-fragment-reads.Post
read-fragment-one κs a x y v w p q = (p ∙ sym q, refl)

pub read-fragment-free : Free 1 read-fragment-kinds.ps read-fragment-reads.Pre
read-fragment-free κs a = tt
