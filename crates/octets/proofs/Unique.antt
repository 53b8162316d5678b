-- Every public function leaves one outcome and asks nothing.
use Rattle.std.proofs.Common.{ℕ, refl, sym, ◌∙◌}
use mathlib.Core.List.{Mem, not-mem-nil}
use mir.Syntax.{Width}
use denote.Plain.{UInt}
use denote.Signed.{SInt}
use denote.RattleType.{RattleType}
use Rattle.octets.specs.Unique.{One, Free}
use Rattle.octets.proofs.equal.Kinds as equal-kinds
use Rattle.octets.proofs.equal.Reads as equal-reads
use Rattle.octets.proofs.copy_at.Kinds as copy-at-kinds
use Rattle.octets.proofs.copy_at.Reads as copy-at-reads
use Rattle.octets.proofs.read.Kinds as read-kinds
use Rattle.octets.proofs.read.Reads as read-reads
use Rattle.octets.proofs.put_number.Kinds as put-number-kinds
use Rattle.octets.proofs.put_number.Reads as put-number-reads
use Rattle.octets.proofs.put_i64.Kinds as put-i64-kinds
use Rattle.octets.proofs.put_i64.Reads as put-i64-reads

pub equal-one : One 2 equal-kinds.ps equal-kinds.r equal-reads.Post
equal-one κs a x y v w p q = (p ∙ sym q, refl)

pub equal-free : Free 2 equal-kinds.ps equal-reads.Pre
equal-free κs a = tt

pub copy-at-one : One 2 copy-at-kinds.ps copy-at-kinds.r copy-at-reads.Post
copy-at-one κs a x y v w p q = (p.0 ∙ sym q.0, λ i. (tt, ((p.1 ∙ sym q.1) i, (tt, tt))))

pub copy-at-free : Free 2 copy-at-kinds.ps copy-at-reads.Pre
copy-at-free κs a = tt

pub read-one : (T : _) (l : _) (c : _) (m : _) (d : _) (n : _) (e : _) → One 2 (read-kinds.ps T l c) (read-kinds.r T l c) (read-reads.Post T l c m d n e)
read-one T l c m d n e κs a x y v w p q = (p ∙ sym q, refl)

-- of a type that holds no reference, as numbers do not
pub read-free : (T : RattleType) (l : _) (c : _) (m : _) (d : _) (n : _) (e : _) → ((b : ℕ) → Mem b T.lives → ⊥) → Free 2 (read-kinds.ps T l c) (read-reads.Pre T l c m d n e)
read-free T l c m d n e none κs a b h = absurd (none b h)

-- so of every unsigned number, and of every signed one
pub read-unsigned-free : (w : Width) (l : _) (c : _) (m : _) (d : _) (n : _) (e : _) → Free 2 (read-kinds.ps (UInt w) l c) (read-reads.Pre (UInt w) l c m d n e)
read-unsigned-free w l c m d n e = read-free (UInt w) l c m d n e (λ b h. not-mem-nil h)

pub read-signed-free : (w : Width) (l : _) (c : _) (m : _) (d : _) (n : _) (e : _) → Free 2 (read-kinds.ps (SInt w) l c) (read-reads.Pre (SInt w) l c m d n e)
read-signed-free w l c m d n e = read-free (SInt w) l c m d n e (λ b h. not-mem-nil h)

pub put-number-one : One 1 put-number-kinds.ps put-number-kinds.r put-number-reads.Post
put-number-one κs a x y v w p q = (p.0 ∙ sym q.0, λ i. (tt, (tt, ((p.1 ∙ sym q.1) i, (tt, tt)))))

pub put-number-free : Free 1 put-number-kinds.ps put-number-reads.Pre
put-number-free κs a = tt

pub put-i64-one : One 1 put-i64-kinds.ps put-i64-kinds.r put-i64-reads.Post
put-i64-one κs a x y v w p q = (p.0 ∙ sym q.0, λ i. (tt, ((p.1 ∙ sym q.1) i, (tt, tt))))

pub put-i64-free : Free 1 put-i64-kinds.ps put-i64-reads.Pre
put-i64-free κs a = tt
