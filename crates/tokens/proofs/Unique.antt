-- Every public function leaves one outcome and asks nothing. A part of a text that is answered is one by its bytes; where it lies in
-- memory is no part of the outcome.
use mathlib.Core.Path.{refl, sym, ◌∙◌}
use Rattle.octets.specs.Unique.{One, OneSeen, Free}
use Rattle.tokens.proofs.bytes_before.Kinds as bytes-before-kinds
use Rattle.tokens.proofs.bytes_before.Reads as bytes-before-reads
use Rattle.tokens.proofs.has_byte.Kinds as has-byte-kinds
use Rattle.tokens.proofs.has_byte.Reads as has-byte-reads
use Rattle.tokens.proofs.before_byte.Kinds as before-byte-kinds
use Rattle.tokens.proofs.before_byte.Reads as before-byte-reads
use Rattle.tokens.proofs.after_byte.Kinds as after-byte-kinds
use Rattle.tokens.proofs.after_byte.Reads as after-byte-reads

pub bytes-before-one : One 1 bytes-before-kinds.ps bytes-before-kinds.r bytes-before-reads.Post
bytes-before-one κs a x y v w p q = (p.0 ∙ sym q.0, refl)

pub bytes-before-free : Free 1 bytes-before-kinds.ps bytes-before-reads.Pre
bytes-before-free κs a = tt

pub has-byte-one : One 1 has-byte-kinds.ps has-byte-kinds.r has-byte-reads.Post
has-byte-one κs a x y v w p q = (p ∙ sym q, refl)

pub has-byte-free : Free 1 has-byte-kinds.ps has-byte-reads.Pre
has-byte-free κs a = tt

pub before-byte-one : OneSeen 1 before-byte-kinds.ps before-byte-kinds.r (λ κs x. x.now) before-byte-reads.Post
before-byte-one κs a x y v w p q = (p ∙ sym q, refl)

pub before-byte-free : Free 1 before-byte-kinds.ps before-byte-reads.Pre
before-byte-free κs a = tt

pub after-byte-one : OneSeen 1 after-byte-kinds.ps after-byte-kinds.r (λ κs x. x.now) after-byte-reads.Post
after-byte-one κs a x y v w p q = (p ∙ sym q, refl)

pub after-byte-free : Free 1 after-byte-kinds.ps after-byte-reads.Pre
after-byte-free κs a = tt
