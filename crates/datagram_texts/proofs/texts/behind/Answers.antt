-- The bytes behind the first k, where there are as many.
use Rattle.std.proofs.Common.{◌≡◌, ◌+◌, ◌-◌, ℕ, List, [], ◌∷◌, true, refl, length, take, drop, length-drop, arith}
use borrow.Author.Tests.{le-leb}
use Rattle.octets.specs.Words.{every}
use Rattle.datagram_texts.proofs.texts.behind.Goals as goal

all-bytes : (l : List ℕ) → every (λ x. true) l ≡ true
all-bytes [] = refl
all-bytes (x ∷ l) = all-bytes l

pub returns : goal.returns
returns c =
    let z : c.args.k + c.args.len - c.args.k ≡ c.args.len = omega arith in
    let r = drop c.args.k c.args.d.now in
    rw (z, le-leb c.args.len c.args.most c.if-most-len.false, le-leb c.args.len (length r) (rw length-drop c.if-d-k.false), all-bytes (take c.args.len r))
