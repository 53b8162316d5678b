-- Every public function leaves one outcome and asks nothing.
use Prim.Native.Nat.{ℕ}
use mathlib.Core.Path.{◌≡◌, sym, ap, ◌∙◌}
use mathlib.Core.List.{List}
use Rattle.octets.specs.Unique.{One, Free}
use Rattle.groupcalls.specs.Answer.{added, gathered, says, Outcome}
use Rattle.groups.specs.declared.Groups.{Groups}
use Rattle.groupcalls.proofs.Unique.{one-added, one-gathered}
use Rattle.fragments.specs.Store.{store_after, out_after}
use Rattle.fragments.proofs.add_fragment.Kinds as add-fragment-kinds
use Rattle.fragments.proofs.add_fragment.Reads as add-fragment-reads
use Rattle.fragments.proofs.collect_group.Kinds as collect-group-kinds
use Rattle.fragments.proofs.collect_group.Reads as collect-group-reads

-- the store after an add is one by what the add says
one_store : (o u : Outcome) (n : ℕ) (bytes store a b : List ℕ) → o ≡ u → a ≡ store_after o.answer n bytes store → b ≡ store_after u.answer n bytes store → a ≡ b
one_store o u n bytes store a b e p q = p ∙ ap (λ (x : Outcome). store_after x.answer n bytes store) e ∙ sym q

one_out : (o u : Outcome) (t : Groups) (store out a b : List ℕ) → o ≡ u → a ≡ out_after o.answer t store out → b ≡ out_after u.answer t store out → a ≡ b
one_out o u t store out a b e p q = p ∙ ap (λ (x : Outcome). out_after x.answer t store out) e ∙ sym q

pub add-fragment-one : One 3 add-fragment-kinds.ps add-fragment-kinds.r add-fragment-reads.Post
add-fragment-one κs a x y v w p q =
    let e = p.0 ∙ sym q.0 in
    let s = one_store (says (λ g. added g) x) (says (λ g. added g) y) _ _ _ _ _ e p.1 q.1 in
    (one-added x y e, λ i. (tt, (s i, (tt, (tt, (tt, (tt, (tt, (tt, tt)))))))))

pub add-fragment-free : Free 3 add-fragment-kinds.ps add-fragment-reads.Pre
add-fragment-free κs a = tt

pub collect-group-one : One 3 collect-group-kinds.ps collect-group-kinds.r collect-group-reads.Post
collect-group-one κs a x y v w p q =
    let e = p.0 ∙ sym q.0 in
    let s = one_out (says gathered x) (says gathered y) _ _ _ _ _ e p.1 q.1 in
    (one-gathered x y e, λ i. (tt, (tt, (tt, (tt, (s i, tt))))))

pub collect-group-free : Free 3 collect-group-kinds.ps collect-group-reads.Pre
collect-group-free κs a = tt
