-- Each slot keeps its rules, and what the pass found and the rest decide. Then each pair: from each slot on, and from each later one on, the rest decides.
use Prim.Native.Nat.{ℕ, ◌+◌, ◌≤◌, ◌<◌}
use mathlib.Core.Path.{◌≡◌, sym, ap, ◌∙◌}
use mathlib.Core.Bool.{true, false}
use native.Mathlib.Omega.{arith}
use borrow.Author.Tests.{eq-eqb}
use lib.ListN.{length, length-set}
use Rattle.octets.specs.Words.{every}
use Rattle.octets.proofs.Tests.{and-next, and-not-left, no_true, no_false}
use Rattle.octets.proofs.Lists.{unmapped, every-next, every-not}
use Rattle.slot_rules.specs.Slots.{keeps_slot, has_key, is_free, distinct, keeps_slots, open_count, slot_in, past_slot}
use Rattle.slot_rules.specs.declared.Ruled.{Ruled}
use Rattle.slot_rules.specs.Steps.{Seen}
use Rattle.slot_rules.proofs.Search.{kept-open, kept_free, free-unlike, count-open, count-free, distinct-not, lone-distinct, past}
use Rattle.slot_rules.proofs.Marks.{marked_more, marked-free, marks-unlike, twice-here, twice-next}
use Rattle.slot_rules.proofs.Pass.{or-seen, seen_next, seen_skip, seen_end, test-broken, test_good}
use Rattle.slot_rules.proofs.test.Goals as goal
use Rattle.slot_rules.proofs.test.Goals.{then-has_key, else-has_key, else-marks-j-via-then-marks-j+else-is_alike, else-marks-j-via-else-marks-j}

pub returns-then-not-free_keeps_rules : goal.returns-then-not-free_keeps_rules
unfolding keeps_slots
returns-then-not-free_keeps_rules c = let long : length c.args.slots ≡ 32 = search unmapped in
    let o = c.if-not-slots-i.true in
    test-broken c.args.slots c.args.key (and-next _ _ (eq-eqb _ _ long) ∙ and-not-left _ _ (c.loop-i.invariant.each ∙ every-not keeps_slot _ c.loop-i.i past_slot (omega arith) (sym (kept_free (slot_in c.args.slots c.loop-i.i) _ o c.free_keeps_rules.ensures) ∙ c.if-not-free_keeps_rules.true)))

pub loop-i-preserved-then-not-slots-i : goal.loop-i-preserved-then-not-slots-i
loop-i-preserved-then-not-slots-i c = let long : length c.args.slots ≡ 32 = search unmapped in
    let x = slot_in c.args.slots c.loop-i.i in
    let o : x.is_open ≡ false = c.if-not-slots-i.true in
    let n : c.loop-i.i < length c.args.slots = omega arith in
    record {
      marks = c.loop-i.invariant.marks;
      each = c.loop-i.invariant.each ∙ every-next keeps_slot _ c.loop-i.i past_slot n (sym (kept_free x _ o c.free_keeps_rules.ensures) ∙ c.if-not-free_keeps_rules.false);
      marked = marked-free c.args.slots c.loop-i.marks c.loop-i.i c.loop-i.invariant.marked o;
      found = seen_skip (has_key c.args.key) c.args.slots c.loop-i.r.found c.loop-i.i n c.loop-i.invariant.found (free-unlike c.args.key x o);
      free = seen_next is_free c.args.slots c.loop-i.r.free c.loop-i.i n c.loop-i.invariant.free true _ (no_false _ o) (c.or-r.ensures ∙ or-seen c.loop-i.r.free c.loop-i.i);
      few = omega (arith, c.loop-i.invariant.few);
      rows = c.loop-i.invariant.rows ∙ ap (λ (n : ℕ). c.loop-i.r.rows + n) (count-free c.args.slots c.loop-i.i past_slot n o);
    }

pub returns-then-not-open_keeps_rules : goal.returns-then-not-open_keeps_rules
unfolding keeps_slots
returns-then-not-open_keeps_rules c = let long : length c.args.slots ≡ 32 = search unmapped in
    let o = c.if-not-slots-i.false in
    test-broken c.args.slots c.args.key (and-next _ _ (eq-eqb _ _ long) ∙ and-not-left _ _ (c.loop-i.invariant.each ∙ every-not keeps_slot _ c.loop-i.i past_slot (omega arith) (sym (kept-open (slot_in c.args.slots c.loop-i.i) _ o c.open_keeps_rules.ensures) ∙ c.if-not-open_keeps_rules.true)))

pub loop-i-preserved : goal.loop-i-preserved
loop-i-preserved c = let long : length c.args.slots ≡ 32 = search unmapped in
    let x = slot_in c.args.slots c.loop-i.i in
    let o : x.is_open ≡ true = c.if-not-slots-i.false in
    let n : c.loop-i.i < length c.args.slots = omega arith in
    let v = c.if-has_key.r in
    let q : Seen (has_key c.args.key) c.args.slots v.found (c.loop-i.i + 1) × (v.free ≡ c.loop-i.r.free) × (v.rows ≡ c.loop-i.r.rows) =
    elim c.if-has_key.branch [
      | then-has_key w ↦ (
        seen_next (has_key c.args.key) c.args.slots c.loop-i.r.found c.loop-i.i n c.loop-i.invariant.found true _ (sym c.has_key.ensures ∙ w.if-has_key.true) (ap (λ (r : Ruled). r.found) w.r-is ∙ w.or-r-then-has_key.ensures ∙ or-seen c.loop-i.r.found c.loop-i.i),
        ap (λ (r : Ruled). r.free) w.r-is,
        ap (λ (r : Ruled). r.rows) w.r-is,
      )
      | else-has_key w ↦ (
        rw w.r-is (seen_skip (has_key c.args.key) c.args.slots c.loop-i.r.found c.loop-i.i n c.loop-i.invariant.found (sym c.has_key.ensures ∙ w.if-has_key.false)),
        ap (λ (r : Ruled). r.free) w.r-is,
        ap (λ (r : Ruled). r.rows) w.r-is,
      )
    ] in
    record {
      marks = length-set c.loop-i.marks c.loop-i.i _ ∙ c.loop-i.invariant.marks;
      each = c.loop-i.invariant.each ∙ every-next keeps_slot _ c.loop-i.i past_slot n (sym (kept-open x _ o c.open_keeps_rules.ensures) ∙ c.if-not-open_keeps_rules.false);
      marked = marked_more c.args.slots c.loop-i.marks c.loop-i.i _ (omega (arith, c.loop-i.invariant.marks)) c.loop-i.invariant.marked c.mark.ensures;
      found = q.0;
      free = rw q.1 (seen_skip is_free c.args.slots c.loop-i.r.free c.loop-i.i n c.loop-i.invariant.free (no_true _ o));
      few = omega (arith, c.loop-i.invariant.few, q.2);
      rows = omega (arith, c.loop-i.invariant.rows, q.2, count-open c.args.slots c.loop-i.i past_slot n o);
    }

pub returns-then-r-lt2 : goal.returns-then-r-lt2
unfolding keeps_slots
returns-then-r-lt2 c = let long : length c.args.slots ≡ 32 = search unmapped in
    let n : length c.args.slots ≤ c.loop-i.i = omega arith in
    let e = past c.args.slots c.loop-i.i n in
    let rows : c.loop-i.r.rows ≡ open_count c.args.slots = omega (arith, c.loop-i.invariant.rows, ap open_count e) in
    test_good c.args.slots c.args.key c.loop-i.r (and-next _ _ (eq-eqb _ _ long) ∙ and-next _ _ (c.loop-i.invariant.each ∙ ap (every keeps_slot) e) ∙ lone-distinct c.args.slots (omega arith)) (seen_end (has_key c.args.key) c.args.slots c.loop-i.r.found c.loop-i.i n c.loop-i.invariant.found) (seen_end is_free c.args.slots c.loop-i.r.free c.loop-i.i n c.loop-i.invariant.free) rows

pub returns-then-is_alike : goal.returns-then-is_alike
unfolding keeps_slots
returns-then-is_alike c = let long : length c.args.slots ≡ 32 = search unmapped in
    let e = past c.args.slots c.loop-i.i (omega arith) in
    test-broken c.args.slots c.args.key (and-next _ _ (eq-eqb _ _ long) ∙ and-next _ _ (c.loop-i.invariant.each ∙ ap (every keeps_slot) e) ∙ c.loop-k.invariant ∙ distinct-not c.args.slots c.loop-k.k past_slot (omega arith) (c.loop-j.invariant ∙ twice-here (slot_in c.args.slots c.loop-k.k) c.args.slots c.loop-j.j (omega arith) (sym c.is_alike.ensures ∙ c.if-is_alike.true)))

pub loop-j-preserved : goal.loop-j-preserved
loop-j-preserved c = let long : length c.args.slots ≡ 32 = search unmapped in
    let h : c.loop-j.j < length c.args.slots = omega arith in
    let x = slot_in c.args.slots c.loop-k.k in
    c.loop-j.invariant ∙ twice-next x c.args.slots c.loop-j.j h
    (elim c.else-marks-j.branch [
      | else-marks-j-via-then-marks-j+else-is_alike w ↦ sym w.is_alike.ensures ∙ w.if-is_alike.false
      | else-marks-j-via-else-marks-j w ↦ marks-unlike c.args.slots c.loop-i.marks c.loop-k.k c.loop-j.j (λ n k. c.loop-i.invariant.marked n (omega arith)) (omega arith) (omega arith) w.if-marks-j.false
    ])

pub returns : goal.returns
unfolding keeps_slots
returns c = let long : length c.args.slots ≡ 32 = search unmapped in
    let n : length c.args.slots ≤ c.loop-i.i = omega arith in
    let e = past c.args.slots c.loop-i.i n in
    let rows : c.loop-i.r.rows ≡ open_count c.args.slots = omega (arith, c.loop-i.invariant.rows, ap open_count e) in
    test_good c.args.slots c.args.key c.loop-i.r (and-next _ _ (eq-eqb _ _ long) ∙ and-next _ _ (c.loop-i.invariant.each ∙ ap (every keeps_slot) e) ∙ c.loop-k.invariant ∙ ap distinct (past c.args.slots c.loop-k.k (omega arith))) (seen_end (has_key c.args.key) c.args.slots c.loop-i.r.found c.loop-i.i n c.loop-i.invariant.found) (seen_end is_free c.args.slots c.loop-i.r.free c.loop-i.i n c.loop-i.invariant.free) rows
