-- DEMAND 3, over any chain of calls and loads, across restarts too, on the table that the code's promises speak of.
use Rattle.std.specs.Prelude.{if◌then◌else◌}
use Prim.Native.Nat.{ℕ, ◌≤◌, max}
use native.Mathlib.Omega.{arith}
use mathlib.Core.Path.{◌≡◌, refl, sym, ap, ◌∙◌, subst}
use mathlib.Core.Bool.{Bool, true, false}
use mathlib.Core.List.{List, [], ◌∷◌}
use mathlib.Core.Logic.{◌⊎◌, inl, inr}
use mathlib.Core.Option.{Option, none, some as just}
use lib.ListN.{length, length-take}
use Rattle.octets.proofs.Tests.{if_yes, if_no}
use Rattle.refusals.specs.Numbers.{still_holding}
use Rattle.callsigns.specs.Callsign.{callsign}
use Rattle.names.specs.Texts.{stream_id}
use Rattle.keys.specs.declared.Key.{Key}
use Rattle.keys.specs.Key.{same_key, key_of, named_of}
use Rattle.places.specs.declared.Held.{Held}
use Rattle.rows.specs.declared.Row.{Row}
use Rattle.rows.specs.Answer.{Answer, accepted, given, refused, Outcome, refuse}
use Rattle.rows.specs.Stream.{Stream}
use Rattle.rows.specs.Stream as row
use Rattle.rows.specs.Row.{held_in, stream_of, checked}
use Rattle.rows.proofs.Rules.{kept_row}
use Rattle.streams.specs.declared.Table.{Table}
use Rattle.streams.specs.Table.{empty, has_key, keeps_table, slot_at}
use Rattle.streams.specs.Meaning.{row_for}
use Rattle.streams.proofs.Keeps.{empty-keeps, move-keeps}
use Rattle.streams.proofs.Others.{move-others, move-places}
use Rattle.streams.proofs.Alone as does
use Rattle.image.specs.Image.{load_of}
use Rattle.image.proofs.Keeps.{load-keeps, load-refused}
use Rattle.image.proofs.Back.{loaded_as, save-then-load}
use Rattle.history.specs.History.{take, force, opened, Sent, taken_in, given_out, count, count_held, next, MayPass, Ordered}
use Rattle.history.specs.Chain.{Call, offer, give, close, small, asked, Log, start, loaded, answered, noted, restored_from, mine, Saved, Chain, begins, asks, loads-own, loads-other, loads-none, closing, row_call, replay}
use Rattle.history.proofs.Sound as sound
use Rattle.history.proofs.Sound.{sound-restored, is-due}
use Rattle.history.proofs.Steps.{Led}
use Rattle.history.proofs.Serves.{On, as_row, row_keeps, asked-moves, serves}

-- ---- what a chain keeps

-- the table keeps the rules, and each stream's row is the one to which its history leads
record Good (l : Log) (t : Table) : Type 0 where
  keeps : keeps_table t ≡ true
  each : (k : Key) → On (mine k l) (row_for k t)

good-empty : Good start empty
unfolding has_key
good-empty = record { keeps = empty-keeps; each = λ k. refl }

good-asked : {l : Log} {t : Table} → Good l t → (o s : List ℕ) (c : Call) → small c ≡ true → Good (answered l o s c (asked t o s c).answer) (asked t o s c).after
good-asked {l} {t} g o s c w = record { keeps = move-keeps (asked-moves t o s c w) g.keeps; each = λ k. go k (same_key k (named_of o s).key) refl }
  where
    go : (k : Key) (b : Bool) → same_key k (named_of o s).key ≡ b
        → On (if b then noted (mine k l) c (asked t o s c).answer else mine k l) (row_for k (asked t o s c).after)
    go k true e =
        rw (as_row k (named_of o s).key (asked t o s c).after e)
        (serves t o s g.keeps (mine k l) (subst (λ (x : Option Row). On (mine k l) x) (as_row k (named_of o s).key t e) (g.each k)) c w)
    go k false e = rw (move-others (asked-moves t o s c w) k e) (g.each k)

good-loaded : (u : Table) → keeps_table u ≡ true → Good (loaded u) u
good-loaded u e = record { keeps = e; each = λ k. go k (row_for k u) refl }
  where
    go : (k : Key) (x : Option Row) → row_for k u ≡ x → On (restored_from x) x
    go k none q = refl
    go k (just r) q = record { sound = sound-restored (stream_of r) (kept_row r (row_keeps k u r e q)).stream; is = refl }

-- an image that a save wrote is loaded as the table that was saved, whatever good table is present
load-saved : (u present : Table) (image : List ℕ) → keeps_table present ≡ true → Saved u image → load_of present image ≡ loaded_as u
load-saved u present image p s = ap (load_of present) s.is ∙ save-then-load u present s.buffer s.size p s.written_as

good : {l : Log} {t : Table} → Chain l t → Good l t
good begins = good-empty
good (asks x o s c w) = good-asked (good x) o s c w
good (loads-own {l} {k} {t} {u} x y image s) =
    subst (λ (v : Table). Good k v) (ap (λ (o : Outcome Table). o.after) (sym (load-saved u t image (good x).keeps s))) (good y)
good (loads-other {l} {t} x image e) = good-loaded (load_of t image).after (load-keeps t image (good x).keeps)
good (loads-none {l} {t} x image n e) = subst (λ (u : Table). Good l u) (sym (load-refused t image n e)) (good x)

-- ---- what a take gives, and what a close frees

take-due : (s : Stream) (m : Held) (rest : List Held) (time : ℕ) → s.held ≡ m ∷ rest → row.due s m (max s.clock time) ≡ true → (row.take s time).answer ≡ given m.number m.slip
unfolding row.take
take-due s m rest time e d = rw (e, d)

-- what a close answers, by what is held
close-answer : (t : Table) (r : Row) (o : Outcome Table) → r.count ≤ length r.held → (A : Type 0) → ((r.count ≡ 0) × (o.answer ≡ accepted) × A) ⊎ ((o ≡ refuse still_holding t) × (r.count ≡ 0 → ⊥))
    → o.answer ≡ (row_call (stream_of r) close).answer
close-answer t r o h A (inl x) = x.1 ∙ rw x.0
close-answer t r o h A (inr x) = ap (λ (y : Outcome Table). y.answer) x.0 ∙ go (held_in r) refl
  where
    go : (l : List Held) → held_in r ≡ l → refused still_holding ≡ (closing (stream_of r) l).answer
    go [] e = absurd (x.1 (omega (arith, simp length-take at (ap length e))))
    go (m ∷ l) e = refl

none-held : (t : Table) (r : Row) (o : Outcome Table) (A B : Type 0) → ((r.count ≡ 0) × (o.answer ≡ accepted) × A) ⊎ ((o ≡ refuse still_holding t) × B)
    → o.answer ≡ accepted → held_in r ≡ []
none-held t r o A B (inl x) a = rw x.0 refl
none-held t r o A B (inr x) a = let q = x.0 in let z : ◌≡◌ {A = ℕ} 0 1 = cc in absurd (omega arith)

-- ---- THE THEOREMS

module _ {l : Log} {t : Table} (x : Chain l t) where
  -- no table of a chain breaks the rules
  pub rules-kept : keeps_table t ≡ true
  rules-kept = (good x).keeps

  module _ (k : Key) (r : Row) (e : row_for k t ≡ just r) where
    led : Led (mine k l) (stream_of r)
    led = subst (λ (y : Option Row). On (mine k l) y) e ((good x).each k)

    -- (1), (2), (3): of every stream that has a row
    pub demand-3 : Ordered (mine k l) (held_in r)
    demand-3 = sound.ordered (mine k l) (stream_of r) led.sound

    -- (4): the row is the one to which the stream's own history leads
    pub own_row : stream_of r ≡ replay (mine k l)
    own_row = led.is

  -- (4): a call on a stream that has a row gets the answer that a row by itself gives after that stream's own history
  module _ (o s : List ℕ) (p : callsign o ≡ true) (q : stream_id s ≡ true) (r : Row) (e : row_for (key_of o s) t ≡ just r) where
    row-answer : (y : Outcome Stream) (a : Answer) → a ≡ (checked r y).answer → a ≡ y.answer
    row-answer y a f = f ∙ ap (λ (z : Outcome Row). z.answer) (if_yes _ _ _ (row_keeps (key_of o s) t r rules-kept e))

    pub own-answer : (c : Call) → (asked t o s c).answer ≡ (row_call (replay (mine (key_of o s) l)) c).answer
    own-answer c = answers c ∙ ap (λ (y : Stream). (row_call y c).answer) (own_row (key_of o s) r e)
      where
        answers : (c : Call) → (asked t o s c).answer ≡ (row_call (stream_of r) c).answer
        answers (offer m time) = row-answer (row.offer (stream_of r) m time) _ (does.offer-does t o s rules-kept p q r e m time).answer
        answers (give take time) = row-answer (row.take (stream_of r) time) _ (does.take-does t o s rules-kept p q r e time).answer
        answers (give force time) = row-answer (row.force (stream_of r) time) _ (does.force-does t o s rules-kept p q r e time).answer
        answers close = let g = kept_row r (row_keeps (key_of o s) t r rules-kept e) in close-answer t r _ (omega (arith, g.long, g.most)) _ (does.close-does t o s rules-kept p q r e)

    -- (3), the converse: a take gives the lowest held where it is the next, and where it may pass
    pub take_gives : (m : Held) (rest : List Held) (time : ℕ) → held_in r ≡ m ∷ rest
        → (m.number ≡ next (mine (key_of o s) l)) ⊎ MayPass (mine (key_of o s) l) take m.number time → (asked t o s (give take time)).answer ≡ given m.number m.slip
    take_gives m rest time is why =
        row-answer (row.take (stream_of r) time) _ (does.take-does t o s rules-kept p q r e time).answer
        ∙ take-due (stream_of r) m rest time is (is-due (mine (key_of o s) l) (stream_of r) (led (key_of o s) r e).sound m rest is time why)

    -- (7): a close that is not refused loses nothing: all that was accepted was given out
    pub close-loses-nothing : (asked t o s close).answer ≡ accepted
        → (c : Sent → Bool) → count_held c (taken_in (mine (key_of o s) l)) ≡ count c (given_out (mine (key_of o s) l))
    close-loses-nothing a c = omega (arith, (demand-3 (key_of o s) r e).kept c, ap (count_held c) (none-held t r _ _ _ (does.close-does t o s rules-kept p q r e) a))

  -- (4): a call on another stream changes neither the row nor the history, and leaves the row at its row number
  pub others-stay : (k : Key) (o s : List ℕ) (c : Call) → small c ≡ true → same_key k (named_of o s).key ≡ false
      → (row_for k (asked t o s c).after ≡ row_for k t) × (mine k (answered l o s c (asked t o s c).answer) ≡ mine k l)
      × ((i : ℕ) → has_key k (slot_at t i) ≡ true → slot_at (asked t o s c).after i ≡ slot_at t i)
  others-stay k o s c w d = (move-others (asked-moves t o s c w) k d, if_no _ _ _ d, move-places (asked-moves t o s c w) k d)

  -- (5): an image that a save of ours wrote, before a restart too, is accepted, and brings back the table that was saved
  pub own-loaded : {k : Log} {u : Table} → Chain k u → (image : List ℕ) → Saved u image → load_of t image ≡ loaded_as u
  own-loaded {k} {u} y image s = load-saved u t image rules-kept s

  -- (7): a stream without a row has no history; so a close that is not refused, and a new row, begin a new one
  pub no-row-no-history : (k : Key) → row_for k t ≡ none → mine k l ≡ opened
  no-row-no-history k e = subst (λ (y : Option Row). On (mine k l) y) e ((good x).each k)
