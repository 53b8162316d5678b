-- What the steps of the reader come to: each part that was found, and each that was not.
use Prim.Native.Nat.{ℕ, ◌+◌, ◌-◌, ◌<◌, ◌≤◌}
use native.Mathlib.Omega.{arith}
use mathlib.Core.Path.{◌≡◌, refl, sym, ap, ◌∙◌}
use mathlib.Core.List.{List, [], ◌++◌}
use mathlib.Core.Bool.{Bool, true, false}
use denote.Bor.{Bor}
use Rattle.std.specs.Result.{result_ok}
use Rattle.std.specs.Prelude.{Option, Some, None, Result, Ok, Err, slice_range, option_map, if◌then◌else◌}
use lib.ListN.{length, take, drop, set, replicate, length-drop, take-append-drop}
use lib.Seq.{take_all, drop-append_seam, drop-drop, length-take-le}
use borrow.Author.Tests.{le-leb, lt-leb, leb-true, eq-eqb}
use Rattle.octets.specs.Words.{◌and◌, no, every, ◌≤?◌}
use Rattle.octets.specs.Field.{Res, bad, got, bind, num, many_parse}
use Rattle.octets.proofs.FieldLaws.{picked, num_laws, many-laws}
use Rattle.octets.proofs.Tests.{if_yes, if_no, and-next}
use Rattle.callsigns.specs.Callsign.{callsign}
use Rattle.names.specs.Texts.{stream_id}
use Rattle.keys.specs.declared.Key.{Key}
use Rattle.keys.specs.Key.{Named, key_of, named_says, named_of}
use Rattle.refusals.specs.declared.Refusal.{Refusal}
use Rattle.refusals.proofs.Told.{not-0}
use Rattle.places.specs.declared.Held.{Held}
use Rattle.rows.specs.declared.Row.{Row}
use Rattle.rows.specs.Stream.{Stream, keeps}
use Rattle.rows.specs.Row.{blank, is_blank, places, row_of, keeps_row}
use Rattle.places.proofs.Packing.{length-places, all-blank}
use Rattle.rows.proofs.Rules.{unpacks}
use Rattle.records.specs.Record.{text, key, message, messages, row, body}
use Rattle.records.proofs.Laws.{drop-same, all_any, text-laws, key_laws, message-laws, body-laws}
use Rattle.records.proofs.Turns.{Turn, turn_more, last_turn, many-length}
use Rattle.octets.specs.Reading.{read_as}

-- the rest of a slice
abbrev pub from : ℕ → List ℕ → List ℕ
from k d = take (length d - k) (drop k d)

pub rest : (k : ℕ) (d : List ℕ) → from k d ≡ drop k d
rest k d = take_all (length d - k) (drop k d) (rw length-drop (omega arith))

-- ---- what a reader's answer says of the field's reading

-- the field's reading, from an answer that is its own
abbrev as_read : {A : Type 0} → Option (A × ℕ) → Res A
as_read None = bad
as_read (Some q) = got q.0 q.1

told : {A : Type 0} (x : Res A) → x ≡ as_read (read_as (λ a. a) x)
told bad = refl
told (got v n) = refl

pub missed : {A B : Type 0} (f : A → B) (x : Res A) (r : Option (B × ℕ)) → r ≡ None → r ≡ read_as f x → x ≡ bad
missed f bad r p e = refl
missed f (got v n) r p e = cc

pub found : {A : Type 0} (x : Res A) (v : A) (n : ℕ) (r : Option (A × ℕ)) → r ≡ Some (v, n) → r ≡ read_as (λ a. a) x → x ≡ got v n
found x v n r p e = told x ∙ ap as_read (sym e ∙ p)

-- the same where the reader is given the rest of a slice
module _ {A : Type 0} (parse : List ℕ → Res A) (k : ℕ) (d : List ℕ) where
  pub missed_at : {B : Type 0} (f : A → B) (r : Option (B × ℕ)) → r ≡ None → r ≡ read_as f (parse (from k d)) → parse (drop k d) ≡ bad
  missed_at f r p e = rw (← rest k d) (missed f (parse (from k d)) r p e)

  pub found_at : (v : A) (n : ℕ) (r : Option (A × ℕ)) → r ≡ Some (v, n) → r ≡ read_as (λ a. a) (parse (from k d)) → parse (drop k d) ≡ got v n
  found_at v n r p e = rw (← rest k d) (found (parse (from k d)) v n r p e)

-- a number takes as many bytes as its width
pub record Number (w : ℕ) (s : List ℕ) (v : ℕ) : Type 0 where
  pub long : w ≤ length s
  pub is : (num w).parse s ≡ got v w

pub number : (w : ℕ) (s : List ℕ) (v n : ℕ) → (num w).parse s ≡ got v n → Number w s v
number w s v n e =
    let p = picked (w ≤? length s) _ v n e in
    let z : n ≡ w = cc in
    record { long = leb-true w (length s) p.0; is = e ∙ ap (got v) z }

-- ---- a text

-- v: the length as it stands there, n: the same as the code widened it
module _ (s : List ℕ) (v n : ℕ) (h : Number 1 s v) (en : n ≡ v) where
  pub text-short : length s < 1 + n → text.parse s ≡ bad
  unfolding text
  text-short l = rw (h.is, lt-leb v (length (drop 1 s)) (rw length-drop (omega arith)))

  pub text-read : (t : List ℕ) → 1 + n ≤ length s → t ≡ slice_range s 1 (1 + n) → text.parse s ≡ got t (1 + n)
  unfolding text
  text-read t l et =
      let z : 1 + n - 1 ≡ v = omega arith in
      let p : t ≡ take v (drop 1 s) = et ∙ ap (λ (k : ℕ). take k (drop 1 s)) z in
      rw (h.is, le-leb v (length (drop 1 s)) (rw length-drop (omega arith)), all_any (take v (drop 1 s)), p, en)

-- ---- the key

-- a text as the code has it
abbrev pub shown : Option (Bor (List ℕ) × ℕ) → Option (List ℕ × ℕ)
shown r = option_map (λ x. (x.0.now, x.1)) r

-- what naming a key comes to, by the two tests
abbrev named_by : Bool → Bool → Key → Named
named_by a b k = if no a then named_says (Err Refusal.NoCallsign) else if no b then named_says (Err Refusal.StreamIdMalformed) else named_says (Ok k)

-- a key is named where both names are valid, and nowhere else
named-not : (o i : List ℕ) (r : Result Key Refusal) → named_says r ≡ named_of o i → ◌≡◌ {A = Option Key} None (result_ok r) → callsign o and stream_id i ≡ false
unfolding named_of
named-not o i (Ok k) e p = cc
named-not o i (Err why) e p = go (callsign o) (stream_id i) e
  where
    go : (a b : Bool) → named_says (Err why) ≡ named_by a b (key_of o i) → a and b ≡ false
    go true true q = absurd (not-0 why (ap (λ (n : Named). n.refusal) q))
    go true false q = refl
    go false b q = refl

named-yes : (o i : List ℕ) (r : Result Key Refusal) (k : Key) → named_says r ≡ named_of o i → Some k ≡ result_ok r → (callsign o and stream_id i ≡ true) × (k ≡ key_of o i)
unfolding named_of
named-yes o i (Err why) k e p = let z : ◌≡◌ {A = ℕ} 0 1 = cc in absurd (omega arith)
named-yes o i (Ok j) k e p = go (callsign o) (stream_id i) e
  where
    go : (a b : Bool) → named_says (Ok j) ≡ named_by a b (key_of o i) → (a and b ≡ true) × (k ≡ key_of o i)
    go true true q = let z : k ≡ j = cc in (refl, z ∙ ap (λ (n : Named). n.key) q)
    go true false q = let z : ◌≡◌ {A = ℕ} 0 9 = ap (λ (n : Named). n.refusal) q in absurd (omega arith)
    go false b q = let z : ◌≡◌ {A = ℕ} 0 8 = ap (λ (n : Named). n.refusal) q in absurd (omega arith)

module _ (s : List ℕ) where
  pub key-none : text.parse s ≡ bad → key.parse s ≡ bad
  unfolding key
  key-none e = rw e

  module _ (o : List ℕ) (n : ℕ) (a : text.parse s ≡ got o n) where
    pub key-start : n ≤ length s
    key-start = text-laws.room s o n a

    pub key-no-id : text.parse (drop n s) ≡ bad → key.parse s ≡ bad
    unfolding key
    key-no-id e = rw (a, e)

    module _ (i : List ℕ) (m : ℕ) (b : text.parse (drop n s) ≡ got i m) where
      key-by : key.parse s ≡ (if callsign o and stream_id i then got (key_of o i) (n + m) else bad)
      unfolding key
      key-by = rw (a, b) (go (callsign o and stream_id i))
        where
          go : (t : Bool) → bind {A = List ℕ × List ℕ} (if t then got (o, i) (n + m) else bad) (λ x u. got (key_of x.0 x.1) u) ≡ (if t then got (key_of o i) (n + m) else bad)
          go true = refl
          go false = refl

      pub key-room : n + m ≤ length s
      key-room = omega (arith, key-start, text-laws.room (drop n s) i m b, length-drop n s)

      module _ (r : Result Key Refusal) (e : named_says r ≡ named_of o i) where
        pub key-not : ◌≡◌ {A = Option Key} None (result_ok r) → key.parse s ≡ bad
        key-not p = key-by ∙ if_no _ _ _ (named-not o i r e p)

        pub key-yes : (k : Key) → Some k ≡ result_ok r → key.parse s ≡ got k (n + m)
        key-yes k p = let w = named-yes o i r k e p in key-by ∙ if_yes _ _ _ w.0 ∙ ap (λ (x : Key). got x (n + m)) (sym w.1)

-- ---- the messages

messages-left : (d : List ℕ) (at : ℕ) (m : Held) (n : ℕ) → message.parse (drop at d) ≡ got m n → n ≤ length d - at
messages-left d at m n e = omega (arith, message-laws.room (drop at d) m n e, length-drop at d)

-- a turn of the loop
module _ (k : ℕ) (d : List ℕ) (list : List Held) (at i : ℕ) (g : Turn message k d (replicate 16 blank) list at i) where
  module _ (m : Held) (n : ℕ) (e : message.parse (drop at d) ≡ got m n) where
    pub messages-room : at + n ≤ length d
    messages-room = omega (arith, g.room, messages-left d at m n e)

    pub messages-more : k ≤ 16 → i < k → Turn message k d (replicate 16 blank) (set list i m) (at + n) (i + 1)
    messages-more l h = turn_more message k d (replicate 16 blank) list at i g h m n l e (messages-left d at m n e)

  -- at the end of the loop, over the array that was empty at first
  pub messages-end : k ≤ 16 → k ≤ i → ◌≡◌ {A = Option (List Held × ℕ)} (Some (list, at)) (read_as places (many_parse message k d))
  messages-end m h =
      let n : length list ≡ 16 = g.size in
      let w : length (take i list) ≡ i = length-take-le i list (omega (arith, g.low)) in
      let p : list ≡ places (take i list) =
      sym (take-append-drop i list) ∙ ap (λ (r : List Held). take i list ++ r) (g.behind ∙ drop-same blank i 16 ∙ ap (λ (j : ℕ). replicate (16 - j) blank) (sym w)) in
      ap {B = Option (List Held × ℕ)} (λ (r : List Held). Some (r, at)) p ∙ sym (ap (read_as places) (last_turn message k d (replicate 16 blank) list at i g h))

-- the messages that were read, and their places
pub messages-found : (x : Res (List Held)) (h : List Held) (n : ℕ) (r : Option (List Held × ℕ)) → r ≡ Some (h, n) → r ≡ read_as places x → (l : List Held) × (x ≡ got l n) × (h ≡ places l)
messages-found bad h n r p e = cc
messages-found (got l m) h n r p e =
    let q = sym p ∙ e in
    (l, ap (got l) (sym (ap used q)), ap value q)
  where
    used : Option (List Held × ℕ) → ℕ
    used None = 0
    used (Some w) = w.1

    value : Option (List Held × ℕ) → List Held
    value None = []
    value (Some w) = w.0

-- ---- the row

-- the same number, as the code widened it
pub widened : (x : Res ℕ) (v n k : ℕ) → x ≡ got v n → k ≡ v → x ≡ got k n
widened x v n k e z = rw z e

-- the rules of a packed row are those of the stream
keeps-packed : (s : Stream) → length s.held ≤ 16 → keeps_row (row_of s) ≡ keeps s
unfolding keeps_row
keeps-packed s m =
    and-next _ _ (eq-eqb _ _ (length-places s.held m))
    ∙ and-next _ _ (le-leb _ _ m)
    ∙ and-next _ _ (ap (every is_blank) (drop-append_seam s.held _) ∙ all-blank (16 - length s.held))
    ∙ ap keeps (unpacks s)

module _ (s : List ℕ) where
  pub row-1 : (num 8).parse s ≡ bad → row.parse s ≡ bad
  unfolding row
  row-1 e = rw e

  module _ (x a : ℕ) (ea : (num 8).parse s ≡ got x a) where
    pub start-1 : a ≤ length s
    start-1 = (num_laws 8).room s x a ea

    pub row-2 : (num 4).parse (drop a s) ≡ bad → row.parse s ≡ bad
    unfolding row
    row-2 e = rw (ea, e)

    module _ (y b : ℕ) (eb : (num 4).parse (drop a s) ≡ got y b) where
      pub start-2 : a + b ≤ length s
      start-2 = omega (arith, start-1, (num_laws 4).room (drop a s) y b eb, length-drop a s)

      pub row-3 : (num 4).parse (drop (a + b) s) ≡ bad → row.parse s ≡ bad
      unfolding row
      row-3 e = rw (ea, eb, drop-drop, e)

      module _ (z c : ℕ) (ec : (num 4).parse (drop (a + b) s) ≡ got z c) where
        pub start-3 : a + b + c ≤ length s
        start-3 = omega (arith, start-2, (num_laws 4).room (drop (a + b) s) z c ec, length-drop (a + b) s)

        pub row-4 : (num 1).parse (drop (a + b + c) s) ≡ bad → row.parse s ≡ bad
        unfolding row messages
        row-4 e = rw (ea, eb, drop-drop, ec, drop-drop, e)

        module _ (k n : ℕ) (en : (num 1).parse (drop (a + b + c) s) ≡ got k n) where
          pub start-4 : a + b + c + n ≤ length s
          start-4 = omega (arith, start-3, (num_laws 1).room (drop (a + b + c) s) k n en, length-drop (a + b + c) s)

          pub row-5 : 16 < k → row.parse s ≡ bad
          unfolding row messages
          row-5 h = rw (ea, eb, drop-drop, ec, drop-drop, en, lt-leb k 16 h)

          module _ (h : k ≤ 16) where
            pub row-6 : many_parse message k (drop (a + b + c + n) s) ≡ bad → row.parse s ≡ bad
            unfolding row messages
            row-6 e = rw (ea, eb, drop-drop, ec, drop-drop, en, le-leb k 16 h, drop-drop, e)

            -- the messages stand in their places
            module _ (list : List Held) (m : ℕ) (r : Option (List Held × ℕ)) (er : r ≡ Some (list, m)) (em : r ≡ read_as places (many_parse message k (from (a + b + c + n) s))) where
              w : (l : List Held) × (many_parse message k (drop (a + b + c + n) s) ≡ got l m) × (list ≡ places l)
              w = rw (← rest (a + b + c + n) s) (messages-found (many_parse message k (from (a + b + c + n) s)) list m r er em)

              abbrev made : Row
              made = record { expected = x; clock = y; gap_start = z; count = k; held = list }

              row_by : row.parse s ≡ (if keeps_row made then got made (a + b + c + n + m) else bad)
              unfolding row messages
              row_by =
                  let l = w.0 in
                  let j : length l ≡ k = many-length message k (drop (a + b + c + n) s) l m w.1 in
                  let st : Stream = record { expected = x; clock = y; gap_start = z; held = l } in
                  let p : row_of st ≡ made = λ i. record { expected = x; clock = y; gap_start = z; count = j i; held = sym w.2 i } in
                  let u : a + (b + (c + (n + m))) ≡ a + b + c + n + m = omega arith in
                  let q : keeps st ≡ keeps_row made = sym (keeps-packed st (omega arith)) ∙ ap keeps_row p in
                  rw (ea, eb, drop-drop, ec, drop-drop, en, le-leb k 16 h, drop-drop, w.1, u, q) (go (keeps_row made) st p)
                where
                  go : (b' : Bool) (st : Stream) → row_of st ≡ made
                      → bind {A = Stream} (if b' then got st (a + b + c + n + m) else bad) (λ v u. got (row_of v) u) ≡ (if b' then got made (a + b + c + n + m) else bad)
                  go true st p = ap (λ (v : Row). got v (a + b + c + n + m)) p
                  go false st p = refl

              pub row-not : keeps_row made ≡ false → row.parse s ≡ bad
              row-not q = row_by ∙ if_no _ _ _ q

              pub row-yes : keeps_row made ≡ true → row.parse s ≡ got made (a + b + c + n + m)
              row-yes q = row_by ∙ if_yes _ _ _ q

              pub row-room : a + b + c + n + m ≤ length s
              row-room = omega (arith, start-4, (many-laws message k message-laws).room (drop (a + b + c + n) s) w.0 m w.1, length-drop (a + b + c + n) s)

-- ---- the record

module _ (s : List ℕ) where
  pub body-1 : key.parse s ≡ bad → body.parse s ≡ bad
  unfolding body
  body-1 e = rw e

  module _ (k : Key) (n : ℕ) (ek : key.parse s ≡ got k n) where
    pub body-start : n ≤ length s
    body-start = key_laws.room s k n ek

    pub body-2 : row.parse (drop n s) ≡ bad → body.parse s ≡ bad
    unfolding body
    body-2 e = rw (ek, e)

    module _ (r : Row) (m : ℕ) (er : row.parse (drop n s) ≡ got r m) where
      pub body-3 : body.parse s ≡ got (k, r) (n + m)
      unfolding body
      body-3 = rw (ek, er)

      pub body-room : n + m ≤ length s
      body-room = body-laws.room s (k, r) (n + m) body-3
