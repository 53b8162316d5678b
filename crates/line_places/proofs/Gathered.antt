-- Gathering headers token by token comes to all tokens whose keys are not reserved, in order.
use Rattle.std.specs.Prelude.{if◌then◌else◌}
use Prim.Native.Nat.{ℕ, ◌+◌, ◌≤◌, ◌<◌}
use mathlib.Core.Path.{◌≡◌, refl, ap, sym, ◌∙◌}
use mathlib.Core.Bool.{Bool, true, false}
use mathlib.Core.List.{List, [], ◌∷◌, ◌++◌, map, append-nil, append_assoc}
use native.Mathlib.Omega.{arith}
use lib.ListN.{length, get_or, set, drop, replicate, length-append, length-map, length-replicate}
use lib.Seq.{set_at}
use borrow.Author.Tests.{le-leb, lt-leb, ltb-true, ltb-false}
use Rattle.octets.specs.Words.{◌and◌, ◌<?◌, ◌≤?◌, every}
use Rattle.octets.proofs.Lists.{drop-next}
use Rattle.octets.proofs.Tests.{if_yes, if_no, and-not-left, and-not-right, and_both}
use Rattle.names.specs.Reserved.{reserved}
use Rattle.headers.specs.declared.Header.{Header}
use Rattle.envelope.specs.Texts.{header_text, no_headers, with_header}
use Rattle.tokens.specs.Tokens.{Token, others}
use Rattle.line_places.specs.Headers.{short_value, headers_fit, header_of, headers_of}
use Rattle.line_places.specs.Steps.{Gathered, fitting, unfit, push_of, gather, gathered_of}

abbrev blank : Header
blank = header_text [] []

map_snoc : (l : List Token) (t : Token) → map header_of (l ++ (t ∷ [])) ≡ map header_of l ++ (header_of t ∷ [])
map_snoc [] t = refl
map_snoc (u ∷ l) t = ap (λ (x : List Header). header_of u ∷ x) (map_snoc l t)

-- one header more, behind those that are there
module _ (l : List Token) (t : Token) (h : length l < 8) where
  abbrev behind : ℕ → List Header
  behind n = drop n (replicate 8 blank)

  placed : set (map header_of l ++ behind (length (map header_of l))) (length l) (header_of t) ≡ map header_of (l ++ (t ∷ [])) ++ behind (length (map header_of (l ++ (t ∷ []))))
  placed =
      let n = length-map l header_of in
      let m : length (map header_of (l ++ (t ∷ []))) ≡ length (map header_of l) + 1 = length-map (l ++ (t ∷ [])) header_of ∙ length-append l (t ∷ []) ∙ ap (λ (k : ℕ). k + 1) (sym n) in
      let k : length (map header_of l) < length (replicate 8 blank) = omega (arith, length-replicate 8 blank) in
      ap (λ (x : List Header). set (map header_of l ++ x) (length l) (header_of t)) (drop-next (replicate 8 blank) (length (map header_of l)) blank k)
      ∙ set_at (map header_of l) (get_or (replicate 8 blank) (length (map header_of l)) blank) (behind (length (map header_of l) + 1)) (header_of t) (length l) n
      ∙ sym (rw (m, map_snoc l t) (append_assoc (map header_of l) (header_of t ∷ []) (behind (length (map header_of l) + 1))))

  pub one_more : with_header (headers_of l) (header_of t) ≡ headers_of (l ++ (t ∷ []))
  unfolding with_header headers_of
  one_more =
      if_no _ _ _ (lt-leb 8 (length l) h)
      ∙ ap (λ (x : List Header). record { items = x; count = length l + 1 }) placed
      ∙ ap (λ (n : ℕ). record { items = map header_of (l ++ (t ∷ [])) ++ behind (length (map header_of (l ++ (t ∷ [])))); count = n }) (sym (length-append l (t ∷ [])))

-- what does not fit stays
pub gather-stays : (r : Gathered) (ts : List Token) → r.fit ≡ false → gather r ts ≡ r
unfolding gather
gather-stays r [] e = refl
gather-stays r (t ∷ ts) e = if_no _ _ _ e

-- the headers of l are there: those among ts come behind them, where they fit
abbrev whole : List Token → List Token → Gathered
whole l os = if length (l ++ os) ≤? 8 and every short_value os then fitting (headers_of (l ++ os)) else unfit

module _ (l : List Token) (t : Token) (ts : List Token) where
  full : 8 ≤ length l → whole l (t ∷ others ts) ≡ unfit
  full k = if_no _ _ _ (and-not-left _ _ (lt-leb (length (l ++ (t ∷ others ts))) 8 (omega (arith, length-append l (t ∷ others ts)))))

  long : short_value t ≡ false → whole l (t ∷ others ts) ≡ unfit
  long f = if_no _ _ _ (and-not-right (length (l ++ (t ∷ others ts)) ≤? 8) _ (and-not-left _ _ f))

  short : short_value t ≡ true → whole (l ++ (t ∷ [])) (others ts) ≡ whole l (t ∷ others ts)
  short f = rw (append_assoc l (t ∷ []) (others ts), f)

  abbrev Next : Type 0
  Next = length l < 8 → gather (fitting (headers_of (l ++ (t ∷ [])))) ts ≡ whole (l ++ (t ∷ [])) (others ts)

  no_room : length l <? 8 and short_value t ≡ false → whole l (t ∷ others ts) ≡ unfit
      → gather (if length l <? 8 and short_value t then fitting (with_header (headers_of l) (header_of t)) else unfit) ts ≡ whole l (t ∷ others ts)
  no_room e f = ap (λ (r : Gathered). gather r ts) (if_no _ _ _ e) ∙ gather-stays unfit ts refl ∙ sym f

  at_room : (b c : Bool) → (length l <? 8) ≡ b → short_value t ≡ c → Next
      → gather (if length l <? 8 and short_value t then fitting (with_header (headers_of l) (header_of t)) else unfit) ts ≡ whole l (t ∷ others ts)
  at_room true true e f next =
      let k = ltb-true (length l) 8 e in
      ap (λ (r : Gathered). gather r ts) (if_yes _ _ _ (and_both _ _ e f) ∙ ap fitting (one_more l t k)) ∙ next k ∙ short f
  at_room true false e f next = no_room (and-not-right (length l <? 8) _ f) (long f)
  at_room false c e f next = no_room (and-not-left _ _ e) (full (ltb-false (length l) 8 e))

  at_key : (b : Bool) → reserved t.key ≡ b → gather (fitting (headers_of l)) ts ≡ whole l (others ts) → Next → gather (fitting (headers_of l)) (t ∷ ts) ≡ whole l (others (t ∷ ts))
  unfolding gather others push_of headers_of
  at_key true e same next = rw e same
  at_key false e same next = rw e (at_room (length l <? 8) (short_value t) refl refl next)

gather-whole : (l ts : List Token) → length l ≤ 8 → gather (fitting (headers_of l)) ts ≡ whole l (others ts)
unfolding gather others
gather-whole l [] h = rw (append-nil l) (sym (if_yes _ _ _ (and_both _ _ (le-leb (length l) 8 h) refl)))
gather-whole l (t ∷ ts) h =
    at_key l t ts (reserved t.key) refl (gather-whole l ts h) (λ k. gather-whole (l ++ (t ∷ [])) ts (omega (arith, length-append l (t ∷ []))))

pub all-gathered : (ts : List Token) → gather (fitting no_headers) ts ≡ gathered_of ts
unfolding gathered_of headers_fit headers_of
all-gathered ts = gather-whole [] ts (omega arith)
