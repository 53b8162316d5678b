-- The laws of the whole layout, from those of its fields.
use Prim.Native.Nat.{ℕ}
use mathlib.Core.Path.{◌≡◌, refl, ap, sym, ◌∙◌}
use mathlib.Core.Bool.{Bool, true, false}
use mathlib.Core.List.{List, ◌++◌}
use native.Mathlib.Omega.{arith}
use lib.ListN.{length, drop, length-take}
use borrow.Author.Tests.{le-leb}
use Rattle.octets.specs.Words.{◌≤?◌}
use Rattle.octets.specs.Field.{Field, got, num, seq, through, signed_num}
use Rattle.octets.proofs.Tests.{and_left, and_right, inside-low}
use Rattle.octets.proofs.FieldLaws.{Read, Laws, bound, seq-laws, given-there}
use Rattle.headers.specs.declared.Headers.{Headers}
use Rattle.layout.specs.declared.Flags.{Flags}
use Rattle.layout.specs.Layout.{headers, headers_of, flags, hex_id, salt_if, ttl_if, address, call, call_if, flood_if, hops, hops_if, fragment, fragment_if, stream, stream_if, headers_if, opening, ends, way, options, Opening, Ends, Way, Options, message_of, parts_of, parts, layout}
use Rattle.layout.proofs.Laws.{bits-number, header_list-between, flags-laws, hex_id-laws, salt_if-laws, ttl_if-laws, address-laws, call_if-laws, flood_if-laws, hops_if-laws, fragment_if-laws, stream_if-laws, headers_if-laws}

-- tidying flags changes nothing
pub flags-tidy : (f : Flags) → flags.tidy f ≡ f
unfolding flags
flags-tidy f = bits-number f

pub opening-flags : (o : Opening) → (opening.tidy o).0 ≡ o.0
unfolding opening
opening-flags o = flags-tidy o.0

pub opening-laws : Laws opening
unfolding opening
opening-laws =
    seq-laws flags _ (λ f h. ap (λ f. seq hex_id (λ i. seq (salt_if f.salt) (λ s. ttl_if f.ttl))) (flags-tidy f)) flags-laws
    (λ f. seq-laws hex_id _ (λ a h. refl) hex_id-laws (λ i. seq-laws (salt_if f.salt) _ (λ a h. refl) (salt_if-laws f.salt) (λ s. ttl_if-laws f.ttl)))

pub ends-laws : (f : Flags) → Laws (ends f)
unfolding ends
ends-laws f = seq-laws address _ (λ a h. refl) address-laws (λ d. seq-laws (call_if f.originator) _ (λ a h. refl) (call_if-laws f.originator) (λ o. call_if-laws f.link))

pub way-laws : (f : Flags) → Laws (way f)
unfolding way
way-laws f = seq-laws (flood_if f.flood) _ (λ a h. refl) (flood_if-laws f.flood) (λ n. seq-laws (hops_if f.route) _ (λ a h. refl) (hops_if-laws f.route) (λ r. hops_if-laws f.hops))

pub options-laws : (f : Flags) → Laws (options f)
unfolding options
options-laws f =
    seq-laws (fragment_if f.fragment) _ (λ a h. refl) (fragment_if-laws f.fragment)
    (λ g. seq-laws (stream_if f.stream) _ (λ a h. refl) (stream_if-laws f.stream) (λ s. headers_if-laws f.headers))

pub parts_laws : Laws parts
parts_laws =
    seq-laws opening _ (λ o h. ap (λ f. seq (ends f) (λ e. seq (way f) (λ w. options f))) (opening-flags o)) opening-laws
    (λ o. seq-laws (ends o.0) _ (λ a h. refl) (ends-laws o.0) (λ e. seq-laws (way o.0) _ (λ a h. refl) (way-laws o.0) (λ w. options-laws o.0)))

-- ---- a message: what was read comes back out of the way in which it is held, if it is tidy

abbrev Comes : {A B : Type 0} → (A → B) → (B → A) → Field A → Type 0
Comes {A = A} to from F = (a : A) → F.ok a ≡ true → F.tidy a ≡ a → from (to a) ≡ a

moved : {A : Type 0} (F : Field A) (s : List ℕ) (a b : A) (n m : ℕ) → a ≡ b → n ≡ m → Read F s b m → Read F s a n
moved F s a b n m e f r = rw (e, f) r

through-tidy-laws : {A B : Type 0} (to : A → B) (from : B → A) (F : Field A) → Comes to from F → Laws F → Laws (through to from (λ b. true) F)
through-tidy-laws to from F out lf = record {
  back = λ b t h. rw (lf.back (from b) t h);
  forth = λ s b n hs e.
      let b1 = bound (F.parse s) (λ a n. got (to a) n) b n e in
      let r = lf.forth s b1.val b1.used hs b1.first in
      let eb : b ≡ to b1.val = cc in
      let en : n ≡ b1.used = cc in
      let w = out b1.val r.good r.tidied in
      moved (through to from (λ b. true) F) s b (to b1.val) n b1.used eb en (record {
        good = rw w r.good;
        tidied = rw (w, r.tidied);
        size = r.size ∙ ap (λ a. length (F.print a)) (sym w);
        same = r.same ∙ ap (λ a. F.print a ++ drop b1.used s) (sym w);
      });
  room = λ s b n e.
      let b1 = bound (F.parse s) (λ a n. got (to a) n) b n e in
      let en : n ≡ b1.used = cc in
      omega (arith, lf.room s b1.val b1.used b1.first);
}

-- the headers' flag is set where there are headers
headers-flag : (b : Bool) (h : Headers) → (headers_if b).ok h ≡ true → (headers_if b).tidy h ≡ h → (1 ≤? h.count) ≡ b
unfolding headers
headers-flag true h e t =
    let l = inside-low 1 8 (length (headers_of h)) (header_list-between (headers_of h) (and_right (h.count ≤? 8) _ e)) in
    le-leb 1 h.count (omega (arith, length-take h.count h.items))
headers-flag false h e t = ap (λ (x : Headers). 1 ≤? x.count) (sym t)

flags-made : (f : Flags) (a b c d e g h i j k : Bool) → a ≡ f.salt → b ≡ f.ttl → c ≡ f.headers → d ≡ f.originator → e ≡ f.link → g ≡ f.flood → h ≡ f.route → i ≡ f.hops → j ≡ f.fragment
    → k ≡ f.stream → ◌≡◌ {A = Flags} (record { salt = a; ttl = b; headers = c; originator = d; link = e; flood = g; route = h; hops = i; fragment = j; stream = k }) f
flags-made f a b c d e g h i j k ea eb ec ed ee eg eh ei ej ek = rw (ea, eb, ec, ed, ee, eg, eh, ei, ej, ek)

comes_back : Comes message_of parts_of parts
unfolding opening ends way options
comes_back x e t =
    let f = x.0.0 in
    let s = and_right (hex_id.ok x.0.1.0) _ (and_right (flags.ok f) _ (and_left (opening.ok x.0) _ e)) in
    let e1 = and_right (opening.ok x.0) _ e in
    let n = and_right (address.ok x.1.0.0) _ (and_left ((ends f).ok x.1.0) _ e1) in
    let e2 = and_right ((ends f).ok x.1.0) _ e1 in
    let w = and_left ((way f).ok x.1.1.0) _ e2 in
    let v = and_right ((flood_if f.flood).ok x.1.1.0.0) _ w in
    let e3 = and_right ((way f).ok x.1.1.0) _ e2 in
    let e4 = and_right ((fragment_if f.fragment).ok x.1.1.1.0) _ e3 in
    let good = and_right ((stream_if f.stream).ok x.1.1.1.1.0) ((headers_if f.headers).ok x.1.1.1.1.1) e4 in
    ap (λ (y : Flags). ((y, x.0.1), x.1)) (flags-made f _ _ _ _ _ _ _ _ _ _
    (given-there f.salt signed_num x.0.1.1.0 (and_left _ _ s))
    (given-there f.ttl (num 4) x.0.1.1.1 (and_right ((salt_if f.salt).ok x.0.1.1.0) _ s))
    (headers-flag f.headers x.1.1.1.1.1 good (ap (λ (y : Opening × (Ends × (Way × Options))). y.1.1.1.1.1) t))
    (given-there f.originator (call 2) x.1.0.1.0 (and_left _ _ n))
    (given-there f.link (call 2) x.1.0.1.1 (and_right ((call_if f.originator).ok x.1.0.1.0) _ n))
    (given-there f.flood (num 1) x.1.1.0.0 (and_left _ _ w))
    (given-there f.route hops x.1.1.0.1.0 (and_left _ _ v))
    (given-there f.hops hops x.1.1.0.1.1 (and_right ((hops_if f.route).ok x.1.1.0.1.0) _ v))
    (given-there f.fragment fragment x.1.1.1.0 (and_left _ _ e3))
    (given-there f.stream stream x.1.1.1.1.0 (and_left _ _ e4)))

pub layout-laws : Laws layout
unfolding layout
layout-laws = through-tidy-laws message_of parts_of parts comes_back parts_laws
