-- ASCII: what was gathered of a step tells of all its bytes; the run that a text begins with, and the rest behind it.
use Rattle.std.specs.Prelude.{if◌then◌else◌}
use Prim.Native.Nat.{ℕ, zero, suc, ◌+◌, ◌-◌, ◌≤◌, ◌<◌}
use mathlib.Core.Path.{◌≡◌, refl, sym, ap, ◌∙◌}
use mathlib.Core.Bool.{Bool, true, false}
use mathlib.Core.List.{List, [], ◌∷◌, ◌++◌}
use native.Mathlib.Omega.{arith}
use lib.Bits.{bit_or, or_lt, or_add_and, and_le_l, and_le_r}
use lib.ListN.{length, get_or, take, drop, length-drop}
use lib.Seq.{drop-drop}
use borrow.Author.Tests.{le-leb, lt-leb, leb-true, leb-false}
use Rattle.octets.specs.Words.{◌and◌, every, ◌≤?◌}
use Rattle.octets.proofs.Tests.{if_yes, if_no, and_left, and_right, and_both, and-next, and-true, and_assoc, inside-high}
use Rattle.octets.proofs.Lists.{drop-next}
use Rattle.utf8.specs.Utf8.{utf8, run}
use Rattle.utf8.specs.Ascii.{ascii, ascii_run, behind_ascii}
use Rattle.utf8.proofs.Runs.{ascii-well-formed, row-decides}

-- ---- a step

-- no byte is below 0x00
up_to : (b : ℕ) → ascii b ≡ (b ≤? 0x7F)
up_to b = and-next _ _ (le-leb 0 b (omega arith))

-- two numbers gathered are up to 0x7F exactly if both are
pub or-up-to : (a b : ℕ) → (bit_or a b ≤? 0x7F) ≡ (a ≤? 0x7F) and (b ≤? 0x7F)
or-up-to a b = go (a ≤? 0x7F) (b ≤? 0x7F) refl refl
  where
    go : (p q : Bool) → (a ≤? 0x7F) ≡ p → (b ≤? 0x7F) ≡ q → (bit_or a b ≤? 0x7F) ≡ p and q
    go true true e f =
        let h : bit_or a b < 128 = or_lt 7 a b (omega (arith, leb-true a 0x7F e)) (omega (arith, leb-true b 0x7F f)) in
        le-leb (bit_or a b) 0x7F (omega (arith, h))
    go true false e f = lt-leb (bit_or a b) 0x7F (omega (arith, leb-false b 0x7F f, or_add_and a b, and_le_l a b))
    go false q e f = lt-leb (bit_or a b) 0x7F (omega (arith, leb-false a 0x7F e, or_add_and a b, and_le_r a b))

-- the bytes of a step gathered, bit by bit, with g
unfoldable pub gather : ℕ → List ℕ → ℕ
gather g [] = g
gather g (b ∷ t) = gather (bit_or g b) t

-- what was gathered is up to 0x7F exactly if g and all the bytes are: begun with 0, exactly if all the bytes are
pub gathered-ascii : (g : ℕ) (t : List ℕ) → (gather g t ≤? 0x7F) ≡ (g ≤? 0x7F) and every ascii t
unfolding gather
gathered-ascii g [] = sym (and-true (g ≤? 0x7F))
gathered-ascii g (b ∷ t) = gathered-ascii (bit_or g b) t ∙ rw (or-up-to g b, up_to b) (sym (and_assoc (g ≤? 0x7F) (b ≤? 0x7F) (every ascii t)))

-- the bytes of a step from its place i on
abbrev pub ahead : List ℕ → ℕ → ℕ → ℕ → List ℕ
ahead s at width i = take (width - i) (drop (at + i) s)

-- at first all are ahead
pub ahead-all : (s : List ℕ) (at width : ℕ) → ahead s at width 0 ≡ take width (drop at s)
ahead-all s at width = let e : width - 0 ≡ width = omega arith in let f : at + 0 ≡ at = omega arith in rw (e, f)

-- one byte more is gathered
pub gather-next : (s : List ℕ) (at width g i : ℕ) → i < width → at + width ≤ length s
    → gather g (ahead s at width i) ≡ gather (bit_or g (get_or s (at + i) 0)) (ahead s at width (i + 1))
unfolding gather
gather-next s at width g i h k =
    let e : width - i ≡ suc (width - (i + 1)) = omega arith in
    let f : at + (i + 1) ≡ at + i + 1 = omega arith in
    rw (e, f, drop-next s (at + i) 0 (omega arith))

-- none is ahead
pub gather-end : (s : List ℕ) (at width g i : ℕ) → width ≤ i → gather g (ahead s at width i) ≡ g
unfolding gather
gather-end s at width g i h = let e : width - i ≡ 0 = omega arith in rw e

-- ---- a run

step-over : (t : List ℕ) (width : ℕ) → every ascii (take width t) ≡ true → behind_ascii t ≡ behind_ascii (drop width t)
unfolding behind_ascii
step-over t zero e = refl
step-over [] (suc width) e = refl
step-over (b ∷ t) (suc width) e = if_yes _ _ _ (and_left (ascii b) _ e) ∙ step-over t width (and_right (ascii b) _ e)

-- a step of ASCII leads on within the run
pub ascii-step : (s : List ℕ) (at width : ℕ) → every ascii (take width (drop at s)) ≡ true → behind_ascii (drop at s) ≡ behind_ascii (drop (at + width) s)
ascii-step s at width e = step-over (drop at s) width e ∙ ap behind_ascii (drop-drop width at s)

stop : (t : List ℕ) → (0 < length t → every ascii (take 1 t) ≡ false) → behind_ascii t ≡ t
unfolding behind_ascii
stop [] h = refl
stop (b ∷ t) h = if_no _ _ _ (sym (and-true (ascii b)) ∙ h (omega arith))

-- where the next byte is no ASCII, or there is none, the run is over
pub ascii-stop : (s : List ℕ) (at : ℕ) → (at + 1 ≤ length s → every ascii (take 1 (drop at s)) ≡ false) → behind_ascii (drop at s) ≡ drop at s
ascii-stop s at h = stop (drop at s) (λ k. h (omega (arith, k, length-drop at s)))

-- ---- what a run means for a text

-- a text is its run of ASCII and the rest
pub ascii-and-rest : (s : List ℕ) → ascii_run s ++ behind_ascii s ≡ s
unfolding ascii_run behind_ascii
ascii-and-rest [] = refl
ascii-and-rest (b ∷ s) = go (ascii b) (ascii-and-rest s)
  where
    go : (p : Bool) → ascii_run s ++ behind_ascii s ≡ s → (if p then b ∷ ascii_run s else []) ++ (if p then behind_ascii s else b ∷ s) ≡ b ∷ s
    go true h = ap (λ t. b ∷ t) h
    go false h = refl

-- all bytes of the run are ASCII
pub ascii-all : (s : List ℕ) → every ascii (ascii_run s) ≡ true
unfolding ascii_run
ascii-all [] = refl
ascii-all (b ∷ s) = go (ascii b) refl (ascii-all s)
  where
    go : (p : Bool) → ascii b ≡ p → every ascii (ascii_run s) ≡ true → every ascii (if p then b ∷ ascii_run s else []) ≡ true
    go true e h = and_both _ _ e h
    go false e h = refl

-- and it is taken as long as it goes: a byte behind it is not ASCII
pub ascii-longest : (s : List ℕ) (b : ℕ) (t : List ℕ) → behind_ascii s ≡ b ∷ t → ascii b ≡ false
unfolding behind_ascii
ascii-longest [] b t e = absurd (omega (arith, ap length e))
ascii-longest (x ∷ s) b t e = go (ascii x) refl (λ h. ascii-longest s b t h) e
  where
    go : (p : Bool) → ascii x ≡ p → (behind_ascii s ≡ b ∷ t → ascii b ≡ false) → (if p then behind_ascii s else x ∷ s) ≡ b ∷ t → ascii b ≡ false
    go true f k e = k e
    go false f k e = ap (λ l. ascii (get_or l 0 0)) (sym e) ∙ f

-- behind a run of ASCII the rest decides
pub rest-decides : (s : List ℕ) → utf8 s ≡ utf8 (behind_ascii s)
unfolding behind_ascii
rest-decides [] = refl
rest-decides (b ∷ s) = go (ascii b) refl (rest-decides s)
  where
    go : (p : Bool) → ascii b ≡ p → utf8 s ≡ utf8 (behind_ascii s) → utf8 (b ∷ s) ≡ utf8 (if p then behind_ascii s else b ∷ s)
    go true e h = row-decides 0 refl refl (b ∷ s) 0 (omega arith) (omega arith) (inside-high 0 0x7F b e) ∙ h
    go false e h = refl

-- at a byte up to 0x7F what stands behind the run of ASCII decides
pub ascii_led : (s : List ℕ) (i : ℕ) → i < length s → get_or s i 0 ≤ 0x7F → run [] (drop i s) ≡ run [] (behind_ascii (drop (i + 1) s))
ascii_led s i h k = row-decides 0 refl refl s i h (omega arith) k ∙ rest-decides (drop (i + 1) s)

-- the answer for a text is that of its run of ASCII, which is well-formed by itself (`ascii-well-formed`), and of its rest
pub by-ascii-and-rest : (s : List ℕ) → utf8 s ≡ utf8 (ascii_run s) and utf8 (behind_ascii s)
by-ascii-and-rest s = rest-decides s ∙ sym (and-next _ _ (ascii-well-formed (ascii_run s) (ascii-all s)))
