-- A refusal is told by its number: no two have the same, and none has 0.
use Rattle.std.specs.Prelude.{ℕ, eqb, if◌then◌else◌, Result, Ok, Err}
use mathlib.Core.Path.{◌≡◌, refl, sym, ap, ◌∙◌}
use Rattle.refusals.specs.declared.Refusal.{Refusal}
use Rattle.refusals.specs.Refusals.{number_of, refusal_in}

-- what a test that refuses answered, from its number
abbrev answer_at : ℕ → Result Unit Refusal
answer_at n =
    if eqb n 0 then Ok tt
    else if eqb n 1 then Err Refusal.LineMalformed
    else if eqb n 2 then Err Refusal.ChkDiffers
    else if eqb n 3 then Err Refusal.FormatD
    else if eqb n 4 then Err Refusal.PayloadTooLong
    else if eqb n 5 then Err Refusal.BufferTooShort
    else if eqb n 6 then Err Refusal.NotVersion7
    else if eqb n 7 then Err Refusal.DatagramMalformed
    else if eqb n 8 then Err Refusal.NoCallsign
    else if eqb n 9 then Err Refusal.StreamIdMalformed
    else if eqb n 10 then Err Refusal.Stale
    else if eqb n 11 then Err Refusal.AlreadyHeld
    else if eqb n 12 then Err Refusal.RowFull
    else if eqb n 13 then Err Refusal.NoFreeRow
    else if eqb n 14 then Err Refusal.NoSuchStream
    else if eqb n 15 then Err Refusal.StillHolding
    else if eqb n 16 then Err Refusal.NoSavedImage
    else if eqb n 17 then Err Refusal.FragmentMalformed
    else if eqb n 18 then Err Refusal.OtherTotal
    else if eqb n 19 then Err Refusal.FragmentHeld
    else if eqb n 20 then Err Refusal.NoFreeGroup
    else if eqb n 21 then Err Refusal.NotComplete
    else if eqb n 22 then Err Refusal.SessionClosed
    else if eqb n 23 then Err Refusal.StoreLength
    else Err Refusal.StateBroken

back : (r : Refusal) → answer_at (number_of r) ≡ Err r
back Refusal.LineMalformed = refl
back Refusal.ChkDiffers = refl
back Refusal.FormatD = refl
back Refusal.PayloadTooLong = refl
back Refusal.BufferTooShort = refl
back Refusal.NotVersion7 = refl
back Refusal.DatagramMalformed = refl
back Refusal.NoCallsign = refl
back Refusal.StreamIdMalformed = refl
back Refusal.Stale = refl
back Refusal.AlreadyHeld = refl
back Refusal.RowFull = refl
back Refusal.NoFreeRow = refl
back Refusal.NoSuchStream = refl
back Refusal.StillHolding = refl
back Refusal.NoSavedImage = refl
back Refusal.FragmentMalformed = refl
back Refusal.OtherTotal = refl
back Refusal.FragmentHeld = refl
back Refusal.NoFreeGroup = refl
back Refusal.NotComplete = refl
back Refusal.SessionClosed = refl
back Refusal.StoreLength = refl
back Refusal.StateBroken = refl

back-all : (x : Result Unit Refusal) → answer_at (refusal_in x) ≡ x
back-all (Ok x) = refl
back-all (Err r) = back r

pub one-test : (x y : Result Unit Refusal) → refusal_in x ≡ refusal_in y → x ≡ y
one-test x y e = sym (back-all x) ∙ ap answer_at e ∙ back-all y

pub one-refusal : (a b : Refusal) → number_of a ≡ number_of b → a ≡ b
one-refusal a b e = let p : ◌≡◌ {A = Result Unit Refusal} (Err a) (Err b) = one-test (Err a) (Err b) e in cc

-- no refusal has 0
pub not-0 : (r : Refusal) → number_of r ≡ 0 → ⊥
not-0 r e = let p : ◌≡◌ {A = Result Unit Refusal} (Err r) (Ok tt) = one-test (Err r) (Ok tt) e in cc
