-- Addition modulo two, bit by bit: `bit_xor` is associative, and what was added twice is gone.
use mathlib.Core.Path.{◌≡◌, refl, sym, ap, ap₂, ◌∙◌}
use Prim.Native.Nat.{ℕ, zero, suc, ◌+◌, ◌*◌, ◌/◌, ◌%◌, ◌<◌}
use native.Mathlib.Omega.{arith}
use lib.Arith.{bin_ind, digits_mod}
use lib.Bits.{bit_xor, differ, xor_step, xor_shr, xor_comm, xor_self, xor_zero_r}

differ-assoc : (x y z : ℕ) → x < 2 → y < 2 → z < 2 → differ (differ x y) z ≡ differ x (differ y z)
differ-assoc zero y z hx hy hz = refl
differ-assoc (suc zero) zero z hx hy hz = refl
differ-assoc (suc zero) (suc zero) zero hx hy hz = refl
differ-assoc (suc zero) (suc zero) (suc zero) hx hy hz = refl
differ-assoc (suc zero) (suc zero) (suc (suc z)) hx hy hz = absurd (omega arith)
differ-assoc (suc zero) (suc (suc y)) z hx hy hz = absurd (omega arith)
differ-assoc (suc (suc x)) y z hx hy hz = absurd (omega arith)

differ-lt : (x y : ℕ) → x < 2 → y < 2 → differ x y < 2
differ-lt zero y hx hy = hy
differ-lt (suc zero) zero hx hy = omega arith
differ-lt (suc zero) (suc zero) hx hy = omega arith
differ-lt (suc zero) (suc (suc y)) hx hy = absurd (omega arith)
differ-lt (suc (suc x)) y hx hy = absurd (omega arith)

bit : (a : ℕ) → a % 2 < 2
bit a = omega arith

pub xor-odd : (a b : ℕ) → bit_xor a b % 2 ≡ differ (a % 2) (b % 2)
xor-odd a b = ap (λ (x : ℕ). x % 2) (xor_step a b) ∙ digits_mod _ (differ-lt _ _ (bit a) (bit b))

pub xor_assoc : (a b c : ℕ) → bit_xor (bit_xor a b) c ≡ bit_xor a (bit_xor b c)
xor_assoc =
    bin_ind (λ (n : ℕ). (b c : ℕ) → bit_xor (bit_xor n b) c ≡ bit_xor n (bit_xor b c)) (λ b c. refl)
    (λ n ih b c.
    xor_step (bit_xor n b) c
    ∙ ap₂ (λ (x y : ℕ). x * 2 + y)
    (ap (λ (x : ℕ). bit_xor x (c / 2)) (xor_shr n b 1) ∙ ih (b / 2) (c / 2) ∙ sym (ap (bit_xor (n / 2)) (xor_shr b c 1)))
    (ap (λ (x : ℕ). differ x (c % 2)) (xor-odd n b) ∙ differ-assoc _ _ _ (bit n) (bit b) (bit c) ∙ sym (ap (differ (n % 2)) (xor-odd b c)))
    ∙ sym (xor_step n (bit_xor b c)))

pub xor-swap : (a b c : ℕ) → bit_xor (bit_xor a b) c ≡ bit_xor (bit_xor a c) b
xor-swap a b c = xor_assoc a b c ∙ ap (bit_xor a) (xor_comm b c) ∙ sym (xor_assoc a c b)

pub xor-twice : (a b : ℕ) → bit_xor (bit_xor a b) b ≡ a
xor-twice a b = xor_assoc a b b ∙ ap (bit_xor a) (xor_self b) ∙ xor_zero_r a

pub xor-cancel : (a b c : ℕ) → bit_xor a b ≡ bit_xor a c → b ≡ c
xor-cancel a b c e =
    let gone : (x : ℕ) → bit_xor (bit_xor a x) a ≡ x = λ x. ap (λ y. bit_xor y a) (xor_comm a x) ∙ xor-twice x a in
    sym (gone b) ∙ ap (λ x. bit_xor x a) e ∙ gone c
