-- The whole numbers 2 to 15 and their factorials as doubles, for the sum over beta of attractive_perturbation_uvb3.rs.
use Rattle.std.specs.Prelude.{◌≡◌, ℕ, zero, suc, ◌*◌, false, List, [], ◌∷◌, slice_index_or, refl, Float}
use Rattle.std.specs.Float.{nan, binary64}
use Rattle.std.specs.Float.Ieee.{round, of_bits}
use Rattle.arithmetic.specs.Constants.{bits}

abbrev pub factorials : List Float
factorials =
    bits 0x4000000000000000 ∷
    bits 0x4018000000000000 ∷
    bits 0x4038000000000000 ∷
    bits 0x405E000000000000 ∷
    bits 0x4086800000000000 ∷
    bits 0x40B3B00000000000 ∷
    bits 0x40E3B00000000000 ∷
    bits 0x4116260000000000 ∷
    bits 0x414BAF8000000000 ∷
    bits 0x418308A800000000 ∷
    bits 0x41BC8CFC00000000 ∷
    bits 0x41F7328CC0000000 ∷
    bits 0x42344C3B28000000 ∷
    bits 0x4273077775800000 ∷
    []

abbrev pub wholes : List Float
wholes =
    bits 0x4000000000000000 ∷
    bits 0x4008000000000000 ∷
    bits 0x4010000000000000 ∷
    bits 0x4014000000000000 ∷
    bits 0x4018000000000000 ∷
    bits 0x401C000000000000 ∷
    bits 0x4020000000000000 ∷
    bits 0x4022000000000000 ∷
    bits 0x4024000000000000 ∷
    bits 0x4026000000000000 ∷
    bits 0x4028000000000000 ∷
    bits 0x402A000000000000 ∷
    bits 0x402C000000000000 ∷
    bits 0x402E000000000000 ∷
    []

-- (m + 2)! and m + 2, for m below 14
abbrev pub factorial : ℕ → Float
factorial m = slice_index_or factorials m nan

abbrev pub whole : ℕ → Float
whole m = slice_index_or wholes m nan

-- ---- each is its number
abbrev product : ℕ → ℕ
product zero = 1
product (suc n) = suc n * product n

-- f 2, .., f (n + 1)
abbrev from2_to : ℕ → (ℕ → Float) → List Float
from2_to zero f = []
from2_to (suc n) f = f 2 ∷ from2_to n (λ k. f (suc k))

factorials_are : factorials ≡ from2_to 14 (λ k. round binary64 false (product k) 1)
unfolding round of_bits
factorials_are = refl

wholes_are : wholes ≡ from2_to 14 (λ k. round binary64 false k 1)
unfolding round of_bits
wholes_are = refl
