-- Document 01's rows of the elementary functions, and values beyond and within the limits of the recipes, by computation.
-- The values' bits are those of an independent C text, measure/recipes.c: they hold the definitions to document 01 where no law does.
use Prim.Native.Nat.{ℕ, zero, suc}
use mathlib.Core.Path.{◌≡◌, refl}
use mathlib.Core.Bool.{true, false}
use lib.Ieee.{Float, nan, binary64, of_bits, round, of_int, neg, add, sub, mul, div}
use Rattle.arithmetic.specs.Constants.{bits, zero_d, one, two, seven_hundred, minus_seven_hundred, minus_one}
use Rattle.arithmetic.specs.Cases.{exponent_of, floor_of}
use Rattle.arithmetic.specs.Recipes as R
use Rattle.arithmetic.specs.Root as Root
use Rattle.arithmetic.specs.Arithmetic.{sum_by, power_by}
use Rattle.arithmetic.specs.Doubles.{doubles, guarded, quotient}

-- the double nearest to n / d
abbrev pub nearest : ℕ → ℕ → Float
nearest n d = round binary64 false n d

-- sqrt 2.25 = 1.5; ln 1 = 0; exp 0 = 1; tanh 0 = 0; 0 to the 1.2187 = 0
module _ (sqrt ln exp tanh : Float → Float) (powf : Float → Float → Float) where
  abbrev pub Rows : Type 0
  Rows = (sqrt (nearest 9 4) ≡ nearest 3 2) × (ln one ≡ zero_d) × (exp zero_d ≡ one) × (tanh zero_d ≡ zero_d) × (powf zero_d (nearest 12187 10000) ≡ zero_d)

pub rows : Rows doubles.sqrt doubles.ln doubles.exp doubles.tanh doubles.powf
unfolding R.series R.ln_of R.ln R.exp_of R.exp R.powf R.tanh Root.sqrt exponent_of floor_of of_bits round of_int neg add sub mul div
rows = (refl, refl, refl, refl, refl)

pub guarded_rows : Rows guarded.sqrt guarded.ln guarded.exp guarded.tanh guarded.powf
unfolding R.series R.ln_of R.ln R.exp_of R.exp R.powf R.tanh Root.sqrt exponent_of floor_of quotient of_bits round of_int neg add sub mul div
guarded_rows = (refl, refl, refl, refl, refl)

-- ---- ln 7 has m = 0.875 and e = 3. Beyond -0.25 and 0.25 ln_1p is ln of the rounded sum; at -1 it has no rule.
logarithms : (doubles.ln (nearest 7 1) ≡ bits 0x3FFF2272AE325A56) × (doubles.ln1p (nearest 2 10) ≡ bits 0x3FC7565011E49676)
    × (doubles.ln1p (nearest 3 10) ≡ bits 0x3FD0CA937BE1B9DD) × (doubles.ln1p (round binary64 true 35 100) ≡ bits 0xBFDB91F28212BA01) × (doubles.ln1p minus_one ≡ nan)
unfolding R.series R.ln_of R.ln R.ln1p exponent_of of_bits round of_int neg add sub mul div
logarithms = (refl, refl, refl, refl, refl)

-- ---- exp 2 has k = 3. From -700 to 700 exp is worked; the next double below gives 0, and the next above has no rule.
exponentials : (doubles.exp two ≡ bits 0x401D8E64B8D4DDAE) × (doubles.exp minus_seven_hundred ≡ bits 0x00D14F2B0FB9307F) × (doubles.exp seven_hundred ≡ bits 0x7F0D945DF4F8EC8E)
    × (doubles.exp (bits 0xC085E00000000001) ≡ zero_d) × (doubles.exp (bits 0x4085E00000000001) ≡ nan)
unfolding R.exp_of R.exp floor_of of_bits round of_int neg add sub mul
exponentials = (refl, refl, refl, refl, refl)

-- ---- Up to 20 and down to -20 tanh is worked, and is not yet 1 at 19.03125 nor -1 at -18.25. 0 to the 0 has no rule.
others : (doubles.tanh (nearest 609 32) ≡ bits 0x3FEFFFFFFFFFFFFF) × (doubles.tanh (round binary64 true 73 4) ≡ bits 0xBFEFFFFFFFFFFFFC)
    × (doubles.powf (nearest 5 2) (nearest 12187 10000) ≡ bits 0x40087009F5B3BFD4) × (doubles.powf zero_d zero_d ≡ nan)
unfolding R.series R.ln_of R.ln R.exp_of R.exp R.powf R.tanh exponent_of floor_of of_bits round of_int neg add sub mul div
others = (refl, refl, refl, refl)

-- ---- Products and sums go from the left, and a sum starts from +0: 1e16 + 1 rounds to 1e16, and so does that with 1 again.
abbrev terms : ℕ → Float
terms zero = bits 0x4341C37937E08000
terms (suc i) = one

in_order : (doubles.powi (nearest 11 10) 4 ≡ bits 0x3FF76CF41F212D7A) × (doubles.powi (nearest 11 10) 0 ≡ one)
    × (doubles.sum 3 terms ≡ bits 0x4341C37937E08000) × (doubles.sum 1 (λ i. neg zero_d) ≡ zero_d)
unfolding sum_by power_by of_bits round neg add mul
in_order = (refl, refl, refl, refl)
