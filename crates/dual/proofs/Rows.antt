-- Values with slopes by computation: they hold the rules to M-100 where no law does.
use Prim.Native.Nat.{ℕ, ◌^◌}
use mathlib.Core.Path.{◌≡◌, refl}
use mathlib.Core.Bool.{true, false}
use lib.Ieee.{Float, nan, inf, binary64, of_bits, round, of_int, neg, add, sub, mul, div, lt}
use Rattle.arithmetic.specs.Constants.{zero_d, one, two, minus_one}
use Rattle.arithmetic.specs.Cases.{exponent_of, floor_of}
use Rattle.arithmetic.specs.Recipes as R
use Rattle.arithmetic.specs.Root as Root
use Rattle.arithmetic.specs.Arithmetic.{power_by}
use Rattle.dual.specs.Rules as Rules
use Rattle.dual.specs.Rules.{dual, slopes}

abbrev whole : ℕ → Float
whole n = round binary64 false n 1

abbrev minus : ℕ → Float
minus n = round binary64 true n 1

-- 3 with slope 2, and 4 with slope 5: sum, difference, product 2 × 4 + 3 × 5, quotient (2 × 4 − 3 × 5) / 16, cube by repeated product
basic : (slopes.add (dual (whole 3) (whole 2)) (dual (whole 4) (whole 5)) ≡ dual (whole 7) (whole 7))
    × (slopes.sub (dual (whole 3) (whole 2)) (dual (whole 4) (whole 5)) ≡ dual minus_one (minus 3))
    × (slopes.mul (dual (whole 3) (whole 2)) (dual (whole 4) (whole 5)) ≡ dual (whole 12) (whole 23))
    × (slopes.div (dual (whole 3) (whole 2)) (dual (whole 4) (whole 5)) ≡ dual (round binary64 false 3 4) (round binary64 true 7 16))
    × (slopes.neg (dual (whole 3) (whole 2)) ≡ dual (minus 3) (minus 2))
    × (slopes.powi (dual (whole 3) (whole 2)) 3 ≡ dual (whole 27) (whole 54)) × (slopes.powi (dual (whole 3) (whole 2)) 0 ≡ dual one zero_d)
unfolding Rules.add Rules.sub Rules.mul Rules.div Rules.neg Rules.constant power_by of_bits round neg add sub mul div
basic = (refl, refl, refl, refl, refl, refl, refl)

-- the root of 2.25 with slope 6, ln and ln_1p with slope 2
logarithms : (slopes.sqrt (dual (round binary64 false 9 4) (whole 6)) ≡ dual (round binary64 false 3 2) two) × (slopes.ln (dual one two) ≡ dual zero_d two)
    × (slopes.ln1p (dual zero_d two) ≡ dual zero_d two)
unfolding Rules.sqrt Rules.ln Rules.ln1p Rules.add Rules.mul Rules.div R.series R.ln_of R.ln R.ln1p Root.sqrt exponent_of of_bits round of_int neg add sub mul div lt
logarithms = (refl, refl, refl)

-- exp with slope 2, tanh with slope 1; a power of 0 has slope 0
exponentials : (slopes.exp (dual zero_d two) ≡ dual one two) × (slopes.tanh (dual zero_d one) ≡ dual zero_d one)
    × (slopes.powf (dual zero_d one) (slopes.constant (round binary64 false 12187 10000)) ≡ dual zero_d zero_d)
unfolding Rules.exp Rules.powf Rules.tanh Rules.choose Rules.given Rules.constant Rules.add Rules.sub Rules.mul Rules.div R.exp_of R.exp floor_of of_bits round of_int neg add sub mul div lt
exponentials = (refl, refl, refl)

-- Below −700, beyond ±20 and in a case by another value a slope is 0 or the case's own, and one that is not finite is kept. The root of 0 has a value and no slope.
kept : (slopes.exp (dual (minus 701) two) ≡ dual zero_d zero_d) × (slopes.exp (dual (minus 701) (inf false)) ≡ dual zero_d nan)
    × (slopes.tanh (dual (whole 21) two) ≡ dual one zero_d) × (slopes.tanh (dual (minus 21) nan) ≡ dual minus_one nan)
    × (slopes.if_below (dual one two) two (dual (whole 3) (whole 4)) (dual (whole 5) (whole 6)) ≡ dual (whole 3) (whole 4))
    × (slopes.if_below (dual two nan) two (dual (whole 3) (whole 4)) (dual (whole 5) (whole 6)) ≡ dual (whole 5) nan)
    × (slopes.sqrt (dual zero_d one) ≡ dual zero_d nan) × (slopes.add (dual (inf false) one) (dual one one) ≡ Rules.failed)
unfolding Rules.sqrt Rules.exp Rules.tanh Rules.choose Rules.given Rules.constant Rules.add Rules.sub Rules.mul Rules.div R.exp_of R.exp Root.sqrt floor_of of_bits round of_int neg add sub mul div lt
kept = (refl, refl, refl, refl, refl, refl, refl, refl)

-- Inner terms are no slopes: with b = 2^600 the quotient's b × b is infinite, and its slope is 0; with b = 2^-600 it vanishes, and 0 / 0 is no slope. A slope −0 is kept.
abbrev large : Float
large = round binary64 false (2 ^ 600) 1

abbrev small : Float
small = round binary64 false 1 (2 ^ 600)

inner : (slopes.div (dual one one) (dual large zero_d) ≡ dual small zero_d) × (slopes.div (dual zero_d zero_d) (dual small zero_d) ≡ dual zero_d nan)
    × (Rules.start Rules.strict one (neg zero_d) ≡ dual one (neg zero_d))
unfolding Rules.div Rules.start of_bits round neg add sub mul div
inner = (refl, refl, refl)
