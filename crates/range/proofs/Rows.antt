-- Document 01's rows of ranges, and rows that fix the rules where no law does, by computation.
use mathlib.Core.Path.{◌≡◌, refl}
use lib.IntN.{negsuc}
use lib.Ieee.{of_bits, to_bits, round, of_int, in_float, fits, neg, add, mul, div, lt, eq, le}
use Rattle.arithmetic.specs.Next.{next_up, next_down}
use Rattle.arithmetic.specs.Root as Root
use Rattle.arithmetic.specs.Cases.{exponent_of, floor_of}
use Rattle.arithmetic.specs.Constants.{bits, zero_d, one, two, quarter, minus_one, seven_hundred, minus_seven_hundred, twenty}
use Rattle.arithmetic.specs.Recipes as R
use Rattle.arithmetic.specs.Arithmetic.{power_by}
use Rattle.arithmetic.proofs.Rows.{nearest}
use Rattle.range.specs.Rules.{range, failed, zero, point, rules, ranges}
use Rattle.range.specs.Rules as Rules

-- ---- document 01's rows: [1,1] + [1,1] = [2 − 2^−52, 2 + 2^−51], and [0,0] × [5,5] = [0,0]
pub rows : (ranges.add (point one) (point one) ≡ range (bits 0x3FFFFFFFFFFFFFFF) (bits 0x4000000000000001)) × (ranges.mul (point zero_d) (point (nearest 5 1)) ≡ zero)
unfolding Rules.point Rules.add Rules.mul next_up next_down to_bits of_bits round fits add mul lt eq le
rows = (refl, refl)

-- ---- a − [0,0] is a, and [0,0] − b is −b
differences : (ranges.sub (range one two) zero ≡ range one two) × (ranges.sub zero (range one two) ≡ range (neg two) (neg one))
unfolding Rules.add Rules.neg next_up next_down to_bits of_bits round neg add lt eq
differences = (refl, refl)

-- ---- the least and the greatest of four: [1,2] × [−3,5] is [−6,10] moved outwards, and 1 / [2,4] is [0.25,0.5] moved outwards
of_four : (ranges.mul (range one two) (range (neg (nearest 3 1)) (nearest 5 1)) ≡ range (bits 0xC018000000000001) (bits 0x4024000000000001))
    × (ranges.div (range one one) (range two (nearest 4 1)) ≡ range (bits 0x3FCFFFFFFFFFFFFF) (bits 0x3FE0000000000001))
unfolding Rules.mul Rules.div next_up next_down to_bits of_bits round neg mul div lt eq le
of_four = (refl, refl)

-- ---- a divisor that holds 0 fails, an end that is 0 too, also under [0,0]
by_zero : (ranges.div (range one one) (range minus_one one) ≡ failed) × (ranges.div (range one one) (range zero_d one) ≡ failed) × (ranges.div zero (range minus_one zero_d) ≡ failed)
    × (ranges.div zero (range one two) ≡ zero)
unfolding Rules.div next_up next_down to_bits of_bits round neg div lt eq le
by_zero = (refl, refl, refl, refl)

-- ---- the root of [0, 2.25] has the lower end just below 0; the root of [0,0] is [0,0]; a lower end below 0 fails
roots : (ranges.sqrt (range zero_d (nearest 9 4)) ≡ range (bits 0x8000000000000001) (bits 0x3FF8000000000001)) × (ranges.sqrt zero ≡ zero) × (ranges.sqrt (range (bits 0x8000000000000001) one) ≡ failed)
unfolding Rules.sqrt Root.sqrt next_up next_down to_bits of_bits round lt eq
roots = (refl, refl, refl)

-- ---- an end that would be −0 is +0: of an input, of a negation, and after the double −2^−1074; the largest double has no next, and fails
zeros : (ranges.constant (neg zero_d) ≡ zero) × (ranges.neg (range zero_d one) ≡ range minus_one zero_d)
    × (ranges.mul (range (bits 0x8000000000000001) (bits 0x8000000000000001)) (range one one) ≡ range (bits 0x8000000000000002) zero_d)
    × (ranges.mul (range (bits 0x7FEFFFFFFFFFFFFF) (bits 0x7FEFFFFFFFFFFFFF)) (range one one) ≡ failed)
unfolding Rules.point Rules.neg Rules.mul next_up next_down to_bits of_bits round fits neg mul lt eq le
zeros = (refl, refl, refl, refl)

-- ---- powers: with no factor it is 1, with one it is the range itself, with two its ends move once, with three twice
powers : (ranges.powi (range two two) 0 ≡ range one one) × (ranges.powi (range two two) 1 ≡ range two two) × (ranges.powi (range two two) 2 ≡ range (bits 0x400FFFFFFFFFFFFF) (bits 0x4010000000000001))
    × (ranges.powi (range two two) 3 ≡ range (bits 0x401FFFFFFFFFFFFE) (bits 0x4020000000000002))
unfolding Rules.powi Rules.even_power Rules.mul_magnitudes Rules.magnitudes power_by Rules.point Rules.mul next_up next_down to_bits of_bits round fits neg mul lt eq le
powers = (refl, refl, refl, refl)

-- ---- squares: [0,0] stays; from 0 where 0 is held; signs dropped; never below 0, where the square of 2^−1074 is rounded to 0; and the fourth power of [−2,1]
squares : (ranges.powi zero 2 ≡ zero) × (ranges.powi (range minus_one two) 2 ≡ range zero_d (bits 0x4010000000000001)) × (ranges.powi (range zero_d one) 2 ≡ range zero_d (bits 0x3FF0000000000001))
    × (ranges.powi (range (neg (nearest 3 1)) (neg two)) 2 ≡ range (bits 0x400FFFFFFFFFFFFF) (bits 0x4022000000000001)) × (ranges.powi (range (bits 1) (bits 1)) 2 ≡ range zero_d (bits 1))
    × (ranges.powi (range one two) 4 ≡ range (bits 0x3FEFFFFFFFFFFFFD) (bits 0x4030000000000003)) × (ranges.powi (range (neg two) one) 4 ≡ range zero_d (bits 0x4030000000000003))
unfolding Rules.powi Rules.even_power Rules.mul_magnitudes Rules.magnitudes power_by Rules.point Rules.mul next_up next_down to_bits of_bits round fits neg mul lt eq le
squares = (refl, refl, refl, refl, refl, refl, refl)

-- ---- scaling is exact; where a bit is lost, as of 3 × 2^−1074 by 2^−1, the ends move outwards
scaling : (rules.scale (range (bits 2) (bits 2)) (negsuc 0) ≡ range (bits 1) (bits 1)) × (rules.scale (range (bits 3) (bits 3)) (negsuc 0) ≡ range (bits 1) (bits 3))
unfolding Rules.scale next_up next_down to_bits of_bits round mul div eq
scaling = (refl, refl)

-- ---- ln 7; two e fail; a range that reaches 0 fails
logarithms : (ranges.ln (point (nearest 7 1)) ≡ range (bits 0x3FFF2272AE325A53) (bits 0x3FFF2272AE325A5A)) × (ranges.ln (range one two) ≡ failed) × (ranges.ln (range zero_d one) ≡ failed)
unfolding Rules.point Rules.add Rules.neg Rules.mul Rules.div Rules.whole Rules.scale Rules.step R.ln R.ln_of R.series exponent_of next_up next_down to_bits of_bits round of_int in_float fits neg add mul div lt eq le
logarithms = (refl, refl, refl)

-- ---- ln_1p: 0.25 belongs to the inner case, the next double to the outer, and the range of both fails
quarters : (ranges.ln1p (point quarter) ≡ range (bits 0x3FCC8FF7C79A9A1C) (bits 0x3FCC8FF7C79A9A28)) × (ranges.ln1p (point (bits 0x3FD0000000000001)) ≡ range (bits 0x3FCC8FF7C79A9A14) (bits 0x3FCC8FF7C79A9A31))
    × (ranges.ln1p (range quarter (bits 0x3FD0000000000001)) ≡ failed)
unfolding Rules.point Rules.add Rules.neg Rules.mul Rules.div Rules.whole Rules.scale Rules.test Rules.step R.ln1p R.ln R.ln_of R.series exponent_of next_up next_down to_bits of_bits round of_int in_float fits neg add mul div lt eq le
quarters = (refl, refl, refl)

-- ---- exp: wholly below −700 it is [0,0]; −700 and 700 are worked; either side of −700, and above 700, it fails; exp 0 is [1,1]
exponentials : (ranges.exp (range (neg (nearest 710 1)) (bits 0xC085E00000000001)) ≡ zero) × (ranges.exp (point minus_seven_hundred) ≡ range (bits 0x00D14F2B0FB92E54) (bits 0x00D14F2B0FB932AA))
    × (ranges.exp (point seven_hundred) ≡ range (bits 0x7F0D945DF4F8E88C) (bits 0x7F0D945DF4F8F091)) × (ranges.exp (range (bits 0xC085E00000000001) minus_seven_hundred) ≡ failed)
    × (ranges.exp (range seven_hundred (bits 0x4085E00000000001)) ≡ failed) × (ranges.exp zero ≡ range one one)
unfolding Rules.point Rules.add Rules.neg Rules.mul Rules.whole Rules.scale Rules.test Rules.step R.exp R.exp_of floor_of next_up next_down to_bits of_bits round of_int in_float fits neg add mul div lt eq le
exponentials = (refl, refl, refl, refl, refl, refl)

-- ---- a power of [0,0] is [0,0] where the exponent is above 0, and fails at 0; a base that reaches 0 fails; 20 is worked by tanh's formula
others : (ranges.powf zero (point (nearest 12187 10000)) ≡ zero) × (ranges.powf zero (range zero_d one) ≡ failed) × (ranges.powf (range zero_d one) (range one one) ≡ failed)
    × (ranges.powf (point (nearest 5 2)) (point (nearest 12187 10000)) ≡ range (bits 0x40087009F5B3BFC9) (bits 0x40087009F5B3BFDE))
    × (ranges.tanh (point twenty) ≡ range (bits 0x3FEFFFFFFFFFFFFF) (bits 0x3FF0000000000001))
unfolding Rules.point Rules.add Rules.neg Rules.mul Rules.div Rules.whole Rules.scale Rules.test Rules.step R.powf R.tanh R.ln R.ln_of R.series R.exp R.exp_of exponent_of floor_of next_up next_down to_bits of_bits round of_int in_float fits neg add mul div lt eq le
others = (refl, refl, refl, refl, refl)

-- ---- the case at 175: below it the one, from 175 on the other, and a range of both fails
threshold : (ranges.if_below (range one (bits 0x4065DFFFFFFFFFFF)) (nearest 175 1) (range one one) (range two two) ≡ range one one)
    × (ranges.if_below (range (nearest 175 1) (nearest 176 1)) (nearest 175 1) (range one one) (range two two) ≡ range two two)
    × (ranges.if_below (range one (nearest 175 1)) (nearest 175 1) (range one one) (range two two) ≡ failed)
unfolding Rules.test of_bits round
threshold = (refl, refl, refl)
