-- The two whole numbers by which a recipe chooses its case: e of ln and k of exp. proofs/Cases.antt shows that each is the one that document 01 names.
use Rattle.std.specs.Prelude.{◌-◌, ◌*◌, ◌/◌, cond, ℤ, pos, negsuc, ltb}
use Rattle.std.proofs.Common.{arith}
use Rattle.std.proofs.Math.Option.{Option, none, some}
use Rattle.std.proofs.Math.IntN.{suc_ℤ, pred_ℤ}
use Rattle.std.specs.Float.Ieee.{up, down, minus, size}
use Rattle.std.specs.Float.Ieee.Fits.{down_pos}
use Rattle.arithmetic.specs.Fraction.{Fraction, ◌≺?◌}

-- 0.75 * 2 ^ e
abbrev pub binade : ℤ → Fraction
binade e = record { plus = 3 * up e; minus = 0; den = 4 * down e; above = omega (arith, down_pos e) }

-- the e for a q of about 2 ^ j
abbrev pub near : Fraction → ℤ → ℤ
near q j = cond (q ≺? binade j) (pred_ℤ j) (cond (q ≺? binade (suc_ℤ j)) j (suc_ℤ j))

-- The e with 0.75 * 2 ^ e ≤ q < 1.5 * 2 ^ e, for a q above 0. The numbers of binary digits tell 2 ^ j within a factor of two.
unfoldable pub exponent_of : Fraction → Option ℤ
exponent_of q = cond (ltb q.minus q.plus) (some (near q (minus (size (q.plus - q.minus)) (size q.den)))) none

-- The greatest whole number that is not above q.
unfoldable pub floor_of : Fraction → ℤ
floor_of q = cond (ltb q.plus q.minus) (negsuc ((q.minus - q.plus - 1) / q.den)) (pos ((q.plus - q.minus) / q.den))
