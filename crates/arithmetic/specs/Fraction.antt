-- Exact fractions: numbers, order, operations, distances and tests. `plus`, `minus` and `den` stand for (plus - minus) / den. A fraction is not reduced, and one number has many.
-- The order is by cross-multiplication, with what is taken off moved to the other side, so that all is in the natural numbers and no sign is looked at.
-- Definitions only; the laws are in proofs/Fraction.antt.
use Rattle.std.specs.Prelude.{ℕ, suc, ◌+◌, ◌-◌, ◌*◌, ◌≤◌, ◌<◌, max, Bool, cond, ◌⊎◌, ltb, ℤ, pos, negsuc}
use Rattle.std.proofs.Common.{mul-pos, arith}
use Rattle.std.specs.Float.Ieee.{up, down}
use Rattle.std.specs.Float.Ieee.Fits.{down_pos}

pub record Fraction : Type 0 where
  pub plus : ℕ
  pub minus : ℕ
  pub den : ℕ
  pub above : 0 < den

-- ---- order
infix 4 ◌≼◌
infix 4 ◌≺◌
pub record ◌≼◌ (x y : Fraction) : Type 0 where
  pub cross : x.plus * y.den + y.minus * x.den ≤ y.plus * x.den + x.minus * y.den

pub record ◌≺◌ (x y : Fraction) : Type 0 where
  pub cross : x.plus * y.den + y.minus * x.den < y.plus * x.den + x.minus * y.den

-- x ≺ y as a test
infix 4 ◌≺?◌
abbrev pub ◌≺?◌ : Fraction → Fraction → Bool
x ≺? y = ltb (x.plus * y.den + y.minus * x.den) (y.plus * x.den + x.minus * y.den)

-- ---- numbers
abbrev pub null : Fraction
null = record { plus = 0; minus = 0; den = 1; above = omega arith }

abbrev pub one : Fraction
one = record { plus = 1; minus = 0; den = 1; above = omega arith }

abbrev pub whole : ℤ → Fraction
whole (pos n) = record { plus = n; minus = 0; den = 1; above = omega arith }
whole (negsuc n) = record { plus = 0; minus = suc n; den = 1; above = omega arith }

-- 2 ^ k
abbrev pub two_to : ℤ → Fraction
two_to k = record { plus = up k; minus = 0; den = down k; above = down_pos k }

-- ---- operations
infixl 6 ◌⊕◌
abbrev pub ◌⊕◌ : Fraction → Fraction → Fraction
x ⊕ y = record {
  plus = x.plus * y.den + y.plus * x.den;
  minus = x.minus * y.den + y.minus * x.den;
  den = x.den * y.den;
  above = mul-pos x.above y.above;
}

abbrev pub opp : Fraction → Fraction
opp x = record { plus = x.minus; minus = x.plus; den = x.den; above = x.above }

infixl 6 ◌⊖◌
abbrev pub ◌⊖◌ : Fraction → Fraction → Fraction
x ⊖ y = x ⊕ opp y

infixl 7 ◌⊗◌
abbrev pub ◌⊗◌ : Fraction → Fraction → Fraction
x ⊗ y = record {
  plus = x.plus * y.plus + x.minus * y.minus;
  minus = x.plus * y.minus + x.minus * y.plus;
  den = x.den * y.den;
  above = mul-pos x.above y.above;
}

-- den / (plus - minus), whose denominator is the distance of plus and minus. At zero, where there is no reciprocal, it is some number.
abbrev pub gap : Fraction → ℕ
gap y = max 1 (y.plus - y.minus + (y.minus - y.plus))

abbrev pub recip : Fraction → Fraction
recip y = record {
  plus = cond (ltb y.minus y.plus) y.den 0;
  minus = cond (ltb y.minus y.plus) 0 y.den;
  den = gap y;
  above = omega arith;
}

infixl 7 ◌⊘◌
abbrev pub ◌⊘◌ : Fraction → Fraction → Fraction
x ⊘ y = x ⊗ recip y

-- x and y are apart by at most d: x ≤ y + d and y ≤ x + d
pub record Close (d x y : Fraction) : Type 0 where
  pub low : x ≼ y ⊕ d
  pub high : y ≼ x ⊕ d

-- what lies from c to d does not hold zero
abbrev pub Apart : Fraction → Fraction → Type 0
Apart c d = (null ≺ c) ⊎ (d ≺ null)
