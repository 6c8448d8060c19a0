-- The r and the s at which the code works its polynomials, for every argument that has a rule: they stay within the limits of specs/Series.antt, so the polynomials are near their
-- series wherever the code works them. The theorems are in proofs/ExpReduction.antt and proofs/LnReduction.antt.
use Rattle.std.specs.Prelude.{◌≡◌, ℤ, pos, neg_ℤ, T, Float}
use Rattle.std.proofs.Math.Option.{some}
use Rattle.std.specs.Float.Ieee.Scale.{finite}
use Rattle.arithmetic.specs.Fraction.{Fraction, ◌≺◌, null, whole, ◌⊘◌}
use Rattle.arithmetic.specs.Value.{value}
use Rattle.arithmetic.specs.Cases.{exponent_of, floor_of}
use Rattle.arithmetic.specs.Constants.{half, E, L}
use Rattle.arithmetic.specs.Recipes.{series, ln_argument, ln1p_argument, ln, ln1p, exp_argument, exp_polynomial, exp}
use Rattle.arithmetic.specs.Doubles.{plain}
use Rattle.arithmetic.specs.Series.{Bounded, exp_limit, ln_limit, NearSeries, exp_term, ln_term}

-- ---- exp, −700 ≤ v ≤ 700: k = floor (v × E + 0.5), and r of that k
module _ (v : Float) where
  abbrev pub exp_step : ℤ
  exp_step = floor_of (value (plain.add (plain.mul v E) half))

  abbrev pub exp_reduced : Float
  exp_reduced = exp_argument plain v exp_step

  pub record ExpReduction : Type 0 where
    pub is : exp plain v ≡ plain.scale (exp_polynomial plain exp_reduced) exp_step
    pub argument : Bounded exp_limit exp_reduced
    pub near : NearSeries (exp_polynomial plain exp_reduced) (exp_term (value exp_reduced)) 14

abbrev pub exp_range : Fraction
exp_range = whole (pos 700)

abbrev pub ExpReduces : Type 0
ExpReduces = (v : Float) → Bounded exp_range v → ExpReduction v

-- ---- ln, v above 0: the e of v, and s of m = v × 2^−e
module _ (v : Float) (e : ℤ) where
  abbrev pub ln_reduced : Float
  ln_reduced = ln_argument plain (plain.scale v (neg_ℤ e))

  pub record LnReduction : Type 0 where
    pub exponent : exponent_of (value v) ≡ some e
    pub is : ln plain v ≡ plain.add (series plain ln_reduced) (plain.mul (plain.whole e) L)
    pub argument : Bounded ln_limit ln_reduced
    pub near : NearSeries (series plain ln_reduced) (ln_term (value ln_reduced)) 13

abbrev pub LnReduces : Type 0
LnReduces = (v : Float) → T (finite v) → null ≺ value v → (e : ℤ) × LnReduction v e

-- ---- ln_1p, −0.25 ≤ v ≤ 0.25
pub record Ln1pReduction (v : Float) : Type 0 where
  pub is : ln1p plain v ≡ series plain (ln1p_argument plain v)
  pub argument : Bounded ln_limit (ln1p_argument plain v)
  pub near : NearSeries (series plain (ln1p_argument plain v)) (ln_term (value (ln1p_argument plain v))) 13

abbrev pub ln1p_range : Fraction
ln1p_range = whole (pos 1) ⊘ whole (pos 4)

abbrev pub Ln1pReduces : Type 0
Ln1pReduces = (v : Float) → Bounded ln1p_range v → Ln1pReduction v
