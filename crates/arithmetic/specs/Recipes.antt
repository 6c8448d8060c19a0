-- The recipes of document 01, "Functions the files only call": ln, ln_1p, exp, powf and tanh, once for every meaning of the operations.
use Rattle.std.specs.Prelude.{List, [], ◌∷◌, ℤ, neg_ℤ, Float}
use Rattle.arithmetic.specs.Basic.{Basic, below, above, exponent, floor}
use Rattle.arithmetic.specs.Constants.{zero_d, half, one, two, quarter, minus_quarter, minus_one, seven_hundred, minus_seven_hundred, twenty, minus_twenty, L, E, H, G, odd_reciprocals, factorial_reciprocals}

-- Horner's rule, from the last coefficient on: a step takes what was worked so far and the next coefficient.
module _ {V : Type 0} (constant : Float → V) (step : V → Float → V) where
  abbrev pub horner_by : Float → List Float → V
  horner_by c [] = constant c
  horner_by c (d ∷ cs) = step (horner_by d cs) c

module _ (A : Basic) where
  open A use {Value, constant, add as ◌+◌, sub as ◌-◌, mul as ◌*◌, div as ◌/◌, whole, scale, none, test, step}

  infixl 60 ◌+◌
  infixl 60 ◌-◌
  infixl 70 ◌*◌
  infixl 70 ◌/◌
  -- c + z * (d + z * ..)
  abbrev pub horner : Value → Float → List Float → Value
  horner z = horner_by constant (λ p c. p * z + constant c)

  -- (2s) × p, with p in z = s × s over the doubles of 1 / (2k + 1)
  unfoldable pub series : Value → Value
  series s = constant two * s * horner (s * s) one odd_reciprocals

  -- s = (m − 1) / (m + 1) of ln, and s = v / (2 + v) of ln_1p
  abbrev pub ln_argument : Value → Value
  ln_argument m = (m - constant one) / (m + constant one)

  abbrev pub ln1p_argument : Value → Value
  ln1p_argument v = v / (constant two + v)

  -- v = m × 2^e with 0.75 ≤ m < 1.5: (2s) × p + e × L
  unfoldable pub ln_of : Value → ℤ → Value
  ln_of m e = series (ln_argument m) + whole e * constant L

  unfoldable pub ln : Value → Value
  ln v = step exponent v (λ e. ln_of (scale v (neg_ℤ e)) e)

  -- −0.25 ≤ v ≤ 0.25: (2s) × p. Else ln (1 + v); v ≤ −1 no rule.
  unfoldable pub ln1p : Value → Value
  ln1p v =
      test (below minus_quarter) v (test (above minus_one) v (ln (constant one + v)) none)
      (test (above quarter) v (ln (constant one + v)) (series (ln1p_argument v)))

  -- r = (v − k × H) − k × G
  abbrev pub exp_argument : Value → ℤ → Value
  exp_argument v k = v - whole k * constant H - whole k * constant G

  -- Horner in r over the doubles of 1 / j!
  abbrev pub exp_polynomial : Value → Value
  exp_polynomial r = horner r one factorial_reciprocals

  -- the polynomial at r, times 2^k
  unfoldable pub exp_of : Value → ℤ → Value
  exp_of v k = scale (exp_polynomial (exp_argument v k)) k

  -- below −700 it is +0, above 700 no rule. Else k = floor (v × E + 0.5).
  unfoldable pub exp : Value → Value
  exp v =
      test (below minus_seven_hundred) v (constant zero_d)
      (test (above seven_hundred) v none (step floor (v * constant E + constant half) (λ k. exp_of v k)))

  -- exp (b × ln v). Base 0 gives +0 if b is above 0, else no rule.
  unfoldable pub powf : Value → Value → Value
  powf v b =
      test (above zero_d) v (exp (b * ln v))
      (test (below zero_d) v none (test (above zero_d) b (constant zero_d) none))

  -- above 20 it is 1, below −20 it is −1, else 1 − 2 / (exp (2v) + 1)
  unfoldable pub tanh : Value → Value
  tanh v =
      test (above twenty) v (constant one)
      (test (below minus_twenty) v (constant minus_one) (constant one - constant two / (exp (constant two * v) + constant one)))
