-- M-112, "How true the curves are": how near the polynomials of exp and ln in doubles come to their series, in exact fractions.
-- The theorems are in proofs/Series.antt.
use Rattle.std.specs.Prelude.{ℕ, ◌+◌, ◌*◌, ◌≤◌, ◌≡◌, refl, false, pos, neg_ℤ, T, Float}
use Rattle.std.specs.Float.{binary64}
use Rattle.std.specs.Float.Ieee.{round, of_bits}
use Rattle.std.specs.Float.Ieee.Scale.{finite}
use Rattle.arithmetic.specs.Fraction.{Fraction, ◌≺?◌, Close, null, one, whole, two_to, ◌⊕◌, ◌⊗◌, ◌⊘◌}
use Rattle.arithmetic.specs.Value.{value}
use Rattle.arithmetic.specs.Constants.{bits, factorial}
use Rattle.arithmetic.specs.Arithmetic.{sum_by, power_by}

-- ---- the series
-- x ^ n, and the sum of the first n terms, f 0 + .. + f (n - 1)
abbrev pub power : Fraction → ℕ → Fraction
power = power_by one ◌⊗◌

abbrev pub partial_sum : (ℕ → Fraction) → ℕ → Fraction
partial_sum f n = sum_by null ◌⊕◌ n f

-- r^j / j!, and 2 × s^(2k+1) / (2k+1)
abbrev pub exp_term : Fraction → ℕ → Fraction
exp_term r j = power r j ⊘ whole (pos (factorial j))

abbrev pub ln_term : Fraction → ℕ → Fraction
ln_term s k = whole (pos 2) ⊗ power s (2 * k + 1) ⊘ whole (pos (2 * k + 1))

abbrev pub tolerance : Fraction
tolerance = two_to (neg_ℤ (pos 50))

-- p is finite, and within 2^−50 of every partial sum of f that has at least n terms
pub record NearSeries (p : Float) (f : ℕ → Fraction) (n : ℕ) : Type 0 where
  pub number : T (finite p)
  pub close : (m : ℕ) → n ≤ m → Close tolerance (value p) (partial_sum f m)

-- ---- the arguments
-- x is finite, and |x| ≤ b
pub record Bounded (b : Fraction) (x : Float) : Type 0 where
  pub number : T (finite x)
  pub bound : Close b (value x) null

-- "at most 0.35" and "at most 0.2", each the larger of the decimal fraction and the double nearest to it
abbrev pub exp_limit : Fraction
exp_limit = whole (pos 35) ⊘ whole (pos 100)

abbrev pub fifth : Float
fifth = bits 0x3FC999999999999A

abbrev pub ln_limit : Fraction
ln_limit = value fifth

limits_are : ((exp_limit ≺? value (round binary64 false 35 100)) ≡ false) × (fifth ≡ round binary64 false 2 10) × ((ln_limit ≺? whole (pos 2) ⊘ whole (pos 10)) ≡ false)
unfolding round of_bits
limits_are = (refl, refl, refl)

-- ---- the statements, of the polynomial of exp and of (2s) × p of ln as functions on doubles
abbrev pub ExpNearSeries : (Float → Float) → Type 0
ExpNearSeries polynomial = (r : Float) → Bounded exp_limit r → NearSeries (polynomial r) (exp_term (value r)) 14

abbrev pub LnNearSeries : (Float → Float) → Type 0
LnNearSeries series = (s : Float) → Bounded ln_limit s → NearSeries (series s) (ln_term (value s)) 13
