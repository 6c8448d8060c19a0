-- The polynomials of exp and ln in doubles are within 2^−50 of the partial sums of their series: as defined, and as the code works them.
use Prim.Native.Nat.{ℕ, suc, ◌+◌, ◌-◌, ◌*◌, ◌≤◌}
use native.Mathlib.Omega.{arith}
use mathlib.Core.Path.{refl, subst}
use mathlib.Core.Bool.{false}
use lib.IntN.{pos, negsuc}
use lib.Dec.{T}
use lib.Ieee.{Float, of_bits}
use Rattle.arithmetic.specs.Fraction.{Fraction, null, one, whole, two_to, ◌⊕◌, ◌⊗◌, Close}
use Rattle.arithmetic.specs.Value.{signed, value}
use Rattle.arithmetic.specs.Constants as Constants
use Rattle.arithmetic.specs.Constants.{factorial, factorial_reciprocals, odd_reciprocals}
use Rattle.arithmetic.specs.Recipes.{horner, series, exp_polynomial}
use Rattle.arithmetic.specs.Arithmetic.{power_by}
use Rattle.arithmetic.specs.Doubles.{strict, plain}
use Rattle.arithmetic.specs.Series.{power, partial_sum, exp_term, ln_term, tolerance, NearSeries, Bounded, exp_limit, ln_limit, ExpNearSeries, LnNearSeries}
use Rattle.arithmetic.proofs.Fraction.{was_no, ◌≈◌, ≈-refl, ≈-sym, ≈-trans, ⊗-cong, ⊗-cong-right, ⊗-assoc}
use Rattle.arithmetic.proofs.Agreement.{agreed_basic, agreeing, in_code}
use Rattle.arithmetic.proofs.Distance.{close_at, close_within, close_trans, close_scale, bound_times, test_close}
use Rattle.arithmetic.proofs.Approximation.{Approximation, itself, loosened, test_approximation, product}
use Rattle.arithmetic.proofs.Horner.{exact_horner, remainder, truncated, Polynomial, coefficients?, horner_close}
use Rattle.arithmetic.proofs.PartialSums.{sum_is, one_times, power_next, factorial_term, odd_term, reciprocal_bound, factorial_pos, factorial_from}

-- the doubles of the recipes are those of the series' coefficients
factorials : T (coefficients? factorial_term Constants.one factorial_reciprocals)
unfolding of_bits
factorials = tt

odds : T (coefficients? odd_term Constants.one odd_reciprocals)
unfolding of_bits
odds = tt

-- m terms, at least n of them
from_on : (P : ℕ → Type 0) (n : ℕ) → ((k : ℕ) → P (n + k)) → (m : ℕ) → n ≤ m → P m
from_on P n h m l = subst P (omega arith) (h (m - n))

-- ---- exp
-- 1 / 14!, and twice that
abbrev next_term : Fraction
next_term = signed false 1 (factorial 14) (factorial_pos 14)

abbrev next_terms : Fraction
next_terms = whole (pos 2) ⊗ next_term

module _ (r : Float) (h : Bounded exp_limit r) where
  exp_polynomial_near : Polynomial (exp_polynomial strict r) (exact_horner (value r) factorial_term 14)
  exp_polynomial_near = horner_close (loosened _ exp_limit (itself h) refl refl) factorial_term Constants.one factorial_reciprocals factorials

  exp_remainder : (k : ℕ) → Close (remainder exp_limit next_terms 14) (exact_horner (value r) factorial_term 14) (exact_horner (value r) factorial_term (14 + k))
  exp_remainder =
      truncated (value r) exp_limit next_term next_terms h.bound (was_no next_terms null refl) (was_no next_terms (next_terms ⊗ exp_limit ⊕ next_term) refl)
      14 factorial_term (λ j. reciprocal_bound (factorial (14 + j)) (factorial 14) (factorial_pos 14) (factorial_from 14 j))

  exp_sum : (m : ℕ) → exact_horner (value r) factorial_term m ≈ partial_sum (exp_term (value r)) m
  unfolding power_by
  exp_sum m = ≈-sym (≈-trans (sum_is (value r) (power (value r)) factorial_term (power_next (value r)) m) (one_times (exact_horner (value r) factorial_term m)))

pub exp_near_series : ExpNearSeries (exp_polynomial strict)
exp_near_series r h =
    let p = exp_polynomial_near r h in
    record {
      number = p.number;
      close = from_on (λ m. Close tolerance (value (exp_polynomial strict r)) (partial_sum (exp_term (value r)) m)) 14
          (λ k. close_within (was_no tolerance _ refl) (close_at (≈-refl _) (exp_sum r h (14 + k)) (close_trans p.close (exp_remainder r h k))));
    }

-- ---- ln
abbrev pub two : Fraction
two = whole (pos 2)

pub two_is : Approximation null two (strict.constant Constants.two) two
unfolding of_bits
two_is = test_approximation null two (strict.constant Constants.two) two tt

module _ (s : Float) (h : Bounded ln_limit s) where
  abbrev square : Fraction
  square = value s ⊗ value s

  -- z = s × s below 1/16, p, 2s below 1/2, (2s) × p below 1
  ln_polynomial : Polynomial (horner strict (strict.mul s s) Constants.one odd_reciprocals) (exact_horner square odd_term 13)
  unfolding of_bits
  ln_polynomial = horner_close (loosened _ exp_limit (product 1017 tt (itself h) (itself h) refl) refl refl) odd_term Constants.one odd_reciprocals odds

  ln_series : Approximation (two_to (negsuc 50)) one (series strict s) (two ⊗ value s ⊗ exact_horner square odd_term 13)
  unfolding series of_bits
  ln_series = loosened _ _ (product 1021 tt (product 1020 tt two_is (itself h) refl) ln_polynomial refl) refl refl

  ln_remainder : (k : ℕ) → Close (remainder (ln_limit ⊗ ln_limit) two 13) (exact_horner square odd_term 13) (exact_horner square odd_term (13 + k))
  unfolding of_bits
  ln_remainder =
      truncated square (ln_limit ⊗ ln_limit) one two (bound_times h.bound h.bound) (was_no two null refl) (was_no two (two ⊗ (ln_limit ⊗ ln_limit) ⊕ one) refl)
      13 odd_term (λ j. reciprocal_bound (2 * (13 + j) + 1) 1 one.above (omega arith))

  two_more : (k : ℕ) → power (value s) (2 * suc k + 1) ≈ power (value s) (2 * k + 1) ⊗ square
  two_more k =
      subst (λ (n : ℕ). power (value s) n ≈ power (value s) (2 * k + 1) ⊗ square) (omega arith)
      (≈-trans (power_next (value s) (suc (2 * k + 1))) (≈-trans (⊗-cong (power_next (value s) (2 * k + 1)) (≈-refl (value s))) (⊗-assoc (power (value s) (2 * k + 1)) (value s) (value s))))

  ln_sum : (m : ℕ) → two ⊗ value s ⊗ exact_horner square odd_term m ≈ partial_sum (ln_term (value s)) m
  unfolding power_by
  ln_sum m = ≈-sym (sum_is square (λ k. two ⊗ power (value s) (2 * k + 1)) odd_term (λ k. ≈-trans (⊗-cong-right two (two_more k)) (≈-sym (⊗-assoc two (power (value s) (2 * k + 1)) square))) m)

  doubled_bound : Close (two ⊗ ln_limit) (two ⊗ value s) null
  doubled_bound = bound_times (test_close two two null tt) h.bound

pub ln_near_series : LnNearSeries (series strict)
unfolding of_bits
ln_near_series s h =
    let p = ln_series s h in
    record {
      number = p.number;
      close = from_on (λ m. Close tolerance (value (series strict s)) (partial_sum (ln_term (value s)) m)) 13
          (λ k. close_within (was_no tolerance _ refl) (close_at (≈-refl _) (ln_sum s h (13 + k)) (close_trans p.close (close_scale (two ⊗ value s) (doubled_bound s h) (ln_remainder s h k)))));
    }

-- ---- the code's operations give the same doubles
pub exp_near_series_in_code : ExpNearSeries (exp_polynomial plain)
exp_near_series_in_code r h =
    let a = exp_near_series r h in
    subst (λ (p : Float). NearSeries p (exp_term (value r)) 14) (in_code (exp_polynomial agreed_basic (agreeing r h.number)) a.number) a

pub ln_near_series_in_code : LnNearSeries (series plain)
unfolding series
ln_near_series_in_code s h =
    let a = ln_near_series s h in
    subst (λ (p : Float). NearSeries p (ln_term (value s)) 13) (in_code (series agreed_basic (agreeing s h.number)) a.number) a
