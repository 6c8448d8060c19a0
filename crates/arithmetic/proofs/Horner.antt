-- Horner's rule in doubles against Horner's rule in exact fractions: for an argument up to 0.35 and coefficients up to 1, the error is at most 2^−51 after every step,
-- however many there are. And what further coefficients can add.
use Prim.Native.Nat.{ℕ, zero, suc, ◌+◌}
use native.Mathlib.Nat.{zero-add, suc-add}
use native.Mathlib.Omega.{arith}
use mathlib.Core.Path.{refl}
use mathlib.Core.Bool.{Bool, ◌&&◌}
use mathlib.Core.List.{List, [], ◌∷◌}
use lib.ListN.{length}
use lib.IntN.{pos, negsuc}
use lib.Dec.{T}
use lib.Ieee.{Float}
use lib.Ieee.Fits.{and_l, and_r}
use Rattle.arithmetic.specs.Fraction.{Fraction, ◌≼◌, null, one, whole, two_to, ◌⊕◌, ◌⊗◌, ◌⊘◌, Close}
use Rattle.arithmetic.specs.Recipes.{horner}
use Rattle.arithmetic.specs.Doubles.{checked, strict}
use Rattle.arithmetic.specs.Series.{exp_limit}
use Rattle.arithmetic.proofs.Fraction.{◌≈◌, ≈-refl}
use Rattle.arithmetic.proofs.Distance.{same_close, close_sym, close_within, close_plus, close_scale_right, bound_times, bound_plus}
use Rattle.arithmetic.proofs.Approximation.{Approximation, of_equal, loosened, approximation?, test_approximation, sum, product}

-- f 0 + z * (f 1 + .. z * f (n - 1))
unfoldable pub exact_horner : Fraction → (ℕ → Fraction) → ℕ → Fraction
exact_horner z f zero = null
exact_horner z f (suc n) = exact_horner z (λ j. f (suc j)) n ⊗ z ⊕ f 0

-- b ^ n * s
abbrev pub remainder : Fraction → Fraction → ℕ → Fraction
remainder b s zero = s
remainder b s (suc n) = b ⊗ remainder b s n

-- ---- |z| ≤ b. Coefficients up to m give at most s, where s * b + m is not above s.
module _ (z b m s : Fraction) (Z : Close b z null) (s≥0 : null ≼ s) (step : s ⊗ b ⊕ m ≼ s) where
  all_bounded : (f : ℕ → Fraction) → ((j : ℕ) → Close m (f j) null) → (n : ℕ) → Close s (exact_horner z f n) null
  unfolding exact_horner
  all_bounded f F zero = same_close s≥0 (≈-refl null)
  all_bounded f F (suc n) = close_within step (bound_plus (bound_times (all_bounded (λ j. f (suc j)) (λ j. F (suc j)) n) Z) (F 0))

  -- so those from the n-th on add at most b ^ n * s, however many there are
  pub truncated : (n : ℕ) (f : ℕ → Fraction) → ((j : ℕ) → Close m (f (n + j)) null) → (k : ℕ) → Close (remainder b s n) (exact_horner z f n) (exact_horner z f (n + k))
  unfolding exact_horner
  truncated zero f F k = rw (zero-add k) (close_sym (all_bounded f (λ j. rw (zero-add j) at (F j)) k))
  truncated (suc n) f F k = rw (suc-add n k) (close_plus (f 0) (close_scale_right z Z (truncated n (λ j. f (suc j)) (λ j. rw (suc-add n j) at (F j)) k)))

-- ---- One step. The argument is 2^−58 off at most and a coefficient 2^−54. With sums up to 1.6 the product is below 1 and rounds by at most 2^−54,
-- and the next sum is below 2 and rounds by at most 2^−53. All errors together are 2^−51 again at most, and the exact sum is up to 1.6 again.
abbrev pub Argument : Float → Fraction → Type 0
Argument = Approximation (two_to (negsuc 57)) exp_limit

abbrev pub Polynomial : Float → Fraction → Type 0
Polynomial = Approximation (two_to (negsuc 50)) (whole (pos 8) ⊘ whole (pos 5))

abbrev Coefficient : Float → Fraction → Type 0
Coefficient = Approximation (two_to (negsuc 53)) one

step_close : {p z c : Float} {P Z C : Fraction} → Polynomial p P → Argument z Z → Coefficient c C → Polynomial (strict.add (strict.mul p z) c) (P ⊗ Z ⊕ C)
step_close hp hz hc = loosened _ _ (sum 1022 tt (product 1021 tt hp hz refl) hc refl) refl refl

-- ---- all the steps. One test holds the doubles c, d, .. to the numbers f 0, f 1, ..
abbrev pub coefficients? : (ℕ → Fraction) → Float → List Float → Bool
coefficients? f c [] = approximation? (two_to (negsuc 53)) one (checked c) (f 0)
coefficients? f c (d ∷ cs) = approximation? (two_to (negsuc 53)) one (checked c) (f 0) && coefficients? (λ j. f (suc j)) d cs

coefficient : (c : Float) (C : Fraction) → T (approximation? (two_to (negsuc 53)) one c C) → Coefficient c C
coefficient c C t = test_approximation (two_to (negsuc 53)) one c C t

alone : (z q : Fraction) → q ≈ null ⊗ z ⊕ q
alone z q = (omega arith, omega arith)

pub horner_close : {z : Float} {Z : Fraction} → Argument z Z → (f : ℕ → Fraction) (c : Float) (cs : List Float) → T (coefficients? f c cs) → Polynomial (horner strict z c cs) (exact_horner Z f (suc (length cs)))
unfolding exact_horner
horner_close {z} {Z} hz f c [] t = of_equal (alone Z (f 0)) (loosened _ _ (coefficient (checked c) (f 0) t) refl refl)
horner_close hz f c (d ∷ cs) t =
    let u = approximation? (two_to (negsuc 53)) one (checked c) (f 0) in
    let v = coefficients? (λ j. f (suc j)) d cs in
    step_close (horner_close hz (λ j. f (suc j)) d cs (and_r u v t)) hz (coefficient (checked c) (f 0) (and_l u v t))
