-- The partial sums of a power series are Horner's rule in fractions, and the coefficients of the two series.
use Prim.Native.Nat.{ℕ, zero, suc, ◌+◌, ◌*◌, ◌≤◌, ◌<◌}
use native.Mathlib.Nat.{zero-lt-suc, le_refl, le_trans, mul-pos, add-suc, add-zero}
use native.Mathlib.Omega.{arith}
use mathlib.Core.Path.{◌≡◌}
use mathlib.Core.Bool.{true, false}
use lib.IntN.{pos}
use lib.Dec.{ltb, lt→ltb}
use lib.Ieee.Bits.{is_true}
use Rattle.arithmetic.specs.Fraction.{Fraction, null, one, whole, ◌⊕◌, ◌⊗◌, recip, Close}
use Rattle.arithmetic.specs.Value.{signed}
use Rattle.arithmetic.specs.Constants.{factorial}
use Rattle.arithmetic.specs.Arithmetic.{sum_by, power_by}
use Rattle.arithmetic.specs.Series.{power, partial_sum}
use Rattle.arithmetic.proofs.Fraction.{◌≈◌, ≈-refl, ≈-sym, ≈-trans, ⊕-cong, ⊗-cong, ⊗-cong-right, ⊕-assoc, ⊕-comm, ⊗-assoc, ⊗-comm, ⊗-null, ⊗-distrib}
use Rattle.arithmetic.proofs.Horner.{exact_horner}

-- the first term apart
front : (t : ℕ → Fraction) (n : ℕ) → partial_sum t (suc n) ≈ t 0 ⊕ partial_sum (λ j. t (suc j)) n
unfolding sum_by
front t zero = ⊕-comm null (t 0)
front t (suc n) = ≈-trans (⊕-cong (front t n) (≈-refl (t (suc n)))) (⊕-assoc (t 0) (partial_sum (λ j. t (suc j)) n) (t (suc n)))

factor_out : (a z h c : Fraction) → a ⊗ c ⊕ a ⊗ z ⊗ h ≈ a ⊗ (h ⊗ z ⊕ c)
factor_out a z h c =
    ≈-trans (⊕-cong (≈-refl (a ⊗ c)) (≈-trans (⊗-assoc a z h) (⊗-cong-right a (⊗-comm z h))))
    (≈-trans (⊕-comm (a ⊗ c) (a ⊗ (h ⊗ z))) (≈-sym (⊗-distrib a (h ⊗ z) c)))

-- for terms g j * f j, where each g j is the one before it times z
pub sum_is : (z : Fraction) (g f : ℕ → Fraction) → ((j : ℕ) → g (suc j) ≈ g j ⊗ z) → (n : ℕ) → partial_sum (λ j. g j ⊗ f j) n ≈ g 0 ⊗ exact_horner z f n
unfolding exact_horner sum_by
sum_is z g f G zero = ≈-sym (⊗-null (g 0))
sum_is z g f G (suc n) =
    ≈-trans (front (λ j. g j ⊗ f j) n)
    (≈-trans (⊕-cong (≈-refl (g 0 ⊗ f 0)) (≈-trans (sum_is z (λ j. g (suc j)) (λ j. f (suc j)) (λ j. G (suc j)) n) (⊗-cong (G 0) (≈-refl (exact_horner z (λ j. f (suc j)) n)))))
    (factor_out (g 0) z (exact_horner z (λ j. f (suc j)) n) (f 0)))

pub one_times : (x : Fraction) → one ⊗ x ≈ x
one_times x = (omega arith, omega arith)

pub power_next : (x : Fraction) (j : ℕ) → power x (suc j) ≈ power x j ⊗ x
unfolding power_by
power_next x zero = ≈-sym (one_times x)
power_next x (suc j) = ≈-refl (power x (suc j) ⊗ x)

-- ---- 1 / j! and 1 / (2k + 1)
abbrev pub factorial_term : ℕ → Fraction
factorial_term j = recip (whole (pos (factorial j)))

abbrev pub odd_term : ℕ → Fraction
odd_term k = recip (whole (pos (2 * k + 1)))

-- 1 / n, for n not below d
module _ (n d : ℕ) (D : 0 < d) (h : d ≤ n) where
  positive : ltb 0 n ≡ true
  positive = is_true (ltb 0 n) (lt→ltb 0 n (omega arith))

  pub reciprocal_bound : Close (signed false 1 d D) (recip (whole (pos n))) null
  reciprocal_bound = record { low = record { cross = rw positive (omega arith) }; high = record { cross = rw positive (omega arith) } }

pub factorial_pos : (j : ℕ) → 0 < factorial j
factorial_pos zero = zero-lt-suc 0
factorial_pos (suc j) = mul-pos (zero-lt-suc j) (factorial_pos j)

pub factorial_from : (n j : ℕ) → factorial n ≤ factorial (n + j)
factorial_from n zero = rw (add-zero n) (le_refl (factorial n))
factorial_from n (suc j) = rw (add-suc n j) (le_trans (factorial_from n j) (go (n + j) (factorial (n + j))))
  where
    go : (m k : ℕ) → k ≤ suc m * k
    go m k = omega arith
