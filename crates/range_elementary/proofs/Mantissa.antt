-- ln for a range whose ends have one e: the ends times 2^-e, which are doubles.
use Prim.Native.Nat.{ℕ, ◌+◌, ◌*◌, ◌<◌}
use native.Mathlib.Nat.{mul-lt-mul_of_pos_right}
use native.Mathlib.Omega.{arith}
use mathlib.Core.Path.{◌≡◌, sym, subst}
use mathlib.Core.Bool.{true, false}
use mathlib.Core.Option.{none, some}
use lib.IntN.{ℤ, neg_ℤ}
use lib.Dec.{T}
use lib.Ieee.{Float, nan, inf, fin, binary64, fits, eq, le, up, down, in_float}
use lib.Ieee.Bits.{is_true}
use lib.Ieee.Fits.{up_pos, mul-fits}
use lib.Ieee.Scale.{finite}
use Rattle.arithmetic.specs.Fraction.{Fraction, ◌≼◌, ◌≺◌, null, ◌⊗◌}
use Rattle.arithmetic.specs.Value.{value}
use Rattle.arithmetic.specs.Cases.{exponent_of}
use Rattle.arithmetic.specs.Constants.{zero_d}
use Rattle.arithmetic.specs.Doubles.{scaled}
use Rattle.arithmetic.proofs.Fraction.{◌≈◌, ≼_trans, ≺-≼-trans, ≼-≺-trans, ≺-irrefl}
use Rattle.arithmetic.proofs.Value.{le→≼}
use Rattle.arithmetic.proofs.Tests.{not_at_least}
use Rattle.arithmetic.proofs.Cases.{exponent_none}
use Rattle.range.specs.declared.basic.Range.{Range}
use Rattle.range.specs.Rules.{range, ok, ends, kept, scale}
use Rattle.range.proofs.Corners.{lower_finite, upper_finite}
use Rattle.range.proofs.Contained.{zero_is, zero_number}
use Rattle.range.proofs.PowersOfTwo.{power, kept_exact}
use Rattle.range.proofs.Positive.{above_nonzero}
use Rattle.range.proofs.Testing.{has_ends}

-- ---- above zero
times_positive : {q : Fraction} (k : ℤ) → null ≺ q → null ≺ q ⊗ power k
times_positive {q} k h = record { cross = go q.plus q.minus q.den (up k) (q.den * down k) (mul-lt-mul_of_pos_right h.cross (up_pos k)) }
  where
    go : (a b d u w : ℕ) → (0 * d + b * 1) * u < (a * 1 + 0 * d) * u → 0 * w + (a * 0 + b * (1 * u)) * 1 < (a * (1 * u) + b * 0) * 1 + 0 * w
    go a b d u w p = omega (arith, p)

positive_finite : (x : Float) → null ≺ value x → T (finite x)
positive_finite nan h = absurd (≺-irrefl h)
positive_finite (inf s) h = absurd (≺-irrefl h)
positive_finite (fin s m e) h = tt

-- ---- one end: m is x × 2^k
module _ (x : Float) (k : ℤ) (m : Float) (f : T (fits binary64 x)) (p : T (finite x)) (z : null ≺ value x) (s : scaled x k ≡ m) (e : value m ≈ value x ⊗ power k) where
  above : null ≺ value m
  above = ≺-≼-trans (times_positive k z) e.1

  end_finite : T (finite m)
  end_finite = positive_finite m above

  end_nonzero : eq m zero_d ≡ false
  end_nonzero = above_nonzero m (subst (λ (y : Float). T (fits binary64 y)) s (mul-fits binary64 x (fin false 1 k))) above

  end_kept : kept x k ≡ true
  end_kept = kept_exact x k f p (subst (λ (y : Float). T (finite y)) (sym s) end_finite) (subst (λ (y : Float). value y ≈ value x ⊗ power k) (sym s) e)

-- ---- both ends
module _ (v : Range) (A : ok v ≡ true) (k : ℤ) (m n : Float) (fl : T (fits binary64 v.lower)) (fu : T (fits binary64 v.upper)) (zl : null ≺ value v.lower) (zu : null ≺ value v.upper)
    (sl : scaled v.lower k ≡ m) (su : scaled v.upper k ≡ n) (el : value m ≈ value v.lower ⊗ power k) (eu : value n ≈ value v.upper ⊗ power k) where
  pub scale_exact : scale v k ≡ range m n
  unfolding scale ends
  scale_exact =
      let pl = lower_finite v (has_ends v A) in
      let pu = upper_finite v (has_ends v A) in
      rw (
        A,
        end_kept v.lower k m fl pl zl sl el,
        end_kept v.upper k n fu pu zu su eu,
        sl,
        su,
        is_true (finite m) (end_finite v.lower k m fl pl zl sl el),
        is_true (finite n) (end_finite v.upper k n fu pu zu su eu),
        end_nonzero v.lower k m fl pl zl sl el,
        end_nonzero v.upper k n fu pu zu su eu,
      )

-- ---- an end above zero, as the code has it
pub not_at_most_zero : (x : Float) → T (finite x) → le x zero_d ≡ false → null ≺ value x
not_at_most_zero x p h = ≼-≺-trans zero_is.1 (not_at_least x zero_d p zero_number h)

pub at_most_zero : (x : Float) → T (finite x) → le x zero_d ≡ true → exponent_of (value x) ≡ none
at_most_zero x p h = exponent_none (value x) (≼_trans (le→≼ x zero_d p zero_number (subst T (sym h) tt)) zero_is.0)

-- what `split` ensures of the double x
abbrev pub Split : Float → Float → ℤ → Type 0
Split x m e = (exponent_of (value x) ≡ some e) × (scaled x (neg_ℤ e) ≡ m) × T (in_float binary64 e) × (value m ≼ value x ⊗ power (neg_ℤ e)) × (value x ⊗ power (neg_ℤ e) ≼ value m)
