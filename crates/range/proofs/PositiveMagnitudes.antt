-- Magnitudes above zero, as most are: a range above zero is its own, and a product is worked at the lower ends and at the upper ends, and moved outwards.
use mathlib.Core.Path.{◌≡◌, refl, sym, subst, ◌∙◌}
use mathlib.Core.Bool.{Bool, true, false}
use native.Mathlib.Omega.{arith}
use lib.Dec.{T}
use lib.IntN.{pos}
use lib.Ieee.{Float, nan, inf, fin, binary64, fits, lt, le, eq}
use lib.Ieee as Ieee
use lib.Ieee.Bits.{is_true}
use lib.Ieee.Fits.{and_l, mul-fits}
use lib.Ieee.Scale.{finite}
use Rattle.arithmetic.specs.Constants.{largest, zero_d}
use Rattle.arithmetic.specs.Fraction.{null, ◌⊗◌}
use Rattle.arithmetic.specs.Value.{value}
use Rattle.arithmetic.proofs.Fraction.{◌≈◌, ≼-≺-trans}
use Rattle.arithmetic.proofs.Value.{lt→le, le_trans, ≼→le, finite_between}
use Rattle.arithmetic.proofs.Next.{next_down_greatest}
use Rattle.arithmetic.proofs.Rounding.{mul_is, rounded_zero}
use Rattle.range.specs.declared.basic.Range.{Range}
use Rattle.range.specs.Positive.{positive}
use Rattle.range.specs.Rules.{is_zero, before, not_below_zero, outwards, magnitude, magnitudes, mul_magnitudes}
use Rattle.range.proofs.Contained.{zero_is, zero_number, zero_doubles, zero_value}
use Rattle.range.proofs.Operations.{zero_times}
use Rattle.range.proofs.Positive.{to_largest, positive_value, not_lt, first_least, second_greatest, low, high, in_order, has_ends, factors_of}

-- ---- the magnitudes of a range
own_magnitude : (x : Float) → T (lt zero_d x) → magnitude x ≡ x
unfolding magnitude
own_magnitude x h = rw (not_lt zero_d x (lt→le zero_d x h))

pub own_magnitudes : (r : Range) → T (fits binary64 r.lower) → positive r ≡ true → T (finite r.upper) → magnitudes r ≡ r
unfolding magnitudes
own_magnitudes r f h U =
    rw (
      has_ends r f h U,
      own_magnitude r.lower (low r f h),
      own_magnitude r.upper (high r f h),
      first_least _ _ (in_order r f h),
      second_greatest _ _ (in_order r f h),
      is_true (lt zero_d r.lower) (low r f h),
    )

-- ---- their product
-- the double before one above zero is not below zero
module _ (x : Float) (f : T (fits binary64 x)) (p : T (finite x)) (h : T (lt zero_d x)) where
  before_is : not_below_zero (before x) ≡ before x
  unfolding not_below_zero
  before_is =
      let z = next_down_greatest binary64 zero_d x zero_doubles.0 f zero_number p (≼-≺-trans zero_is.0 (positive_value x p h)) in
      rw (is_true (finite x) p, not_lt zero_d _ (≼→le zero_d _ zero_number z.0 z.1))

zero_not_above : (s : Bool) → T (lt zero_d (fin s 0 (pos 0))) → ⊥
unfolding lt Ieee.of_bits
zero_not_above true h = h
zero_not_above false h = h

module _ (r s : Range) (f : T (fits binary64 r.lower)) where
  abbrev l : Float
  l = Ieee.mul binary64 r.lower s.lower

  abbrev u : Float
  u = Ieee.mul binary64 r.upper s.upper

  -- the product of a zero is one
  no_zero : T (finite r.lower) → T (finite s.lower) → T (lt zero_d l) → is_zero r ≡ false
  no_zero q p h = go (is_zero r) refl
    where
      zero_product : T (is_zero r) → value r.lower ⊗ value s.lower ≈ null
      zero_product z = zero_times (value s.lower) (zero_value r.lower f (is_true (eq r.lower zero_d) (and_l (eq r.lower zero_d) (eq r.upper zero_d) z)))

      not_above : T (is_zero r) → ⊥
      not_above z =
          let e = zero_product z in
          zero_not_above _ (subst (λ (x : Float). T (lt zero_d x)) (mul_is binary64 r.lower s.lower q p ∙ rounded_zero binary64 _ _ (omega (arith, e))) h)

      go : (b : Bool) → is_zero r ≡ b → is_zero r ≡ false
      go true e = absurd (not_above (subst T (sym e) tt))
      go false e = e

  pub positive_magnitudes : T (lt zero_d l) → T (le l u) → T (lt u largest) → mul_magnitudes r s ≡ outwards l u
  unfolding mul_magnitudes outwards
  positive_magnitudes h i k =
      let U : T (finite u) = to_largest u (le_trans zero_d l u (lt→le zero_d l h) i) k in
      let L : T (finite l) = finite_between zero_d l u zero_number U (lt→le zero_d l h) i in
      let lows = factors_of r.lower s.lower L in
      let highs = factors_of r.upper s.upper U in
      rw (
        is_true (finite r.lower) lows.0,
        is_true (finite r.upper) highs.0,
        is_true (finite s.lower) lows.1,
        is_true (finite s.upper) highs.1,
        no_zero lows.0 lows.1 h,
        before_is l (mul-fits binary64 r.lower s.lower) L h,
      )
