-- Ranges above zero: a sum and a product are worked at the lower ends and at the upper ends, and moved outwards.
use mathlib.Core.Path.{◌≡◌, refl, sym, ap, ap₂, subst}
use mathlib.Core.Bool.{Bool, true, false, cond, ◌&&◌}
use native.Mathlib.Omega.{arith}
use lib.Dec.{T, eqb}
use lib.IntN.{pos}
use lib.Ieee.{Float, nan, inf, fin, binary64, fits, lt, le, eq, unlike}
use lib.Ieee as Ieee
use lib.Ieee.Bits.{is_true, is_false}
use lib.Ieee.Fits.{and_l, and_r}
use lib.Ieee.Scale.{finite}
use Rattle.arithmetic.specs.Constants.{largest, zero_d}
use Rattle.arithmetic.specs.Fraction.{Fraction, null, ◌≼◌, ◌≺◌, ◌⊗◌, ◌⊕◌}
use Rattle.arithmetic.specs.Value.{value}
use Rattle.arithmetic.proofs.Fraction.{≼_refl, ≼_trans, ≺→≼, ≺-≼-trans, ⊕-mono, ⊗-mono, ⊗-swap}
use Rattle.arithmetic.proofs.Value.{le→≼, ≺→lt, lt→le, le_trans, finite_between}
use Rattle.arithmetic.proofs.Next.{pattern_finite}
use Rattle.arithmetic.proofs.Zero.{is_zero_is, above_zero}
use Rattle.arithmetic.proofs.Rounding.{rounded_mono, add_is, mul_is}
use Rattle.arithmetic.proofs.Enclosure.{under_rounded}
use Rattle.arithmetic.proofs.Tests.{le_is}
use Rattle.range.specs.declared.basic.Range.{Range}
use Rattle.range.specs.Positive.{positive}
use Rattle.range.specs.Rules.{ok, is_zero, least, greatest, outwards}
use Rattle.range.specs.Rules as Rules

-- ---- doubles above zero
pub zero_finite : T (finite zero_d)
zero_finite = pattern_finite binary64 0 (omega arith)

pub to_largest : (x : Float) → T (le zero_d x) → T (lt x largest) → T (finite x)
to_largest x h k = finite_between zero_d x largest zero_finite (pattern_finite binary64 0x7fef_ffff_ffff_ffff (omega arith)) h (lt→le x largest k)

pub positive_value : (x : Float) → T (finite x) → T (lt zero_d x) → null ≺ value x
positive_value x p h = above_zero x p (is_true (lt zero_d x) h)

pub above_nonzero : (x : Float) → T (fits binary64 x) → null ≺ value x → eq x zero_d ≡ false
above_nonzero x f z = go (eq x zero_d) refl
  where
    no : (s : Bool) → null ≺ value (fin s 0 (pos 0)) → ⊥
    no true h = omega (arith, h)
    no false h = omega (arith, h)

    go : (b : Bool) → eq x zero_d ≡ b → eq x zero_d ≡ false
    go true e = let w = is_zero_is x f e in absurd (no w.0 (subst (λ (y : Float). null ≺ value y) w.1 z))
    go false e = e

pub positive_lt : (x : Float) → T (finite x) → null ≺ value x → T (lt zero_d x)
unfolding Ieee.of_bits
positive_lt x p h = ≺→lt zero_d x tt p (record { cross = h.cross })

still_positive : (x y : Float) → T (lt zero_d x) → T (le x y) → T (lt zero_d y)
unfolding lt le Ieee.of_bits
still_positive nan y h k = absurd h
still_positive (inf true) y h k = absurd h
still_positive (inf false) nan h k = absurd k
still_positive (inf false) (inf true) h k = absurd k
still_positive (inf false) (inf false) h k = tt
still_positive (inf false) (fin t n d) h k = absurd k
still_positive (fin s m e) nan h k = absurd k
still_positive (fin s m e) (inf true) h k = absurd k
still_positive (fin s m e) (inf false) h k = tt
still_positive (fin s m e) (fin t n d) h k = positive_lt (fin t n d) tt (≺-≼-trans (positive_value (fin s m e) tt h) (le→≼ (fin s m e) (fin t n d) tt tt k))

-- ---- sums and products that are not infinite
-- the terms of a finite sum are finite
pub terms_finite : (x y : Float) → T (finite (Ieee.add binary64 x y)) → T (finite x) × T (finite y)
unfolding Ieee.add
terms_finite nan y h = absurd h
terms_finite (inf s) nan h = absurd h
terms_finite (inf true) (inf true) h = absurd h
terms_finite (inf true) (inf false) h = absurd h
terms_finite (inf false) (inf true) h = absurd h
terms_finite (inf false) (inf false) h = absurd h
terms_finite (inf s) (fin t n d) h = absurd h
terms_finite (fin s m e) nan h = absurd h
terms_finite (fin s m e) (inf t) h = absurd h
terms_finite (fin s m e) (fin t n d) h = (tt, tt)

-- a sum is at least its first term
sum_over_finite : (x y : Float) → T (fits binary64 x) → T (finite x) → T (finite y) → null ≼ value y → T (le x (Ieee.add binary64 x y))
sum_over_finite x y f p q z = rw (add_is binary64 x y p q) (under_rounded binary64 _ x (value x ⊕ value y) p f (≼_trans (with_null (value x)) (⊕-mono (≼_refl (value x)) z)))
  where
    with_null : (a : Fraction) → a ≼ a ⊕ null
    with_null a = omega arith

sum_over : (x y : Float) → T (fits binary64 x) → T (lt zero_d x) → T (lt zero_d y) → T (le x (Ieee.add binary64 x y))
unfolding lt le Ieee.add Ieee.of_bits
sum_over nan y f h k = absurd h
sum_over (inf true) y f h k = absurd h
sum_over (inf false) nan f h k = absurd k
sum_over (inf false) (inf true) f h k = absurd k
sum_over (inf false) (inf false) f h k = tt
sum_over (inf false) (fin t n d) f h k = tt
sum_over (fin s m e) nan f h k = absurd k
sum_over (fin s m e) (inf true) f h k = absurd k
sum_over (fin s m e) (inf false) f h k = tt
sum_over (fin s m e) (fin t n d) f h k = sum_over_finite (fin s m e) (fin t n d) f tt tt (≺→≼ (positive_value (fin t n d) tt k))

-- what a product with an infinity is
infinite : (b : Bool) → T (lt (cond b nan (inf false)) largest) → ⊥
unfolding lt Ieee.of_bits
infinite true h = h
infinite false h = h

-- the factors of a product below the largest double are finite
factors_finite : (x y : Float) → T (lt zero_d x) → T (lt zero_d y) → T (lt (Ieee.mul binary64 x y) largest) → T (finite x) × T (finite y)
unfolding lt Ieee.mul Ieee.of_bits
factors_finite nan y h k l = absurd h
factors_finite (inf true) y h k l = absurd h
factors_finite (inf false) nan h k l = absurd k
factors_finite (inf false) (inf true) h k l = absurd k
factors_finite (inf false) (inf false) h k l = absurd l
factors_finite (inf false) (fin true n d) h k l = absurd k
factors_finite (inf false) (fin false n d) h k l = absurd (infinite (eqb n 0) l)
factors_finite (fin s m e) nan h k l = absurd k
factors_finite (fin s m e) (inf true) h k l = absurd k
factors_finite (fin true m e) (inf false) h k l = absurd h
factors_finite (fin false m e) (inf false) h k l = absurd (infinite (eqb m 0) l)
factors_finite (fin s m e) (fin t n d) h k l = (tt, tt)

-- the factors of a finite product are finite
no_number : (s b : Bool) → T (finite (cond b nan (inf s))) → ⊥
no_number s true h = h
no_number s false h = h

pub factors_of : (x y : Float) → T (finite (Ieee.mul binary64 x y)) → T (finite x) × T (finite y)
unfolding Ieee.mul
factors_of nan y h = absurd h
factors_of (inf s) nan h = absurd h
factors_of (inf s) (inf t) h = absurd h
factors_of (inf s) (fin t n d) h = absurd (no_number (unlike s t) (eqb n 0) h)
factors_of (fin s m e) nan h = absurd h
factors_of (fin s m e) (inf t) h = absurd (no_number (unlike s t) (eqb m 0) h)
factors_of (fin s m e) (fin t n d) h = (tt, tt)

-- ---- what the test says of a range with a finite upper end
module _ (r : Range) (f : T (fits binary64 r.lower)) (h : positive r ≡ true) where
  pub low : T (lt zero_d r.lower)
  low = and_l (lt zero_d r.lower) (le r.lower r.upper) (subst T (sym h) tt)

  pub in_order : T (le r.lower r.upper)
  in_order = and_r (lt zero_d r.lower) (le r.lower r.upper) (subst T (sym h) tt)

  pub high : T (lt zero_d r.upper)
  high = still_positive r.lower r.upper low in_order

  module _ (U : T (finite r.upper)) where
    pub lower_finite : T (finite r.lower)
    lower_finite = finite_between zero_d r.lower r.upper zero_finite U (lt→le zero_d r.lower low) in_order

    above : null ≺ value r.lower
    above = positive_value r.lower lower_finite low

    values : value r.lower ≼ value r.upper
    values = le→≼ r.lower r.upper lower_finite U in_order

    pub has_ends : ok r ≡ true
    has_ends = ap₂ (λ (a b : Bool). a && b) (is_true (finite r.lower) lower_finite) (is_true (finite r.upper) U)

    pub no_zero : is_zero r ≡ false
    no_zero = ap (λ (b : Bool). b && eq r.upper zero_d) (above_nonzero r.lower f above)

-- ---- the order of rounded products
pub not_lt : (x y : Float) → T (le x y) → lt y x ≡ false
unfolding lt le
not_lt nan y h = absurd h
not_lt (inf s) nan h = absurd h
not_lt (fin s m e) nan h = absurd h
not_lt (inf true) (inf true) h = refl
not_lt (inf true) (inf false) h = refl
not_lt (inf false) (inf true) h = absurd h
not_lt (inf false) (inf false) h = refl
not_lt (inf true) (fin t n d) h = refl
not_lt (inf false) (fin t n d) h = absurd h
not_lt (fin s m e) (inf true) h = absurd h
not_lt (fin s m e) (inf false) h = refl
not_lt (fin s m e) (fin t n d) h = is_false (lt (fin t n d) (fin s m e)) (subst T (le_is (fin s m e) (fin t n d) tt tt) h)

pub first_least : (x y : Float) → T (le x y) → least x y ≡ x
unfolding least
first_least x y h = rw (not_lt x y h)

pub second_greatest : (x y : Float) → T (le x y) → greatest x y ≡ y
unfolding greatest
second_greatest x y h = rw (not_lt x y h)

pub grows : (x x' y y' : Float) → T (finite x) → T (finite x') → T (finite y) → T (finite y') → null ≼ value x → null ≼ value y' → value x ≼ value x' → value y ≼ value y' → T (le (Ieee.mul binary64 x y) (Ieee.mul binary64 x' y'))
grows x x' y y' p p' q q' z w h k =
    rw (mul_is binary64 x y p q, mul_is binary64 x' y' p' q')
    (rounded_mono binary64 _ _ (value x ⊗ value y) (value x' ⊗ value y') (≼_trans (⊗-mono z k) (≼_trans (⊗-swap (value x) (value y')) (≼_trans (⊗-mono w h) (⊗-swap (value y') (value x'))))))

-- ---- the rules
-- a sum whose tests passed
pub record SumTests (r s : Range) : Type 0 where
  pub fits_r : T (fits binary64 r.lower)
  pub fits_s : T (fits binary64 s.lower)
  pub first : T (lt zero_d r.lower)
  pub second : T (lt zero_d s.lower)
  pub in_order : T (le (Ieee.add binary64 r.lower s.lower) (Ieee.add binary64 r.upper s.upper))
  pub to_limit : T (lt (Ieee.add binary64 r.upper s.upper) largest)

module _ (r s : Range) (t : SumTests r s) where
  abbrev l : Float
  l = Ieee.add binary64 r.lower s.lower

  abbrev u : Float
  u = Ieee.add binary64 r.upper s.upper

  pub sum_positive : T (lt zero_d l)
  sum_positive = still_positive r.lower l t.first (sum_over r.lower s.lower t.fits_r t.first t.second)

  pub positive_sum : Rules.add r s ≡ outwards l u
  unfolding Rules.add
  positive_sum =
      let z : T (le zero_d l) = lt→le zero_d l sum_positive in
      let U : T (finite u) = to_largest u (le_trans zero_d l u z t.in_order) t.to_limit in
      let lows = terms_finite r.lower s.lower (finite_between zero_d l u zero_finite U z t.in_order) in
      let highs = terms_finite r.upper s.upper U in
      rw (
        is_true (finite r.lower) lows.0,
        is_true (finite r.upper) highs.0,
        is_true (finite s.lower) lows.1,
        is_true (finite s.upper) highs.1,
        above_nonzero r.lower t.fits_r (positive_value r.lower lows.0 t.first),
        above_nonzero s.lower t.fits_s (positive_value s.lower lows.1 t.second),
      )

-- a product of ranges above zero
abbrev m : Float → Float → Float
m = Ieee.mul binary64

pub record Factors (r s : Range) : Type 0 where
  pub fits_r : T (fits binary64 r.lower)
  pub fits_s : T (fits binary64 s.lower)
  pub positive_r : positive r ≡ true
  pub positive_s : positive s ≡ true

module _ (r s : Range) (t : Factors r s) where
  pub uppers_finite : T (lt (m r.upper s.upper) largest) → T (finite r.upper) × T (finite s.upper)
  uppers_finite = factors_finite r.upper s.upper (high r t.fits_r t.positive_r) (high s t.fits_s t.positive_s)

  module _ (U : T (finite r.upper)) (W : T (finite s.upper)) where
    rl : T (finite r.lower)
    rl = lower_finite r t.fits_r t.positive_r U

    sl : T (finite s.lower)
    sl = lower_finite s t.fits_s t.positive_s W

    r_low : null ≼ value r.lower
    r_low = ≺→≼ (above r t.fits_r t.positive_r U)

    s_low : null ≼ value s.lower
    s_low = ≺→≼ (above s t.fits_s t.positive_s W)

    s_high : null ≼ value s.upper
    s_high = ≼_trans s_low (values s t.fits_s t.positive_s W)

    -- the four products in their order
    pub first_row : T (le (m r.lower s.lower) (m r.lower s.upper))
    first_row = grows r.lower r.lower s.lower s.upper rl rl sl W r_low s_high (≼_refl (value r.lower)) (values s t.fits_s t.positive_s W)

    pub second_row : T (le (m r.upper s.lower) (m r.upper s.upper))
    second_row = grows r.upper r.upper s.lower s.upper U U sl W (≼_trans r_low (values r t.fits_r t.positive_r U)) s_high (≼_refl (value r.upper)) (values s t.fits_s t.positive_s W)

    pub first_column : T (le (m r.lower s.lower) (m r.upper s.lower))
    first_column = grows r.lower r.upper s.lower s.lower rl U sl sl r_low s_low (values r t.fits_r t.positive_r U) (≼_refl (value s.lower))

    pub second_column : T (le (m r.lower s.upper) (m r.upper s.upper))
    second_column = grows r.lower r.upper s.upper s.upper rl U W W r_low s_high (values r t.fits_r t.positive_r U) (≼_refl (value s.upper))

    pub product_in_order : T (le (m r.lower s.lower) (m r.upper s.upper))
    product_in_order = le_trans _ _ _ first_row second_column

    pub positive_product : Rules.mul r s ≡ outwards (m r.lower s.lower) (m r.upper s.upper)
    unfolding Rules.mul Rules.four
    positive_product =
        rw (
          has_ends r t.fits_r t.positive_r U,
          has_ends s t.fits_s t.positive_s W,
          no_zero r t.fits_r t.positive_r U,
          no_zero s t.fits_s t.positive_s W,
          first_least _ _ first_row,
          first_least _ _ second_row,
          first_least _ _ first_column,
          second_greatest _ _ first_row,
          second_greatest _ _ second_row,
          second_greatest _ _ second_column,
        )
