-- Ends on numbers alone: a sum, a product or a quotient of numbers of two ranges lies between the rounded results at the ends, the least and the greatest of them
-- moved to the next double outwards.
use mathlib.Core.Logic.{inl, inr}
use mathlib.Core.Bool.{Bool, true, false, not, cond}
use lib.Dec.{T, T_not}
use lib.Ieee.{Float, nan, inf, fin, binary64, add, mul, div, le, lt, fits}
use lib.Ieee.Fits.{and_l, and_r, add-fits, mul-fits, div-fits, cond-fits, nan-fits}
use lib.Ieee.Scale.{finite}
use Rattle.arithmetic.specs.Fraction.{Fraction, ◌≼◌, ◌⊕◌, ◌⊗◌, ◌⊘◌, Apart}
use Rattle.arithmetic.specs.Value.{value, Within}
use Rattle.arithmetic.specs.Next.{next_up, next_down}
use Rattle.arithmetic.proofs.Fraction.{◌≈◌, ≼_refl, ≼_trans, ≼-or-≻, ≺→≼, ⊕-mono, apart_at, product_least, product_greatest, quotient_least, quotient_greatest}
use Rattle.arithmetic.proofs.Value.{≼→le, ≺→lt, lt→le, le_trans}
use Rattle.arithmetic.proofs.Next.{next_up_fits, next_down_fits, next_up_lt, next_down_lt}
use Rattle.arithmetic.proofs.Enclosure.{Rounds, real, low_end, high_end, add_rounds, mul_rounds, div_rounds}
use Rattle.range.specs.declared.basic.Range.{Range}
use Rattle.range.specs.Rules.{before, after, least, greatest}
use Rattle.range.specs.Enclosed.{Ok}

-- ---- what lies between the ends of a range
abbrev pub In : Range → Fraction → Type 0
In r q = Within r.lower r.upper q

pub one_number : {r : Range} {p q : Fraction} → p ≈ q → In r q → In r p
one_number e w = record { low = ≼_trans w.low e.1; high = ≼_trans e.0 w.high }

-- its ends are doubles
abbrev pub OfDoubles : Range → Type 0
OfDoubles r = T (fits binary64 r.lower) × T (fits binary64 r.upper)

pub lower_finite : (r : Range) → Ok r → T (finite r.lower)
lower_finite r h = and_l (finite r.lower) (finite r.upper) h

pub upper_finite : (r : Range) → Ok r → T (finite r.upper)
upper_finite r h = and_r (finite r.lower) (finite r.upper) h

-- ---- the double before l, and the double after it
pub before_fits : (l : Float) → T (fits binary64 (before l))
before_fits l = cond-fits binary64 (finite l) (next_down binary64 l) nan (next_down_fits binary64 l) (nan-fits binary64)

pub after_fits : (l : Float) → T (fits binary64 (after l))
after_fits l = cond-fits binary64 (finite l) (next_up binary64 l) nan (next_up_fits binary64 l) (nan-fits binary64)

module _ (l : Float) (f : T (fits binary64 l)) where
  pub before_below : T (finite (before l)) → value (before l) ≼ value l
  before_below = go (finite l) (λ t. t)
    where
      go : (b : Bool) → (T b → T (finite l)) → T (finite (cond b (next_down binary64 l) nan)) → value (cond b (next_down binary64 l) nan) ≼ value l
      go true h p = ≺→≼ (next_down_lt binary64 l f (h tt) p)
      go false h p = absurd p

  pub after_above : T (finite (after l)) → value l ≼ value (after l)
  after_above = go (finite l) (λ t. t)
    where
      go : (b : Bool) → (T b → T (finite l)) → T (finite (cond b (next_up binary64 l) nan)) → value l ≼ value (cond b (next_up binary64 l) nan)
      go true h p = ≺→≼ (next_up_lt binary64 l f (h tt) p)
      go false h p = absurd p

  -- q rounds to l or more
  pub low_bound : (x : Float) (q : Fraction) → Rounds binary64 x q → T (le l x) → T (finite (before l)) → value (before l) ≼ q
  low_bound x q R h = go (finite l)
    where
      go : (b : Bool) → T (finite (cond b (next_down binary64 l) nan)) → value (cond b (next_down binary64 l) nan) ≼ q
      go true p = low_end binary64 l x q R f h p
      go false p = absurd p

  -- it rounds to l or less
  pub high_bound : (x : Float) (q : Fraction) → Rounds binary64 x q → T (le x l) → T (finite (after l)) → q ≼ value (after l)
  high_bound x q R h = go (finite l)
    where
      go : (b : Bool) → T (finite (cond b (next_up binary64 l) nan)) → q ≼ value (cond b (next_up binary64 l) nan)
      go true p = high_end binary64 l x q R f h p
      go false p = absurd p

-- ---- the least and the greatest of doubles that are no NaN
not_lt_le : (x y : Float) → T (le x x) → T (le y y) → T (not (lt y x)) → T (le x y)
unfolding lt le
not_lt_le nan y p q h = absurd p
not_lt_le (inf s) nan p q h = absurd q
not_lt_le (fin s m e) nan p q h = absurd q
not_lt_le (inf true) (inf true) p q h = tt
not_lt_le (inf true) (inf false) p q h = tt
not_lt_le (inf false) (inf true) p q h = absurd h
not_lt_le (inf false) (inf false) p q h = tt
not_lt_le (inf true) (fin t n d) p q h = tt
not_lt_le (inf false) (fin t n d) p q h = absurd h
not_lt_le (fin s m e) (inf true) p q h = absurd h
not_lt_le (fin s m e) (inf false) p q h = tt
not_lt_le (fin s m e) (fin t n d) p q h = elim (≼-or-≻ (value (fin s m e)) (value (fin t n d))) [
  | inl l ↦ ≼→le (fin s m e) (fin t n d) tt tt l
  | inr l ↦ absurd (T_not (lt (fin t n d) (fin s m e)) h (≺→lt (fin t n d) (fin s m e) tt tt l))
]

module _ (x y : Float) (p : T (le x x)) (q : T (le y y)) where
  least_is : T (le (least x y) x) × T (le (least x y) y) × T (le (least x y) (least x y))
  unfolding least
  least_is = go (lt y x) (lt→le y x) (not_lt_le x y p q)
    where
      go : (b : Bool) → (T b → T (le y x)) → (T (not b) → T (le x y)) → T (le (cond b y x) x) × T (le (cond b y x) y) × T (le (cond b y x) (cond b y x))
      go true h k = (h tt, q, q)
      go false h k = (p, k tt, p)

  greatest_is : T (le x (greatest x y)) × T (le y (greatest x y)) × T (le (greatest x y) (greatest x y))
  unfolding greatest
  greatest_is = go (lt y x) (lt→le y x) (not_lt_le x y p q)
    where
      go : (b : Bool) → (T b → T (le y x)) → (T (not b) → T (le x y)) → T (le x (cond b x y)) × T (le y (cond b x y)) × T (le (cond b x y) (cond b x y))
      go true h k = (p, h tt, p)
      go false h k = (k tt, q, q)

pub least_fits : (x y : Float) → T (fits binary64 x) → T (fits binary64 y) → T (fits binary64 (least x y))
unfolding least
least_fits x y h k = cond-fits binary64 (lt y x) y x k h

pub greatest_fits : (x y : Float) → T (fits binary64 x) → T (fits binary64 y) → T (fits binary64 (greatest x y))
unfolding greatest
greatest_fits x y h k = cond-fits binary64 (lt y x) x y h k

-- ---- at each end of one range with each end of another
pub record AtEnds (P : Float → Float → Type 0) (r s : Range) : Type 0 where
  pub low_low : P r.lower s.lower
  pub low_high : P r.lower s.upper
  pub high_low : P r.upper s.lower
  pub high_high : P r.upper s.upper

abbrev pub lowest : (Float → Float → Float) → Range → Range → Float
lowest op r s = least (least (op r.lower s.lower) (op r.lower s.upper)) (least (op r.upper s.lower) (op r.upper s.upper))

abbrev pub highest : (Float → Float → Float) → Range → Range → Float
highest op r s = greatest (greatest (op r.lower s.lower) (op r.lower s.upper)) (greatest (op r.upper s.lower) (op r.upper s.upper))

-- `op` is the operation `exact` on numbers, rounded
module _ (op : Float → Float → Float) (exact : Fraction → Fraction → Fraction) (double : (x y : Float) → T (fits binary64 (op x y))) (r s : Range)
    (R : AtEnds (λ x y. Rounds binary64 (op x y) (exact (value x) (value y))) r s) where
  module _ (x y : Float) (K : Rounds binary64 (op x y) (exact (value x) (value y))) where
    is_real : T (le (op x y) (op x y))
    is_real = real binary64 (op x y) (exact (value x) (value y)) K

  pub lowest_under : AtEnds (λ x y. T (le (lowest op r s) (op x y))) r s
  lowest_under =
      let i = least_is (op r.lower s.lower) (op r.lower s.upper) (is_real r.lower s.lower R.low_low) (is_real r.lower s.upper R.low_high) in
      let j = least_is (op r.upper s.lower) (op r.upper s.upper) (is_real r.upper s.lower R.high_low) (is_real r.upper s.upper R.high_high) in
      let k = least_is _ _ i.2 j.2 in
      record { low_low = le_trans _ _ _ k.0 i.0; low_high = le_trans _ _ _ k.0 i.1; high_low = le_trans _ _ _ k.1 j.0; high_high = le_trans _ _ _ k.1 j.1 }

  pub highest_over : AtEnds (λ x y. T (le (op x y) (highest op r s))) r s
  highest_over =
      let i = greatest_is (op r.lower s.lower) (op r.lower s.upper) (is_real r.lower s.lower R.low_low) (is_real r.lower s.upper R.low_high) in
      let j = greatest_is (op r.upper s.lower) (op r.upper s.upper) (is_real r.upper s.lower R.high_low) (is_real r.upper s.upper R.high_high) in
      let k = greatest_is _ _ i.2 j.2 in
      record { low_low = le_trans _ _ _ i.0 k.0; low_high = le_trans _ _ _ i.1 k.0; high_low = le_trans _ _ _ j.0 k.1; high_high = le_trans _ _ _ j.1 k.1 }

  pub corners_in_order : T (le (lowest op r s) (highest op r s))
  corners_in_order = le_trans _ _ _ lowest_under.low_low highest_over.low_low

  pub lowest_fits : T (fits binary64 (lowest op r s))
  lowest_fits = least_fits _ _ (least_fits _ _ (double r.lower s.lower) (double r.lower s.upper)) (least_fits _ _ (double r.upper s.lower) (double r.upper s.upper))

  pub highest_fits : T (fits binary64 (highest op r s))
  highest_fits = greatest_fits _ _ (greatest_fits _ _ (double r.lower s.lower) (double r.lower s.upper)) (greatest_fits _ _ (double r.upper s.lower) (double r.upper s.upper))

  pub low_corners : T (finite (before (lowest op r s))) → AtEnds (λ x y. value (before (lowest op r s)) ≼ exact (value x) (value y)) r s
  low_corners p = record {
    low_low = under r.lower s.lower R.low_low lowest_under.low_low;
    low_high = under r.lower s.upper R.low_high lowest_under.low_high;
    high_low = under r.upper s.lower R.high_low lowest_under.high_low;
    high_high = under r.upper s.upper R.high_high lowest_under.high_high;
  }
    where
      under : (x y : Float) → Rounds binary64 (op x y) (exact (value x) (value y)) → T (le (lowest op r s) (op x y)) → value (before (lowest op r s)) ≼ exact (value x) (value y)
      under x y K h = low_bound (lowest op r s) lowest_fits (op x y) (exact (value x) (value y)) K h p

  pub high_corners : T (finite (after (highest op r s))) → AtEnds (λ x y. exact (value x) (value y) ≼ value (after (highest op r s))) r s
  high_corners p = record {
    low_low = over r.lower s.lower R.low_low highest_over.low_low;
    low_high = over r.lower s.upper R.low_high highest_over.low_high;
    high_low = over r.upper s.lower R.high_low highest_over.high_low;
    high_high = over r.upper s.upper R.high_high highest_over.high_high;
  }
    where
      over : (x y : Float) → Rounds binary64 (op x y) (exact (value x) (value y)) → T (le (op x y) (highest op r s)) → exact (value x) (value y) ≼ value (after (highest op r s))
      over x y K h = high_bound (highest op r s) highest_fits (op x y) (exact (value x) (value y)) K h p

-- ---- sums, products and quotients of what lies in two ranges
pub product_ends : (r s : Range) → Ok r → Ok s → AtEnds (λ x y. Rounds binary64 (mul binary64 x y) (value x ⊗ value y)) r s
product_ends r s A B = record {
  low_low = mul_rounds binary64 r.lower s.lower (lower_finite r A) (lower_finite s B);
  low_high = mul_rounds binary64 r.lower s.upper (lower_finite r A) (upper_finite s B);
  high_low = mul_rounds binary64 r.upper s.lower (upper_finite r A) (lower_finite s B);
  high_high = mul_rounds binary64 r.upper s.upper (upper_finite r A) (upper_finite s B);
}

module _ (r s : Range) (A : Ok r) (B : Ok s) {p q : Fraction} (v : In r p) (w : In s q) where
  pub sum_within : T (finite (before (add binary64 r.lower s.lower))) → T (finite (after (add binary64 r.upper s.upper)))
      → Within (before (add binary64 r.lower s.lower)) (after (add binary64 r.upper s.upper)) (p ⊕ q)
  sum_within L H =
      let l = add binary64 r.lower s.lower in
      let h = add binary64 r.upper s.upper in
      let lq = value r.lower ⊕ value s.lower in
      let hq = value r.upper ⊕ value s.upper in
      let K : Rounds binary64 l lq = add_rounds binary64 r.lower s.lower (lower_finite r A) (lower_finite s B) in
      let M : Rounds binary64 h hq = add_rounds binary64 r.upper s.upper (upper_finite r A) (upper_finite s B) in
      record {
        low = ≼_trans (low_bound l (add-fits binary64 r.lower s.lower) l lq K (real binary64 l lq K) L) (⊕-mono v.low w.low);
        high = ≼_trans (⊕-mono v.high w.high) (high_bound h (add-fits binary64 r.upper s.upper) h hq M (real binary64 h hq M) H);
      }

  pub product_within : T (finite (before (lowest (mul binary64) r s))) → T (finite (after (highest (mul binary64) r s)))
      → Within (before (lowest (mul binary64) r s)) (after (highest (mul binary64) r s)) (p ⊗ q)
  product_within L H =
      let R = product_ends r s A B in
      let l = low_corners (mul binary64) ◌⊗◌ (mul-fits binary64) r s R L in
      let h = high_corners (mul binary64) ◌⊗◌ (mul-fits binary64) r s R H in
      record {
        low = product_least v.low v.high w.low w.high l.low_low l.low_high l.high_low l.high_high;
        high = product_greatest v.low v.high w.low w.high h.low_low h.low_high h.high_low h.high_high;
      }

  pub quotient_within : Apart (value s.lower) (value s.upper) → T (finite (before (lowest (div binary64) r s))) → T (finite (after (highest (div binary64) r s)))
      → Within (before (lowest (div binary64) r s)) (after (highest (div binary64) r s)) (p ⊘ q)
  quotient_within Z L H =
      let l = low_corners (div binary64) ◌⊘◌ (div-fits binary64) r s R L in
      let h = high_corners (div binary64) ◌⊘◌ (div-fits binary64) r s R H in
      record {
        low = quotient_least Z v.low v.high w.low w.high l.low_low l.low_high l.high_low l.high_high;
        high = quotient_greatest Z v.low v.high w.low w.high h.low_low h.low_high h.high_low h.high_high;
      }
    where
      wide : value s.lower ≼ value s.upper
      wide = ≼_trans w.low w.high

      C : Apart (value s.lower) (value s.lower)
      C = apart_at Z (≼_refl (value s.lower)) wide

      D : Apart (value s.upper) (value s.upper)
      D = apart_at Z wide (≼_refl (value s.upper))

      R : AtEnds (λ x y. Rounds binary64 (div binary64 x y) (value x ⊘ value y)) r s
      R = record {
        low_low = div_rounds binary64 r.lower s.lower (lower_finite r A) (lower_finite s B) C;
        low_high = div_rounds binary64 r.lower s.upper (lower_finite r A) (upper_finite s B) D;
        high_low = div_rounds binary64 r.upper s.lower (upper_finite r A) (lower_finite s B) C;
        high_high = div_rounds binary64 r.upper s.upper (upper_finite r A) (upper_finite s B) D;
      }
