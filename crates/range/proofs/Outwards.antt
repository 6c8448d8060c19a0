-- Ends moved outwards. What lies between two doubles lies strictly between the ends moved outwards from them, and a double strictly below another moves up to that one at most. So a
-- product of ranges reaches, on the side of 0 whose sign it has, at least as far as the product of an end of the one and an end of the other, moved outwards.
use mathlib.Core.Path.{◌≡◌, refl, sym, ap, subst, ◌∙◌}
use mathlib.Core.Bool.{Bool, true, false, cond, not}
use native.Mathlib.Omega.{arith}
use lib.Dec.{T}
use lib.Ieee.{Float, nan, inf, fin, binary64, fits, le, eq, unlike, up, down}
use lib.Ieee as Ieee
use lib.Ieee.Bits.{is_true}
use lib.Ieee.Fits.{mul-fits, neg-fits}
use lib.Ieee.Scale.{finite}
use Rattle.arithmetic.specs.Constants.{zero_d}
use Rattle.arithmetic.specs.Fraction.{null, ◌≼◌, ◌≺◌, ◌⊗◌}
use Rattle.arithmetic.specs.Value.{value}
use Rattle.arithmetic.proofs.Fraction.{≼-≺-trans, ≺-≼-trans, ≺-not-≼, ≺→≼, ≼_refl, ≼_trans, opp_anti}
use Rattle.arithmetic.proofs.Value.{le→≼, finite_between}
use Rattle.arithmetic.proofs.Rounding.{value_neg, finite_neg}
use Rattle.arithmetic.proofs.Exact.{mul_mono}
use Rattle.arithmetic.proofs.Next.{next_up_lt, next_down_lt, next_up_least, next_down_greatest}
use Rattle.range.specs.declared.basic.Range.{Range}
use Rattle.range.specs.Rules.{is_zero, plus_zero, before, after, outwards}
use Rattle.range.specs.Rules as Rules
use Rattle.range.specs.Enclosed.{Ok}
use Rattle.range.proofs.Contained.{zero_value, finite_ends, Made, ends_made}
use Rattle.range.proofs.Corners.{OfDoubles, AtEnds, lowest, highest, lower_finite, upper_finite, before_fits, after_fits, product_ends, lowest_under, highest_over, lowest_fits, highest_fits}
use Rattle.range.proofs.Negative.{where_finite, mul_neg, neg_mul, both_neg, neg_neg}
use Rattle.range.proofs.Failures.{mul_kept}

-- ---- the double before x, and the double after it
before_finite : (x : Float) → T (finite (before x)) → T (finite x)
before_finite x = where_finite x _

after_finite : (x : Float) → T (finite (after x)) → T (finite x)
after_finite x = where_finite x _

module _ (x : Float) (f : T (fits binary64 x)) where
  pub before_under : T (finite (before x)) → value (before x) ≺ value x
  before_under h =
      let p = before_finite x h in
      rw (is_true (finite x) p) (next_down_lt binary64 x f p (rw (is_true (finite x) p) at h))

  pub after_over : T (finite (after x)) → value x ≺ value (after x)
  after_over h =
      let p = after_finite x h in
      rw (is_true (finite x) p) (next_up_lt binary64 x f p (rw (is_true (finite x) p) at h))

-- no double lies between
module _ (x y : Float) (f : T (fits binary64 x)) (g : T (fits binary64 y)) (p : T (finite x)) (q : T (finite y)) (h : value x ≺ value y) where
  pub after_least : T (finite (after x)) × (value (after x) ≼ value y)
  after_least = rw (is_true (finite x) p) (next_up_least binary64 x y f g p q h)

  pub before_greatest : T (finite (before y)) × (value x ≼ value (before y))
  before_greatest = rw (is_true (finite y) q) (next_down_greatest binary64 x y f g p q h)

-- ---- strictly between the ends
pub record Amid (t : Range) (x : Float) : Type 0 where
  pub number : T (finite x)
  pub low : value t.lower ≺ value x
  pub high : value x ≺ value t.upper

module _ (l u : Float) (f : T (fits binary64 l)) (g : T (fits binary64 u)) (O : Ok (outwards l u)) where
  moved : T (finite (before l)) × T (finite (after u))
  unfolding outwards
  moved = finite_ends (before l) (after u) O

  outwards_made : Made (before l) (after u) (outwards l u)
  unfolding outwards
  outwards_made = ends_made (before l) (after u) (before_fits l) (after_fits u) moved.0 moved.1

  outwards_amid : (x : Float) → T (le l x) → T (le x u) → Amid (outwards l u) x
  outwards_amid x h k =
      let p = before_finite l moved.0 in
      let q = after_finite u moved.1 in
      let r = finite_between l x u p q h k in
      record {
        number = r;
        low = ≼-≺-trans outwards_made.lower.0 (≺-≼-trans (before_under l f moved.0) (le→≼ l x p r h));
        high = ≼-≺-trans (le→≼ x u r q k) (≺-≼-trans (after_over u g moved.1) outwards_made.upper.1);
      }

-- so it is not [0, 0]
pub amid_nonzero : (t : Range) (x : Float) → OfDoubles t → Amid t x → is_zero t ≡ false
amid_nonzero t x f a = go (eq t.lower zero_d) (eq t.upper zero_d) refl refl
  where
    go : (i j : Bool) → eq t.lower zero_d ≡ i → eq t.upper zero_d ≡ j → is_zero t ≡ false
    go true true e k = absurd (≺-not-≼ (≺-≼-trans a.low (≺→≼ a.high)) (≼_trans (zero_value t.upper f.1 k).0 (zero_value t.lower f.0 e).1))
    go true false e k = rw (e, k) refl
    go false j e k = rw e refl

-- ---- a product
module _ (r s : Range) (O : Ok (Rules.mul r s)) (y : is_zero r ≡ false) (z : is_zero s ≡ false) where
  abbrev lo : Float
  lo = lowest (Ieee.mul binary64) r s

  abbrev hi : Float
  hi = highest (Ieee.mul binary64) r s

  both : Ok r × Ok s
  both = mul_kept r s O

  product_is : Rules.mul r s ≡ outwards lo hi
  unfolding Rules.mul Rules.four
  product_is = rw (
    is_true (finite r.lower) (lower_finite r both.0),
    is_true (finite r.upper) (upper_finite r both.0),
    is_true (finite s.lower) (lower_finite s both.1),
    is_true (finite s.upper) (upper_finite s both.1),
    y,
    z,
  )

  moved_ok : Ok (outwards lo hi)
  moved_ok = subst Ok product_is O

  lo_fits : T (fits binary64 lo)
  lo_fits = lowest_fits (Ieee.mul binary64) ◌⊗◌ (mul-fits binary64) r s (product_ends r s both.0 both.1)

  hi_fits : T (fits binary64 hi)
  hi_fits = highest_fits (Ieee.mul binary64) ◌⊗◌ (mul-fits binary64) r s (product_ends r s both.0 both.1)

  pub product_doubles : OfDoubles (Rules.mul r s)
  product_doubles = rw product_is ((outwards_made lo hi lo_fits hi_fits moved_ok).doubles)

  pub product_amid : AtEnds (λ x y. Amid (Rules.mul r s) (Ieee.mul binary64 x y)) r s
  product_amid =
      let i = lowest_under (Ieee.mul binary64) ◌⊗◌ (mul-fits binary64) r s (product_ends r s both.0 both.1) in
      let j = highest_over (Ieee.mul binary64) ◌⊗◌ (mul-fits binary64) r s (product_ends r s both.0 both.1) in
      record {
        low_low = amid _ i.low_low j.low_low;
        low_high = amid _ i.low_high j.low_high;
        high_low = amid _ i.high_low j.high_low;
        high_high = amid _ i.high_high j.high_high;
      }
    where
      amid : (x : Float) → T (le lo x) → T (le x hi) → Amid (Rules.mul r s) x
      amid x h k = subst (λ (t : Range). Amid t x) (sym product_is) (outwards_amid lo hi lo_fits hi_fits moved_ok x h k)

-- ---- the two sides of 0. On the side below it a number is measured with its sign turned.
abbrev pub turned : Bool → Float → Float
turned s x = cond s (Ieee.neg x) x

abbrev pub side : Bool → Range → Float
side s r = cond s r.lower r.upper

-- how far r reaches on a side
abbrev pub extent : Bool → Range → Float
extent s r = turned s (side s r)

pub turned_finite : (s : Bool) (x : Float) → T (finite x) → T (finite (turned s x))
turned_finite true x p = finite_neg x p
turned_finite false x p = p

pub turned_fits : (s : Bool) (x : Float) → T (fits binary64 x) → T (fits binary64 (turned s x))
turned_fits true x f = neg-fits binary64 x f
turned_fits false x f = f

pub turned_twice : (s : Bool) (x : Float) → Ieee.neg (turned s x) ≡ turned (not s) x
turned_twice true x = neg_neg x
turned_twice false x = refl

pub side_finite : (s : Bool) (r : Range) → Ok r → T (finite (side s r))
side_finite true r A = lower_finite r A
side_finite false r A = upper_finite r A

pub side_fits : (s : Bool) (r : Range) → OfDoubles r → T (fits binary64 (side s r))
side_fits true r f = f.0
side_fits false r f = f.1

-- an end is within its range
pub side_within : (s b : Bool) (r : Range) → value r.lower ≼ value r.upper → value (turned s (side b r)) ≼ value (extent s r)
side_within true true r h = ≼_refl _
side_within true false r h = rw (value_neg r.lower, value_neg r.upper) (opp_anti h)
side_within false true r h = h
side_within false false r h = ≼_refl _

at_sides : (P : Float → Float → Type 0) (r s : Range) → AtEnds P r s → (a b : Bool) → P (side a r) (side b s)
at_sides P r s h true true = h.low_low
at_sides P r s h true false = h.low_high
at_sides P r s h false true = h.high_low
at_sides P r s h false false = h.high_high

amid_extent : (t : Range) (x : Float) → Amid t x → (s : Bool) → value (turned s x) ≺ value (extent s t)
amid_extent t x a true = rw (value_neg x, value_neg t.lower) (omega (arith, a.low))
amid_extent t x a false = a.high

mul_turned : (s t : Bool) (x y : Float) → Ieee.mul binary64 (turned s x) (turned t y) ≡ turned (unlike s t) (Ieee.mul binary64 x y)
mul_turned true true x y = both_neg x y
mul_turned true false x y = neg_mul x y
mul_turned false true x y = mul_neg x y
mul_turned false false x y = refl

-- r reaches to u on the side s, and m is an end of w, turned from the side t: then the product of r and w reaches beyond u × m, on the side of the two signs
module _ (r w : Range) (O : Ok (Rules.mul r w)) (y : is_zero r ≡ false) (z : is_zero w ≡ false) (s t b : Bool) (u m : Float) (e : m ≡ turned t (side b w)) where
  corner : Float
  corner = turned (unlike s t) (Ieee.mul binary64 (side s r) (side b w))

  module _ (p : T (finite u)) (h : value u ≼ value (extent s r)) (l : null ≼ value m) where
    under_corner : T (le (Ieee.mul binary64 u m) corner)
    unfolding corner
    under_corner =
        let i = side_finite s r (mul_kept r w O).0 in
        let j = side_finite b w (mul_kept r w O).1 in
        let k : T (le (Ieee.mul binary64 u m) (Ieee.mul binary64 (extent s r) m)) = mul_mono u (extent s r) m p (turned_finite s (side s r) i) (rw e (turned_finite t (side b w) j)) l h in
        subst (λ (c : Float). T (le (Ieee.mul binary64 u m) c)) (ap (Ieee.mul binary64 (extent s r)) e ∙ mul_turned s t (side s r) (side b w)) k

    -- a number below u × m is asked for, since the product could be infinite below 0
    pub reached : (c : Float) → T (finite c) → T (le c (Ieee.mul binary64 u m))
        → T (finite (Ieee.mul binary64 u m)) × (value (Ieee.mul binary64 u m) ≺ value (extent (unlike s t) (Rules.mul r w)))
    unfolding corner
    reached c q g =
        let a = at_sides (λ x y. Amid (Rules.mul r w) (Ieee.mul binary64 x y)) r w (product_amid r w O y z) s b in
        let i = turned_finite (unlike s t) _ a.number in
        let j = finite_between c (Ieee.mul binary64 u m) corner q i g under_corner in
        (j, ≼-≺-trans (le→≼ (Ieee.mul binary64 u m) corner j i under_corner) (amid_extent (Rules.mul r w) _ a (unlike s t)))
