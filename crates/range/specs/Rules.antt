-- Document 01's "Rules for ranges", as a meaning of the operations. A rule that fails gives the failed range, whose ends are NaN; so does every rule of a failed range.
use Rattle.std.specs.Prelude.{ℕ, Bool, true, false, cond, ◌&&◌, ◌||◌, ℤ, pos, negsuc, eqb, Float}
use Rattle.std.proofs.Math.Option.{Option, none, some}
use Rattle.std.specs.Float.{nan, fin, binary64}
use Rattle.std.specs.Float.Ieee.{fits, lt, eq, of_int, in_float}
use Rattle.std.specs.Float.Ieee as Ieee
use Rattle.std.specs.Float.Ieee.Scale.{finite}
use Rattle.arithmetic.specs.Value.{value}
use Rattle.arithmetic.specs.Next.{next_up, next_down}
use Rattle.arithmetic.specs.Root as Root
use Rattle.arithmetic.specs.Constants.{zero_d, one}
use Rattle.arithmetic.specs.Basic.{Basic, Limit, Step, passes, pick}
use Rattle.arithmetic.specs.Arithmetic.{Arithmetic, over, power_by, product_power}
use Rattle.arithmetic.specs.Doubles.{where_finite, scaled}
use Rattle.range.specs.declared.basic.Range.{Range}

abbrev pub range : Float → Float → Range
range l u = record { lower = l; upper = u }

abbrev pub failed : Range
failed = range nan nan

-- [0, 0]
abbrev pub zero : Range
zero = range zero_d zero_d

-- ---- what a range is
-- it has ends: both are finite
abbrev pub ok : Range → Bool
ok r = finite r.lower && finite r.upper

abbrev pub is_zero : Range → Bool
is_zero r = eq r.lower zero_d && eq r.upper zero_d

-- it does not hold 0
abbrev pub apart : Range → Bool
apart r = lt zero_d r.lower || lt r.upper zero_d

-- ---- ends
-- An end that is zero is +0.
abbrev pub plus_zero : Float → Float
plus_zero x = cond (eq x zero_d) zero_d x

-- A rule fails when an end is not finite.
unfoldable pub ends : Float → Float → Range
ends l u = cond (finite l && finite u) (range (plus_zero l) (plus_zero u)) failed

abbrev pub before : Float → Float
before x = where_finite x (next_down binary64 x)

abbrev pub after : Float → Float
after x = where_finite x (next_up binary64 x)

-- Each end moves to the next double outwards.
unfoldable pub outwards : Float → Float → Range
unfolding ends
outwards l u = ends (before l) (after u)

unfoldable pub least : Float → Float → Float
least x y = cond (lt y x) y x

unfoldable pub greatest : Float → Float → Float
greatest x y = cond (lt y x) x y

-- The least and the greatest of four: an operation at each end of r with each end of s.
unfoldable pub four : (Float → Float → Float) → Range → Range → Range
unfolding outwards least greatest
four op r s =
    let a = op r.lower s.lower in
    let b = op r.lower s.upper in
    let c = op r.upper s.lower in
    let d = op r.upper s.upper in
    outwards (least (least a b) (least c d)) (greatest (greatest a b) (greatest c d))

-- ---- the rules
abbrev given : Range → Range → Range
given r x = cond (ok r) x failed

abbrev given₂ : Range → Range → Range → Range
given₂ r s x = cond (ok r) (given s x) failed

-- Inputs and constants are points. Every double of a program is a binary64.
unfoldable pub point : Float → Range
unfolding ends
point x = cond (fits binary64 x) (ends x x) failed

unfoldable pub neg : Range → Range
unfolding ends
neg r = ends (Ieee.neg r.upper) (Ieee.neg r.lower)

unfoldable pub add : Range → Range → Range
unfolding outwards
add r s = given₂ r s (cond (is_zero r) s (cond (is_zero s) r (outwards (Ieee.add binary64 r.lower s.lower) (Ieee.add binary64 r.upper s.upper))))

unfoldable pub mul : Range → Range → Range
unfolding four
mul r s = given₂ r s (cond (is_zero r) zero (cond (is_zero s) zero (four (Ieee.mul binary64) r s)))

unfoldable pub div : Range → Range → Range
unfolding four
div r s = given₂ r s (cond (apart s) (cond (is_zero r) zero (four (Ieee.div binary64) r s)) failed)

unfoldable pub sqrt : Range → Range
unfolding outwards
sqrt r = given r (cond (is_zero r) zero (cond (lt r.lower zero_d) failed (outwards (Root.sqrt r.lower) (Root.sqrt r.upper))))

-- A whole number, e or k, is a point.
unfoldable pub whole : ℤ → Range
unfolding point
whole k = cond (in_float binary64 k) (point (of_int binary64 k)) failed

-- Scaling by 2^k is exact. An end that lost bits, so that a division by 2^k does not give it back, would move outwards.
unfoldable pub kept : Float → ℤ → Bool
kept x k = eq (Ieee.div binary64 (scaled x k) (fin false 1 k)) x

unfoldable pub scale : Range → ℤ → Range
unfolding ends kept
scale r k = given r (ends (cond (kept r.lower k) (scaled r.lower k) (before (scaled r.lower k))) (cond (kept r.upper k) (scaled r.upper k) (after (scaled r.upper k))))

-- One case for the whole range: both ends must have it.
abbrev pub agreed : Bool → Bool → Range → Range → Range
agreed true true x y = x
agreed true false x y = failed
agreed false true x y = failed
agreed false false x y = y

unfoldable pub test : Limit → Range → Range → Range → Range
test l r x y = given r (agreed (passes l (value r.lower)) (passes l (value r.upper)) x y)

abbrev pub equal : ℤ → ℤ → Bool
equal (pos a) (pos b) = eqb a b
equal (pos a) (negsuc b) = false
equal (negsuc a) (pos b) = false
equal (negsuc a) (negsuc b) = eqb a b

abbrev pub one_step : Option ℤ → Option ℤ → (ℤ → Range) → Range
one_step none j f = failed
one_step (some k) none f = failed
one_step (some k) (some j) f = cond (equal k j) (f k) failed

unfoldable pub step : Step → Range → (ℤ → Range) → Range
step s r f = given r (one_step (pick s (value r.lower)) (pick s (value r.upper)) f)

abbrev pub rules : Basic
rules = record {
  Value = Range;
  constant = point;
  add = add;
  neg = neg;
  sub = λ r s. add r (neg s);
  mul = mul;
  div = div;
  whole = whole;
  scale = scale;
  none = failed;
  test = test;
  step = step;
}

-- ---- squares and fourth powers
-- with its sign dropped
unfoldable pub magnitude : Float → Float
magnitude x = cond (lt x zero_d) (Ieee.neg x) x

-- The range of the magnitudes: from the lesser of the two ends' to the greater, and from 0 where 0 is held.
unfoldable pub magnitudes : Range → Range
unfolding magnitude least greatest
magnitudes r =
    let m = magnitude r.lower in
    let n = magnitude r.upper in
    given r (range (cond (apart r) (least m n) zero_d) (greatest m n))

unfoldable pub not_below_zero : Float → Float
not_below_zero x = cond (lt x zero_d) zero_d x

-- The product of magnitudes: the lower end from the lower ends and never below 0, the upper from the upper ones.
unfoldable pub mul_magnitudes : Range → Range → Range
unfolding ends not_below_zero
mul_magnitudes r s = given₂ r s (cond (is_zero r) zero (ends (not_below_zero (before (Ieee.mul binary64 r.lower s.lower))) (after (Ieee.mul binary64 r.upper s.upper))))

unfoldable pub even_power : Range → ℕ → Range
even_power r n = power_by (point one) mul_magnitudes (magnitudes r) n

-- These two powers have a rule of their own; any other is a product.
unfoldable pub powi : Range → ℕ → Range
powi r n = cond (eqb n 2 || eqb n 4) (even_power r n) (product_power rules r n)

abbrev pub ranges : Arithmetic Range
ranges = over rules powi sqrt
