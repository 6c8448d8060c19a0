-- A power of [1, 1] is one range, for every exponent between -1000 and 1000 that does not start at 0: ln [1, 1] is six of the smallest doubles either side of 0, so the exponent
-- times it is tiny, and each sum of exp absorbs what is tiny.
use mathlib.Core.Path.{◌≡◌, refl, ap, ap₂, ◌∙◌}
use mathlib.Core.List.{List, [], ◌∷◌}
use mathlib.Core.Bool.{Bool, true, false, not, cond, ◌&&◌}
use native.Mathlib.Omega.{arith}
use lib.Dec.{T, not_T}
use lib.IntN.{ℤ, pos}
use lib.Ieee.{Float, binary64, of_bits, to_bits, fits, lt, le, eq, neg, add, mul, div, round, sum, of_int, in_float}
use lib.Ieee.Bits.{is_true, is_false, of_bits-fits}
use lib.Ieee.Fits.{and_i, and_l, and_r, add-fits, mul-fits}
use lib.Ieee.Scale.{finite}
use Rattle.arithmetic.specs.Basic.{below, above, floor}
use Rattle.arithmetic.specs.Cases.{exponent_of, floor_of}
use Rattle.arithmetic.specs.Recipes as R
use Rattle.arithmetic.specs.Constants.{bits, zero_d, half, one, two, E, H, G, seven_hundred, minus_seven_hundred, factorial_reciprocals}
use Rattle.arithmetic.specs.Fraction.{◌≼◌, ◌≺◌, ◌⊗◌}
use Rattle.arithmetic.specs.Value.{value}
use Rattle.arithmetic.specs.Next.{next_up, next_down}
use Rattle.arithmetic.proofs.Fraction.{≼_refl, ≼_trans, ≺-≼-trans, ≼-≺-trans, ≺-not-≼, ≺→≼, ≺?-no, was_no}
use Rattle.arithmetic.proofs.Value.{le→≼, lt→≺, le_trans, finite_between}
use Rattle.arithmetic.proofs.Exact.{one_of_value, add_mono}
use Rattle.arithmetic.proofs.Enclosure.{Among, among_finite, among_within, mul_rounds, among_rounds}
use Rattle.arithmetic.proofs.Next.{next_up_fits, next_down_fits, next_up_lt, next_down_lt, next_up_least, next_down_greatest}
use Rattle.range.specs.declared.basic.Range.{Range}
use Rattle.range_elementary.specs.Moderate.{thousand, minus_thousand, moderate}
use Rattle.range.specs.Rules.{range, ok, is_zero, plus_zero, before, after, least, greatest, ends, outwards, point, rules, ranges}
use Rattle.range.specs.Rules as Rules
use Rattle.range.specs.Enclosed.{Ok}
use Rattle.range.proofs.Corners.{In, OfDoubles, lowest, highest, lower_finite, upper_finite, before_fits, after_fits, product_ends, product_within, corners_in_order}
use Rattle.range.proofs.Positive.{above_nonzero, positive_value}
use Rattle.range.proofs.Contained.{zero_in, zero_number, plus_zero_fits, plus_zero_value}
use Rattle.range.proofs.PowersOfTwo.{equal→≈}

-- ---- several tests at once
abbrev all : List Bool → Bool
all [] = true
all (a ∷ []) = a
all (a ∷ b ∷ bs) = a && all (b ∷ bs)

abbrev All : List Bool → Type 0
All [] = T true
All (a ∷ []) = T a
All (a ∷ b ∷ bs) = T a × All (b ∷ bs)

passed : (bs : List Bool) → T (all bs) → All bs
passed [] t = t
passed (a ∷ []) t = t
passed (a ∷ b ∷ bs) t = (and_l a (all (b ∷ bs)) t, passed (b ∷ bs) (and_r a (all (b ∷ bs)) t))

-- one of two
either : (P : Float → Type 0) (b : Bool) (x y : Float) → P x → P y → P (cond b x y)
either P true x y h k = h
either P false x y h k = k

-- ---- a range other than [0, 0], with its ends in order, inside another
record Inside (D r : Range) : Type 0 where
  has : Ok r
  low : value D.lower ≼ value r.lower
  order : value r.lower ≼ value r.upper
  high : value r.upper ≼ value D.upper
  some : is_zero r ≡ false

-- a double inside a range
abbrev InsideOf : Range → Float → Type 0
InsideOf D x = T (finite x) × In D (value x)

lower_in : {D r : Range} → Inside D r → InsideOf D r.lower
lower_in {D} {r} h = (lower_finite r h.has, record { low = h.low; high = ≼_trans h.order h.high })

upper_in : {D r : Range} → Inside D r → InsideOf D r.upper
upper_in {D} {r} h = (upper_finite r h.has, record { low = ≼_trans h.low h.order; high = h.high })

inside : (D r : Range) → Ok D → T (le D.lower r.lower) → T (le r.lower r.upper) → T (le r.upper D.upper) → is_zero r ≡ false → Inside D r
inside D r K l o h z =
    let L = finite_between D.lower r.lower D.upper (lower_finite D K) (upper_finite D K) l (le_trans r.lower r.upper D.upper o h) in
    let U = finite_between D.lower r.upper D.upper (lower_finite D K) (upper_finite D K) (le_trans D.lower r.lower r.upper l o) h in
    record {
      has = and_i (finite r.lower) (finite r.upper) L U;
      low = le→≼ D.lower r.lower (lower_finite D K) L l;
      order = le→≼ r.lower r.upper L U o;
      high = le→≼ r.upper D.upper U (upper_finite D K) h;
      some = z;
    }

-- as a test, worked out for given ranges
abbrev insides : Range → Range → List Bool
insides D r = ok D ∷ le D.lower r.lower ∷ le r.lower r.upper ∷ le r.upper D.upper ∷ not (is_zero r) ∷ []

is_inside : (D r : Range) → T (all (insides D r)) → Inside D r
is_inside D r t = let (K, (l, (o, (h, z)))) = passed (insides D r) t in inside D r K l o h (is_false (is_zero r) z)

-- ends that are apart are not both 0
apart_some : (r : Range) → OfDoubles r → value r.lower ≺ value r.upper → is_zero r ≡ false
apart_some r f h =
    is_false (is_zero r) (not_T (is_zero r) (λ z. ≺-not-≼ h
    (≼_trans (zero_in r f z (record { low = ≺→≼ h; high = ≼_refl (value r.upper) })).0 (zero_in r f z (record { low = ≼_refl (value r.lower); high = ≺→≼ h })).1)))

ends_inside : (D : Range) (l u : Float) → T (fits binary64 l) → T (fits binary64 u) → T (finite l) → T (finite u) → value D.lower ≼ value l → value l ≺ value u → value u ≼ value D.upper → Inside D (ends l u)
unfolding ends
ends_inside D l u fl fu L U h o k =
    let (l_under, l_over) = plus_zero_value l fl in
    let (u_under, u_over) = plus_zero_value u fu in
    let o' = ≼-≺-trans l_under (≺-≼-trans o u_over) in
    rw (is_true (finite l) L, is_true (finite u) U)
    (record {
      has = and_i (finite (plus_zero l)) (finite (plus_zero u)) (number l L) (number u U);
      low = ≼_trans h l_over;
      order = ≺→≼ o';
      high = ≼_trans u_under k;
      some = apart_some (range (plus_zero l) (plus_zero u)) (plus_zero_fits l fl, plus_zero_fits u fu) o';
    })
  where
    number : (x : Float) → T (finite x) → T (finite (plus_zero x))
    number x X = either (λ (y : Float). T (finite y)) (eq x zero_d) zero_d x zero_number X

-- ---- a product of what is inside A and what is inside B is inside D: D is larger than their product
abbrev products : Range → Range → Range
products A B = range (before (lowest (mul binary64) A B)) (after (highest (mul binary64) A B))

abbrev bounds : Range → Range → Range → List Bool
bounds A B D =
    let C = products A B in
    ok A ∷ ok B ∷ ok C ∷ ok D ∷ fits binary64 D.lower ∷ fits binary64 D.upper ∷ lt D.lower C.lower ∷ lt C.upper D.upper ∷ []

module _ (A B D : Range) (t : T (all (bounds A B D))) where
  abbrev C : Range
  C = products A B

  abbrev K : All (bounds A B D)
  K = passed (bounds A B D) t

  abbrev Between : Float → Type 0
  Between x = T (fits binary64 x) × Among C.lower C.upper x

  -- the ends move outwards
  outwards_inside : (l u : Float) → Between l → Between u → T (le l u) → Inside D (outwards l u)
  unfolding outwards
  outwards_inside l u (fl, h) (fu, k) o =
      let (a, (b, (c, (d, (f, (g, (v, w))))))) = K in
      let cl = lower_finite C c in
      let cu = upper_finite C c in
      let L = among_finite cl cu h in
      let U = among_finite cl cu k in
      let (dn, down) = next_down_greatest binary64 D.lower l f fl (lower_finite D d) L (≺-≼-trans (lt→≺ D.lower C.lower (lower_finite D d) cl v) (among_within cl cu h).low) in
      let (un, up) = next_up_least binary64 u D.upper fu g U (upper_finite D d) (≼-≺-trans (among_within cl cu k).high (lt→≺ C.upper D.upper cu (upper_finite D d) w)) in
      rw (is_true (finite l) L, is_true (finite u) U)
      (ends_inside D (next_down binary64 l) (next_up binary64 u) (next_down_fits binary64 l) (next_up_fits binary64 u) dn un down
      (≺-≼-trans (next_down_lt binary64 l fl L dn) (≼_trans (le→≼ l u L U o) (≺→≼ (next_up_lt binary64 u fu U un)))) up)

  product_between : (x y : Float) → InsideOf A x → InsideOf B y → Between (mul binary64 x y)
  product_between x y (X, v) (Y, w) =
      let (a, (b, (c, d))) = K in
      let L = lower_finite C c in
      let U = upper_finite C c in
      (mul-fits binary64 x y, among_rounds binary64 (mul binary64 x y) (value x ⊗ value y) (mul_rounds binary64 x y X Y) L U (before_fits (lowest (mul binary64) A B)) (after_fits (highest (mul binary64) A B)) (product_within A B a b v w L U))

  least_has : {x y : Float} → Between x → Between y → Between (least x y)
  unfolding least
  least_has {x} {y} h k = either Between (lt y x) y x k h

  greatest_has : {x y : Float} → Between x → Between y → Between (greatest x y)
  unfolding greatest
  greatest_has {x} {y} h k = either Between (lt y x) x y h k

  product_inside : {r s : Range} → Inside A r → Inside B s → Inside D (Rules.mul r s)
  unfolding Rules.mul Rules.four
  product_inside {r} {s} h k =
      let ll = product_between r.lower s.lower (lower_in h) (lower_in k) in
      let lu = product_between r.lower s.upper (lower_in h) (upper_in k) in
      let ul = product_between r.upper s.lower (upper_in h) (lower_in k) in
      let uu = product_between r.upper s.upper (upper_in h) (upper_in k) in
      rw (is_true (ok r) h.has, is_true (ok s) k.has, h.some, k.some)
      (outwards_inside (lowest (mul binary64) r s) (highest (mul binary64) r s) (least_has (least_has ll lu) (least_has ul uu)) (greatest_has (greatest_has ll lu) (greatest_has ul uu))
      (corners_in_order (mul binary64) ◌⊗◌ (mul-fits binary64) r s (product_ends r s h.has k.has)))

-- ---- a sum of what is inside D with c above 0, which neither end of D changes: c stays c, and moves outwards
abbrev absorbs : Range → Float → List Bool
absorbs D c = ok D ∷ fits binary64 c ∷ finite c ∷ lt zero_d c ∷ le c (add binary64 D.lower c) ∷ le (add binary64 D.upper c) c ∷ []

sum_is : (r s : Range) → ok r ≡ true → ok s ≡ true → is_zero r ≡ false → is_zero s ≡ false → Rules.add r s ≡ outwards (add binary64 r.lower s.lower) (add binary64 r.upper s.upper)
unfolding Rules.add
sum_is r s h k z w = rw (h, k, z, w)

module _ (D : Range) (c : Float) (t : T (all (absorbs D c))) where
  abbrev S : All (absorbs D c)
  S = passed (absorbs D c) t

  absorbed : (x : Float) → InsideOf D x → add binary64 x c ≡ c
  absorbed x (X, w) =
      let (d, (f, (p, (o, (l, h))))) = S in
      let y = add binary64 x c in
      let a : T (le c y) = le_trans c (add binary64 D.lower c) y l (add_mono D.lower x c (lower_finite D d) X p w.low) in
      let b : T (le y c) = le_trans y (add binary64 D.upper c) c (add_mono x D.upper c X (upper_finite D d) p w.high) h in
      let q : T (finite y) = finite_between c y c p p a b in
      one_of_value y c (add-fits binary64 x c) f q p (positive_value c p o) (le→≼ c y p q a) (le→≼ y c q p b)

  some_c : eq c zero_d ≡ false
  some_c = let (d, (f, (p, (o, e)))) = S in above_nonzero c f (positive_value c p o)

  point_is : point c ≡ range c c
  unfolding point ends
  point_is = rw (is_true (fits binary64 c) S.1.0, is_true (finite c) S.1.1.0, some_c)

  sum_absorbed : {r : Range} → Inside D r → Rules.add r (point c) ≡ outwards c c
  sum_absorbed {r} h =
      let F = is_true (finite c) S.1.1.0 in
      ap (Rules.add r) point_is
      ∙ sum_is r (range c c) (is_true (ok r) h.has) (ap₂ ◌&&◌ F F) h.some (ap₂ ◌&&◌ some_c some_c)
      ∙ ap₂ outwards (absorbed r.lower (lower_in h)) (absorbed r.upper (upper_in h))

-- ---- Horner's rule in v, tiny, over such coefficients from 0 to 2
abbrev twos : Range
twos = range zero_d two

abbrev tiny : Range
tiny = range (bits 0x8000000000004000) (bits 0x4000)

abbrev small : Range
small = range (bits 0x8000000000020000) (bits 0x20000)

-- what it gives
abbrev worked : Float → List Float → Range
worked c [] = point c
worked c (d ∷ cs) = outwards c c

abbrev coefficients : Float → List Float → Bool
coefficients b [] = true
coefficients b (c ∷ cs) = all (absorbs small b) && (all (insides twos (worked c cs)) && coefficients c cs)

series_bounds : T (all (bounds twos tiny small))
unfolding next_up next_down to_bits of_bits round mul lt eq le fits least greatest
series_bounds = tt

horner_is : (v : Range) → Inside tiny v → (b : Float) (cs : List Float) → T (coefficients b cs) → R.horner rules v b cs ≡ worked b cs
horner_is v I b [] t = refl
horner_is v I b (c ∷ cs) t =
    let (s, (i, r)) = passed (all (absorbs small b) ∷ all (insides twos (worked c cs)) ∷ coefficients c cs ∷ []) t in
    rw (horner_is v I c cs r) (sum_absorbed small b s (product_inside twos tiny small series_bounds (is_inside twos (worked c cs) i) I))

-- ---- the tests
abbrev thousands : Range
thousands = range minus_thousand thousand

abbrev ln_one : Range
ln_one = range (bits 0x8000000000000006) (bits 6)

power_bounds : T (all (bounds thousands ln_one tiny))
unfolding next_up next_down to_bits of_bits round neg mul lt eq le fits least greatest
power_bounds = tt

place_bounds : T (all (bounds tiny twos small))
unfolding next_up next_down to_bits of_bits round mul lt eq le fits least greatest
place_bounds = tt

coefficients_are : T (coefficients one factorial_reciprocals)
unfolding point ends outwards next_up next_down to_bits of_bits round sum fits add lt eq le
coefficients_are = tt

half_absorbs : T (all (absorbs small half))
unfolding of_bits round sum fits add lt eq le
half_absorbs = tt

E_inside : T (all (insides twos (point E)))
unfolding point ends of_bits fits lt eq le
E_inside = tt

ln_one_is : ranges.ln (range one one) ≡ ln_one
unfolding Rules.point Rules.add Rules.neg Rules.mul Rules.div Rules.whole Rules.scale Rules.step R.ln R.ln_of R.series exponent_of next_up next_down to_bits of_bits round of_int in_float fits neg add mul div lt eq le
ln_one_is = refl

ln_one_inside : T (all (insides ln_one ln_one))
unfolding of_bits lt eq le
ln_one_inside = tt

-- what exp works from the tiny range: k is 0
zero_products : (Rules.neg (Rules.mul (Rules.whole (pos 0)) (point H)) ≡ Rules.zero) × (Rules.neg (Rules.mul (Rules.whole (pos 0)) (point G)) ≡ Rules.zero)
unfolding Rules.point Rules.neg Rules.mul Rules.whole of_bits round of_int in_float fits neg mul lt eq le
zero_products = (refl, refl)

floor_half : (f : ℤ → Range) → Rules.step floor (outwards half half) f ≡ f (pos 0)
unfolding Rules.step outwards ends floor_of next_up next_down to_bits of_bits eq
floor_half f = refl

abbrev pub around_one : Range
around_one = range (bits 0x3FEFFFFFFFFFFFFF) (bits 0x3FF0000000000001)

scale_one : Rules.scale (outwards one one) (pos 0) ≡ around_one
unfolding Rules.scale outwards ends next_up next_down to_bits of_bits round mul div eq
scale_one = refl

limits : (value minus_seven_hundred ≼ value tiny.lower) × (value tiny.upper ≼ value seven_hundred)
unfolding of_bits neg
limits = (was_no _ _ refl, was_no _ _ refl)

-- ---- exp of the tiny range
module _ (v : Range) (I : Inside tiny v) where
  not_under : (x y : Range) → Rules.test (below minus_seven_hundred) v x y ≡ y
  unfolding Rules.test
  not_under x y = rw (is_true (ok v) I.has, ≺?-no (≼_trans limits.0 (lower_in I).1.low), ≺?-no (≼_trans limits.0 (upper_in I).1.low))

  not_over : (x y : Range) → Rules.test (above seven_hundred) v x y ≡ y
  unfolding Rules.test
  not_over x y = rw (is_true (ok v) I.has, ≺?-no (≼_trans (lower_in I).1.high limits.1), ≺?-no (≼_trans (upper_in I).1.high limits.1))

  place_is : Rules.add (Rules.mul v (point E)) (point half) ≡ outwards half half
  place_is = sum_absorbed small half half_absorbs (product_inside tiny twos small place_bounds I (is_inside twos (point E) E_inside))

  plus_zero_is : Rules.add v Rules.zero ≡ v
  unfolding Rules.add of_bits eq
  plus_zero_is = rw (is_true (ok v) I.has, I.some)

  exp_of_zero : R.exp_of rules v (pos 0) ≡ around_one
  unfolding R.exp_of
  exp_of_zero = rw (zero_products.0, zero_products.1, plus_zero_is, plus_zero_is, horner_is v I one factorial_reciprocals coefficients_are) scale_one

  exp_tiny : ranges.exp v ≡ around_one
  unfolding R.exp
  exp_tiny = not_under _ _ ∙ not_over _ _ ∙ rw (place_is, floor_half) exp_of_zero

-- ---- the power
above_zero_case : (x y : Range) → Rules.test (above zero_d) (range one one) x y ≡ x
unfolding Rules.test of_bits
above_zero_case x y = refl

pub power_of_one : (b : Range) → T (le minus_thousand b.lower) → T (le b.lower b.upper) → T (le b.upper thousand) → eq b.lower zero_d ≡ false → ranges.powf (range one one) b ≡ around_one
unfolding R.powf
power_of_one b l o h z =
    let I = inside thousands b (passed (bounds thousands ln_one tiny) power_bounds).0 l o h (ap (λ (i : Bool). i && eq b.upper zero_d) z) in
    above_zero_case _ _ ∙ rw ln_one_is (exp_tiny (Rules.mul b ln_one) (product_inside thousands ln_one tiny power_bounds I (is_inside ln_one ln_one ln_one_inside)))

-- a double that equals 1 is 1
is_one : (x : Float) → T (fits binary64 x) → eq x one ≡ true → x ≡ one
unfolding of_bits
is_one x f e = let (p, (h, k)) = equal→≈ x one tt e in one_of_value x one f (of_bits-fits binary64 0x3FF0000000000000) p tt (omega arith) k h

-- by the tests that the code makes
pub tested_power : (v b : Range) → T (fits binary64 v.lower) → T (fits binary64 v.upper) → T (eq v.lower one && eq v.upper one) → T (moderate b) → ranges.powf v b ≡ around_one
tested_power v b f g s t =
    let (l, (o, (h, z))) = passed (le minus_thousand b.lower ∷ le b.lower b.upper ∷ le b.upper thousand ∷ not (eq b.lower zero_d) ∷ []) t in
    let x = is_one v.lower f (is_true (eq v.lower one) (and_l (eq v.lower one) (eq v.upper one) s)) in
    let y = is_one v.upper g (is_true (eq v.upper one) (and_r (eq v.lower one) (eq v.upper one) s)) in
    ap (λ (r : Range). ranges.powf r b) (ap₂ range x y) ∙ power_of_one b l o h (is_false (eq b.lower zero_d) z)
