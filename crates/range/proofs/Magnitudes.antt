-- Magnitudes: those of a range hold that of every double and number in it, and the product of two ranges of magnitudes holds every product and never reaches below 0.
use native.Mathlib.Omega.{arith}
use mathlib.Core.Path.{◌≡◌, refl, sym, subst}
use mathlib.Core.Logic.{◌⊎◌, inl, inr}
use mathlib.Core.Bool.{Bool, true, false, cond}
use lib.Dec.{T}
use lib.IntN.{pos}
use lib.Ieee.{Float, nan, inf, fin, binary64, fits, lt, le, neg, mul}
use lib.Ieee.Fits.{and_i, mul-fits, cond-fits, neg-fits}
use lib.Ieee.Scale.{finite}
use lib.Ieee.Bits.{is_true}
use Rattle.arithmetic.specs.Fraction.{Fraction, ◌≼◌, ◌≺◌, null, opp, ◌⊗◌, Apart}
use Rattle.arithmetic.specs.Value.{value, Within}
use Rattle.arithmetic.specs.Constants.{zero_d}
use Rattle.arithmetic.specs.Doubles.{strict}
use Rattle.arithmetic.proofs.Fraction.{≼_refl, ≼_trans, ≼-≺-trans, ≺-≼-trans, ≺-not-≼, ≺→≼, side, opp_anti, ⊗-mono, ⊗-swap}
use Rattle.arithmetic.proofs.Value.{lt→≺, le→≼}
use Rattle.arithmetic.proofs.Rounding.{value_neg, finite_neg}
use Rattle.arithmetic.proofs.Tests.{not_below}
use Rattle.arithmetic.proofs.Enclosure.{Rounds, real, mul_rounds, under_rounded}
use Rattle.range.specs.declared.basic.Range.{Range}
use Rattle.range.specs.Rules.{range, failed, zero, ok, is_zero, apart, before, after, ends, least, greatest, magnitude, magnitudes, not_below_zero, mul_magnitudes}
use Rattle.range.specs.Enclosed.{Ok}
use Rattle.range.proofs.Corners.{In, OfDoubles, lower_finite, upper_finite, least_fits, greatest_fits, before_fits, after_fits, low_bound, high_bound}
use Rattle.range.proofs.Contained.{Certain, zero_is, zero_number, zero_doubles, zero_ok, zero_in, in_zero, finite_ends, ends_made, rounded_range_certain, rounded_ends_certain}
use Rattle.range.proofs.Operations.{zero_times, is_apart}
use Rattle.range.proofs.Outwards.{before_greatest}

-- ---- products of numbers that are not below 0
pub times_mono : {v v' w w' : Fraction} → null ≼ v → null ≼ w' → v ≼ v' → w ≼ w' → v ⊗ w ≼ v' ⊗ w'
times_mono {v} {v'} {w} {w'} z z' h k = ≼_trans (⊗-mono z k) (≼_trans (⊗-swap v w') (≼_trans (⊗-mono z' h) (⊗-swap w' v')))

times_null : {v w : Fraction} → null ≼ v → null ≼ w → null ≼ v ⊗ w
times_null {v} {w} z z' = ≼_trans (record { cross = omega arith }) (⊗-mono {u = v} {v = null} {y = w} z z')

-- ---- the magnitude of a double
-- what holds in both cases
pub by_test : (P : Float → Type 0) (b : Bool) (x y : Float) → (b ≡ true → P x) → (b ≡ false → P y) → P (cond b x y)
by_test P true x y h k = h refl
by_test P false x y h k = k refl

module _ (x : Float) (p : T (finite x)) where
  pub below_zero : lt x zero_d ≡ true → value x ≺ null
  below_zero e = ≺-≼-trans (lt→≺ x zero_d p zero_number (subst T (sym e) tt)) zero_is.0

  pub from_zero : lt x zero_d ≡ false → null ≼ value x
  from_zero e = ≼_trans zero_is.1 (not_below x zero_d p zero_number e)

  -- it is finite and not below 0; and it is the number, or its opposite where that is not below 0
  record IsMagnitude (m : Float) : Type 0 where
    pub number : T (finite m)
    pub above : null ≼ value m
    pub over : value x ≼ value m
    pub over_opposite : opp (value x) ≼ value m
    pub is : null ≼ value x → value m ≼ value x
    pub is_opposite : value x ≼ null → value m ≼ opp (value x)

  magnitude_is : IsMagnitude (magnitude x)
  unfolding magnitude
  magnitude_is = by_test IsMagnitude (lt x zero_d) (neg x) x opposite own
    where
      opposite : lt x zero_d ≡ true → IsMagnitude (neg x)
      opposite e =
          let l : value x ≺ null = below_zero e in
          record {
            number = finite_neg x p;
            above = rw (value_neg x) (omega (arith, l));
            over = rw (value_neg x) (≼_trans (≺→≼ l) (omega (arith, l)));
            over_opposite = rw (value_neg x) (≼_refl (opp (value x)));
            is = λ h. absurd (≺-not-≼ l h);
            is_opposite = λ h. rw (value_neg x) (≼_refl (opp (value x)));
          }

      own : lt x zero_d ≡ false → IsMagnitude x
      own e =
          let l : null ≼ value x = from_zero e in
          record {
            number = p;
            above = l;
            over = ≼_refl (value x);
            over_opposite = ≼_trans (omega (arith, l)) l;
            is = λ h. ≼_refl (value x);
            is_opposite = λ h. ≼_trans h (omega (arith, h));
          }

magnitude_fits : (x : Float) → T (fits binary64 x) → T (fits binary64 (magnitude x))
unfolding magnitude
magnitude_fits x f = cond-fits binary64 (lt x zero_d) (neg x) x (neg-fits binary64 x f) f

-- ---- the lesser and the greater of two
module _ (P : Float → Type 0) (x y : Float) (h : P x) (k : P y) where
  least_has : P (least x y)
  unfolding least
  least_has = by_test P (lt y x) y x (λ e. k) (λ e. h)

  greatest_has : P (greatest x y)
  unfolding greatest
  greatest_has = by_test P (lt y x) x y (λ e. h) (λ e. k)

module _ (x y : Float) (p : T (finite x)) (q : T (finite y)) where
  least_under : (value (least x y) ≼ value x) × (value (least x y) ≼ value y)
  unfolding least
  least_under = by_test (λ z. (value z ≼ value x) × (value z ≼ value y)) (lt y x) y x
      (λ e. (≺→≼ (lt→≺ y x q p (subst T (sym e) tt)), ≼_refl (value y))) (λ e. (≼_refl (value x), not_below y x q p e))

  pub greatest_over : (value x ≼ value (greatest x y)) × (value y ≼ value (greatest x y))
  unfolding greatest
  greatest_over = by_test (λ z. (value x ≼ value z) × (value y ≼ value z)) (lt y x) x y
      (λ e. (≼_refl (value x), ≺→≼ (lt→≺ y x q p (subst T (sym e) tt)))) (λ e. (not_below y x q p e, ≼_refl (value y)))

-- ---- the magnitudes of a range
-- not below 0
abbrev pub Above : Range → Type 0
Above r = null ≼ value r.lower

module _ (r : Range) (A : Ok r) where
  abbrev l : Float
  l = magnitude r.lower

  abbrev u : Float
  u = magnitude r.upper

  of_lower : IsMagnitude r.lower (lower_finite r A) l
  of_lower = magnitude_is r.lower (lower_finite r A)

  of_upper : IsMagnitude r.upper (upper_finite r A) u
  of_upper = magnitude_is r.upper (upper_finite r A)

  abbrev pub from_to : (r_apart : Bool) → Range
  from_to i = range (cond i (least l u) zero_d) (greatest l u)

  pub from_to_is : magnitudes r ≡ from_to (apart r)
  unfolding magnitudes
  from_to_is = rw (is_true (finite r.lower) (lower_finite r A), is_true (finite r.upper) (upper_finite r A))

  least_is : (value (least l u) ≼ value l) × (value (least l u) ≼ value u)
  least_is = least_under l u of_lower.number of_upper.number

  greatest_is : (value l ≼ value (greatest l u)) × (value u ≼ value (greatest l u))
  greatest_is = greatest_over l u of_lower.number of_upper.number

  pub magnitudes_ok : (i : Bool) → Ok (from_to i)
  magnitudes_ok i = and_i (finite (from_to i).lower) (finite (greatest l u)) (lower_ok i) (greatest_has (λ x. T (finite x)) l u of_lower.number of_upper.number)
    where
      lower_ok : (i : Bool) → T (finite (from_to i).lower)
      lower_ok true = least_has (λ x. T (finite x)) l u of_lower.number of_upper.number
      lower_ok false = zero_number

  pub magnitudes_above : (i : Bool) → Above (from_to i)
  magnitudes_above true = least_has (λ x. null ≼ value x) l u of_lower.above of_upper.above
  magnitudes_above false = zero_is.1

  pub magnitudes_doubles : OfDoubles r → (i : Bool) → OfDoubles (from_to i)
  magnitudes_doubles f i = (lower_fits i, greatest_fits l u (magnitude_fits r.lower f.0) (magnitude_fits r.upper f.1))
    where
      lower_fits : (i : Bool) → T (fits binary64 (from_to i).lower)
      lower_fits true = least_fits l u (magnitude_fits r.lower f.0) (magnitude_fits r.upper f.1)
      lower_fits false = zero_doubles.0

  -- the magnitude of a number of r
  module _ {v : Fraction} (h : In r v) where
    under_greatest : (v ≼ value (greatest l u)) × (opp v ≼ value (greatest l u))
    under_greatest = (
      ≼_trans h.high (≼_trans of_upper.over greatest_is.1),
      ≼_trans (opp_anti h.low) (≼_trans of_lower.over_opposite greatest_is.0),
    )

    over_least : Apart (value r.lower) (value r.upper) → (null ≼ v → value (least l u) ≼ v) × (v ≼ null → value (least l u) ≼ opp v)
    over_least (inl z) = (
      λ n. ≼_trans least_is.0 (≼_trans (of_lower.is (≺→≼ z)) h.low),
      λ n. absurd (≺-not-≼ (≺-≼-trans z h.low) n),
    )
    over_least (inr z) = (
      λ n. absurd (≺-not-≼ (≼-≺-trans h.high z) n),
      λ n. ≼_trans least_is.1 (≼_trans (of_upper.is_opposite (≺→≼ z)) (opp_anti h.high)),
    )

    in_magnitudes : (i : Bool) → (T i → Apart (value r.lower) (value r.upper)) → (null ≼ v → In (from_to i) v) × (v ≼ null → In (from_to i) (opp v))
    in_magnitudes true Z =
        let o = over_least (Z tt) in
        (λ n. record { low = o.0 n; high = under_greatest.0 }, λ n. record { low = o.1 n; high = under_greatest.1 })
    in_magnitudes false Z = (
      λ n. record { low = ≼_trans zero_is.0 n; high = under_greatest.0 },
      λ n. record { low = ≼_trans zero_is.0 (omega (arith, n)); high = under_greatest.1 },
    )

-- ---- a double a and a number p, with their signs dropped, in a range of magnitudes
pub record Dropped (a : Float) (p : Fraction) (m : Range) : Type 0 where
  pub double : Float
  pub exact : Fraction
  pub of_double : (double ≡ a) ⊎ (double ≡ neg a)
  pub of_exact : (exact ≡ p) ⊎ (exact ≡ opp p)
  pub ok : Ok m
  pub above : Above m
  pub certain : Certain double m exact

module _ (a : Float) (r : Range) (p : Fraction) (A : Ok r) (x : Certain a r p) where
  abbrev m : Range
  m = from_to r A (apart r)

  abbrev InMagnitudes : Fraction → Type 0
  InMagnitudes v = (null ≼ v → In m v) × (v ≼ null → In m (opp v))

  held : {v : Fraction} → In r v → InMagnitudes v
  held h = in_magnitudes r A h (apart r) (is_apart r A)

  double_dropped : (null ≼ value a) ⊎ (value a ≼ null) → (d : Float) × ((d ≡ a) ⊎ (d ≡ neg a)) × T (fits binary64 d) × T (finite d) × In m (value d)
  double_dropped (inl n) = (a, inl refl, x.double, x.number, (held x.near).0 n)
  double_dropped (inr n) = (neg a, inr refl, neg-fits binary64 a x.double, finite_neg a x.number, rw (value_neg a) ((held x.near).1 n))

  exact_dropped : (null ≼ p) ⊎ (p ≼ null) → (q : Fraction) × ((q ≡ p) ⊎ (q ≡ opp p)) × In m q
  exact_dropped (inl n) = (p, inl refl, (held x.exact).0 n)
  exact_dropped (inr n) = (opp p, inr refl, (held x.exact).1 n)

  pub dropped : Dropped a p (magnitudes r)
  dropped =
      let d = double_dropped (side (value a)) in
      let q = exact_dropped (side p) in
      subst (Dropped a p) (sym (from_to_is r A)) (record {
        double = d.0;
        exact = q.0;
        of_double = d.1;
        of_exact = q.1;
        ok = magnitudes_ok r A (apart r);
        above = magnitudes_above r A (apart r);
        certain = record { double = d.2; number = d.3; ends = magnitudes_doubles r A x.ends (apart r); near = d.4; exact = q.2 };
      })

-- ---- an end that is kept from being below 0
module _ (x : Float) where
  pub cut_fits : T (fits binary64 x) → T (fits binary64 (not_below_zero x))
  unfolding not_below_zero
  cut_fits f = cond-fits binary64 (lt x zero_d) zero_d x zero_doubles.0 f

  pub cut_finite : T (finite x) → T (finite (not_below_zero x))
  unfolding not_below_zero
  cut_finite p = by_test (λ y. T (finite y)) (lt x zero_d) zero_d x (λ e. zero_number) (λ e. p)

  pub cut_above : T (finite (not_below_zero x)) → null ≼ value (not_below_zero x)
  unfolding not_below_zero
  cut_above = by_test (λ y. T (finite y) → null ≼ value y) (lt x zero_d) zero_d x (λ e p. zero_is.1) (λ e p. from_zero x p e)

  pub cut_over : T (finite x) → value x ≼ value (not_below_zero x)
  unfolding not_below_zero
  cut_over p = by_test (λ y. value x ≼ value y) (lt x zero_d) zero_d x (λ e. ≼_trans (≺→≼ (below_zero x p e)) zero_is.1) (λ e. ≼_refl (value x))

  pub cut_under : {q : Fraction} → null ≼ q → value x ≼ q → value (not_below_zero x) ≼ q
  unfolding not_below_zero
  cut_under {q} z h = by_test (λ y. value y ≼ q) (lt x zero_d) zero_d x (λ e. ≼_trans zero_is.0 z) (λ e. h)

-- before a double that is not below 0 there is one, since some double is below 0
pub has_before : (x : Float) → T (fits binary64 x) → T (finite x) → null ≼ value x → T (finite (before x))
unfolding fits
has_before x f p z = (before_greatest (fin true 1 (pos 0)) x tt f tt p (≺-≼-trans (omega arith) z)).0

moved_finite : (x : Float) → T (finite (not_below_zero (before x))) → T (finite x)
unfolding not_below_zero lt
moved_finite nan h = absurd h
moved_finite (inf s) h = absurd h
moved_finite (fin s m e) h = tt

-- ---- the product of two ranges of magnitudes
abbrev pub product_if : Range → Range → (r_zero : Bool) → Range
product_if r s i = cond i zero (ends (not_below_zero (before (mul binary64 r.lower s.lower))) (after (mul binary64 r.upper s.upper)))

-- it is never below 0, whatever r and s are
pub never_below : (r s : Range) → Ok (mul_magnitudes r s) → Above (mul_magnitudes r s)
unfolding mul_magnitudes
never_below r s = go (ok r) (ok s) (is_zero r)
  where
    l : Float
    l = before (mul binary64 r.lower s.lower)

    u : Float
    u = after (mul binary64 r.upper s.upper)

    made : Ok (ends (not_below_zero l) u) → Above (ends (not_below_zero l) u)
    made O =
        let p = finite_ends (not_below_zero l) u O in
        ≼_trans (cut_above l p.0) (ends_made (not_below_zero l) u (cut_fits l (before_fits _)) (after_fits _) p.0 p.1).lower.1

    go : (i j k : Bool) → Ok (cond i (cond j (cond k zero (ends (not_below_zero l) u)) failed) failed) → Above (cond i (cond j (cond k zero (ends (not_below_zero l) u)) failed) failed)
    go true true true O = zero_is.1
    go true true false O = made O
    go true false k O = absurd O
    go false j k O = absurd O

module _ (r s : Range) (A : Ok r) (B : Ok s) (z : Above r) (w : Above s) where
  abbrev low : Float
  low = mul binary64 r.lower s.lower

  abbrev high : Float
  high = mul binary64 r.upper s.upper

  low_rounds : Rounds binary64 low (value r.lower ⊗ value s.lower)
  low_rounds = mul_rounds binary64 r.lower s.lower (lower_finite r A) (lower_finite s B)

  high_rounds : Rounds binary64 high (value r.upper ⊗ value s.upper)
  high_rounds = mul_rounds binary64 r.upper s.upper (upper_finite r A) (upper_finite s B)

  pub low_over_zero : T (le zero_d low)
  low_over_zero = subst (λ (x : Float). T (le zero_d x)) (sym low_rounds.1) (under_rounded binary64 low_rounds.0 zero_d _ zero_number zero_doubles.0 (≼_trans zero_is.0 (times_null z w)))

  pub low_above : T (finite low) → null ≼ value low
  low_above p = ≼_trans zero_is.1 (le→≼ zero_d low zero_number p low_over_zero)

  product_within : {v v' : Fraction} → In r v → In s v' → T (finite (not_below_zero (before low))) → T (finite (after high)) → Within (not_below_zero (before low)) (after high) (v ⊗ v')
  product_within h k L H =
      let p : T (finite low) = moved_finite low L in
      let b : T (finite (before low)) = has_before low (mul-fits binary64 r.lower s.lower) p (low_above p) in
      let v_above = ≼_trans z h.low in
      let v'_above = ≼_trans w k.low in
      record {
        low = cut_under (before low) (times_null v_above v'_above) (≼_trans (low_bound low (mul-fits binary64 r.lower s.lower) low _ low_rounds (real binary64 low _ low_rounds) b) (times_mono z v'_above h.low k.low));
        high = ≼_trans (times_mono v_above (≼_trans v'_above k.high) h.high k.high) (high_bound high (mul-fits binary64 r.upper s.upper) high _ high_rounds (real binary64 high _ high_rounds) H);
      }

  module _ {a b : Float} {p q : Fraction} (x : Certain a r p) (y : Certain b s q) where
    product_certain : (i : Bool) → (T i → T (is_zero r)) → Ok (product_if r s i) → Certain (strict.mul a b) (product_if r s i) (p ⊗ q)
    product_certain true I O =
        rounded_range_certain (mul binary64 a b) (p ⊗ q) (value a ⊗ value b) (mul_rounds binary64 a b x.number y.number) zero zero_doubles zero_ok
        (in_zero (zero_times q (zero_in r x.ends (I tt) x.exact))) (in_zero (zero_times (value b) (zero_in r x.ends (I tt) x.near)))
    product_certain false I O =
        rounded_ends_certain (mul binary64 a b) (p ⊗ q) (value a ⊗ value b) (mul_rounds binary64 a b x.number y.number)
        (not_below_zero (before low)) (after high) (cut_fits (before low) (before_fits low)) (after_fits high)
        (λ L H. (product_within x.exact y.exact L H, product_within x.near y.near L H)) O

  pub product_is : mul_magnitudes r s ≡ product_if r s (is_zero r)
  unfolding mul_magnitudes
  product_is = rw (is_true (finite r.lower) (lower_finite r A), is_true (finite r.upper) (upper_finite r A), is_true (finite s.lower) (lower_finite s B), is_true (finite s.upper) (upper_finite s B))

  pub mul_magnitudes_certain : {a b : Float} {p q : Fraction} → Certain a r p → Certain b s q → Ok (mul_magnitudes r s) → Certain (strict.mul a b) (mul_magnitudes r s) (p ⊗ q)
  mul_magnitudes_certain {a} {b} {p} {q} x y = subst (λ (t : Range). Ok t → Certain (strict.mul a b) t (p ⊗ q)) (sym product_is) (product_certain x y (is_zero r) (λ i. i))
