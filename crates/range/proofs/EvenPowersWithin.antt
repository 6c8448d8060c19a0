-- A square and a fourth power by the rule of their own: the lower end is never below 0, and where the product from the left has ends the rule has ends too, within the product's.
--
-- The rule multiplies magnitudes of ends of r, and moves each product outwards. The product from the left does so with each end of r, and takes the outermost. So with each factor it
-- reaches at least as far as the rule's upper end, on the side of 0 that the factors' signs give, and where r does not hold 0, it comes at least as near to 0 as the rule's lower end.
-- With an even number of factors that side is above 0.
use mathlib.Core.Path.{◌≡◌, refl, sym, ap, ap₂, subst, ◌∙◌}
use mathlib.Core.Bool.{Bool, true, false, cond, not, ◌||◌, true≢false}
use mathlib.Core.Logic.{inl, inr}
use mathlib.Core.Option.{some}
use Prim.Native.Nat.{ℕ}
use native.Mathlib.Omega.{arith}
use lib.Dec.{T, eqb, eqb→eq}
use lib.IntN.{pos}
use lib.Ieee.{Float, fin, binary64, fits, le, lt, eq, unlike}
use lib.Ieee as Ieee
use lib.Ieee.Bits.{is_true}
use lib.Ieee.Fits.{and_l, and_r, mul-fits, neg-fits}
use lib.Ieee.Scale.{finite}
use Rattle.arithmetic.specs.Constants.{zero_d}
use Rattle.arithmetic.specs.Fraction.{Fraction, null, ◌≼◌, ◌≺◌}
use Rattle.arithmetic.specs.Value.{value}
use Rattle.arithmetic.specs.Arithmetic.{power_by, product_power}
use Rattle.arithmetic.proofs.Fraction.{≼_refl, ≼_trans, ≼-or-≻, ≺→≼, ≼-≺-trans, ≺-≼-trans}
use Rattle.arithmetic.proofs.Value.{le→≼, ≼→le, le_trans, neg_le, finite_between}
use Rattle.arithmetic.proofs.Rounding.{value_neg, finite_neg}
use Rattle.arithmetic.proofs.Tests.{not_below}
use Rattle.arithmetic.proofs.Zero.{is_zero_is}
use Rattle.range.specs.declared.basic.Range.{Range}
use Rattle.range.specs.Rules.{range, failed, zero, ok, is_zero, apart, before, after, least, greatest, rules, magnitude, magnitudes, not_below_zero, mul_magnitudes, even_power}
use Rattle.range.specs.Rules as Rules
use Rattle.range.specs.Enclosed.{Ok, Inside}
use Rattle.range.proofs.Contained.{Contained, zero_is, zero_number, zero_doubles, zero_ok, Made, ends_made}
use Rattle.range.proofs.Magnitudes.{by_test, below_zero, from_zero, cut_fits, cut_finite, cut_above, cut_over, cut_under, has_before, greatest_over, from_to_is, magnitudes_ok, magnitudes_doubles, magnitudes_above, low_over_zero, low_above, product_is, never_below}
use Rattle.range.proofs.Corners.{In, OfDoubles, lower_finite, upper_finite, before_fits, after_fits}
use Rattle.range.proofs.Positive.{grows, above_nonzero}
use Rattle.range.proofs.Negative.{and_false, neg_mul}
use Rattle.range.proofs.Operations.{mul_contained}
use Rattle.range.proofs.Failures.{mul_kept}
use Rattle.range.proofs.Outwards.{before_under, after_over, after_least, before_greatest, amid_nonzero, product_doubles, product_amid, turned, side, extent, turned_finite, turned_fits, turned_twice, side_finite, side_fits, side_within, reached}

-- ---- the magnitude of a double other than 0
module _ (x : Float) (p : T (finite x)) where
  -- the comparisons leave no third case
  above_zero : lt x zero_d ≡ false → eq x zero_d ≡ false → null ≺ value x
  unfolding le
  above_zero d e = elim (≼-or-≻ (value x) null) [ inl h ↦ absurd (rw (d, e) at (≼→le x zero_d p zero_number (≼_trans h zero_is.1))) | inr h ↦ h ]

  magnitude_above : eq x zero_d ≡ false → null ≺ value (magnitude x)
  unfolding magnitude
  magnitude_above n = by_test (λ y. null ≺ value y) (lt x zero_d) (Ieee.neg x) x (λ e. let h = below_zero x p e in rw (value_neg x) (omega (arith, h))) (λ e. above_zero e n)

-- ---- a product of two ranges of magnitudes
record Magnitudes (n : Range) : Type 0 where
  has_ends : Ok n
  doubles : OfDoubles n
  low : null ≼ value n.lower
  in_order : value n.lower ≼ value n.upper
  high : null ≺ value n.upper

nonzero : (n : Range) → Magnitudes n → is_zero n ≡ false
nonzero n h = rw (above_nonzero n.upper h.doubles.1 h.high) (and_false (eq n.lower zero_d))

module _ (n s : Range) (N : Magnitudes n) (S : Magnitudes s) where
  abbrev low : Float
  low = Ieee.mul binary64 n.lower s.lower

  abbrev high : Float
  high = Ieee.mul binary64 n.upper s.upper

  from_zero_on : T (le zero_d low)
  from_zero_on = low_over_zero n s N.has_ends S.has_ends N.low S.low

  low_under_high : T (le low high)
  low_under_high =
      grows n.lower n.upper s.lower s.upper (lower_finite n N.has_ends) (upper_finite n N.has_ends) (lower_finite s S.has_ends) (upper_finite s S.has_ends)
      N.low (≺→≼ S.high) N.in_order S.in_order

  high_over_zero : T (le zero_d high)
  high_over_zero = le_trans zero_d low high from_zero_on low_under_high

  module _ (p : T (finite high)) (a : T (finite (after high))) where
    low_finite : T (finite low)
    low_finite = finite_between zero_d low high zero_number p from_zero_on low_under_high

    above : null ≼ value low
    above = low_above n s N.has_ends S.has_ends N.low S.low low_finite

    before_low : T (finite (before low))
    before_low = has_before low (mul-fits binary64 n.lower s.lower) low_finite above

    up_from_low : value low ≺ value (after high)
    up_from_low = ≼-≺-trans (le→≼ low high low_finite p low_under_high) (after_over high (mul-fits binary64 n.upper s.upper) a)

    product_made : Made (not_below_zero (before low)) (after high) (mul_magnitudes n s)
    product_made = rw (product_is n s N.has_ends S.has_ends N.low S.low, nonzero n N)
        (ends_made (not_below_zero (before low)) (after high) (cut_fits (before low) (before_fits low)) (after_fits high) (cut_finite (before low) before_low) a)

    product_magnitudes : Magnitudes (mul_magnitudes n s)
    product_magnitudes =
        let m = product_made in
        let b = ≺→≼ (before_under low (mul-fits binary64 n.lower s.lower) before_low) in
        record {
          has_ends = m.has_ends;
          doubles = m.doubles;
          low = ≼_trans (cut_above (before low) (cut_finite (before low) before_low)) m.lower.1;
          in_order = ≼_trans m.lower.0 (≼_trans (cut_under (before low) (≼_trans above (≺→≼ up_from_low)) (≼_trans b (≺→≼ up_from_low))) m.upper.1);
          high = ≺-≼-trans (≼-≺-trans above up_from_low) m.upper.1;
        }

-- ---- the signs of products of one factor
one_factor : (s : Bool) → unlike s s ≡ false
one_factor true = refl
one_factor false = refl

one_turned : (s : Bool) → unlike (not s) s ≡ true
one_turned true = refl
one_turned false = refl

two_more : (s t : Bool) → unlike (unlike s t) t ≡ s
two_more true true = refl
two_more true false = refl
two_more false true = refl
two_more false false = refl

-- ---- r is a range other than [0, 0]
module _ (r : Range) (f : OfDoubles r) (A : Ok r) (W : value r.lower ≼ value r.upper) (Z : is_zero r ≡ false) where
  abbrev size : Bool → Float
  size b = magnitude (side b r)

  abbrev sign_at : Bool → Bool
  sign_at b = lt (side b r) zero_d

  abbrev M : Range
  M = magnitudes r

  size_is : (b : Bool) → size b ≡ turned (sign_at b) (side b r)
  unfolding magnitude
  size_is b = refl

  size_finite : (b : Bool) → T (finite (size b))
  size_finite b = rw (size_is b) (turned_finite (sign_at b) (side b r) (side_finite b r A))

  size_fits : (b : Bool) → T (fits binary64 (size b))
  size_fits b = rw (size_is b) (turned_fits (sign_at b) (side b r) (side_fits b r f))

  abbrev least_size : Float
  least_size = least (size true) (size false)

  abbrev greatest_size : Float
  greatest_size = greatest (size true) (size false)

  -- the end nearer to 0, where r does not hold 0, and the end further from it
  nearer : (b : Bool) × (least_size ≡ size b)
  unfolding least
  nearer = by_test (λ y. (b : Bool) × (y ≡ size b)) (lt (size false) (size true)) (size false) (size true) (λ e. (false, refl)) (λ e. (true, refl))

  further : (b : Bool) × (greatest_size ≡ size b)
  unfolding greatest
  further = by_test (λ y. (b : Bool) × (y ≡ size b)) (lt (size false) (size true)) (size true) (size false) (λ e. (true, refl)) (λ e. (false, refl))

  magnitudes_are : M ≡ range (cond (apart r) least_size zero_d) greatest_size
  magnitudes_are = from_to_is r A

  abbrev near_sign : Bool
  near_sign = sign_at nearer.0

  abbrev far_sign : Bool
  far_sign = sign_at further.0

  lower_is : T (apart r) → M.lower ≡ turned near_sign (side nearer.0 r)
  lower_is t = ap (λ (n : Range). n.lower) magnitudes_are ∙ rw (is_true (apart r) t) nearer.1 ∙ size_is nearer.0

  upper_is : M.upper ≡ turned far_sign (side further.0 r)
  upper_is = ap (λ (n : Range). n.upper) magnitudes_are ∙ further.1 ∙ size_is further.0

  to_greatest : (b : Bool) → value (size b) ≼ value greatest_size
  to_greatest true = (greatest_over (size true) (size false) (size_finite true) (size_finite false)).0
  to_greatest false = (greatest_over (size true) (size false) (size_finite true) (size_finite false)).1

  greatest_above : null ≺ value greatest_size
  greatest_above = go (eq r.lower zero_d) (eq r.upper zero_d) refl refl
    where
      go : (i j : Bool) → eq r.lower zero_d ≡ i → eq r.upper zero_d ≡ j → null ≺ value greatest_size
      go false j d e = ≺-≼-trans (magnitude_above r.lower (lower_finite r A) d) (to_greatest true)
      go true false d e = ≺-≼-trans (magnitude_above r.upper (upper_finite r A) e) (to_greatest false)
      go true true d e = absurd (true≢false (rw (d, e) at Z))

  r_magnitudes : Magnitudes M
  r_magnitudes = rw magnitudes_are (record {
    has_ends = magnitudes_ok r A (apart r);
    doubles = magnitudes_doubles r A f (apart r);
    low = magnitudes_above r A (apart r);
    in_order = by_test (λ x. value x ≼ value greatest_size) (apart r) least_size zero_d (λ e. rw nearer.1 (to_greatest nearer.0)) (λ e. ≼_trans zero_is.0 (≺→≼ greatest_above));
    high = greatest_above;
  })

  -- R is a product of factors r, and n of as many factors M. On the side s of 0 R reaches to n's upper end. Where r does not hold 0, R comes as near to 0 as n's lower end, which is
  -- measured from the other side, t.
  record Tracked (s t : Bool) (R n : Range) : Type 0 where
    has_ends : Ok R
    not_zero : is_zero R ≡ false
    magnitudes : Magnitudes n
    up : value n.upper ≼ value (extent s R)
    down : T (apart r) → value (Ieee.neg n.lower) ≼ value (extent t R)

  start : Tracked far_sign (not near_sign) r M
  start = record {
    has_ends = A;
    not_zero = Z;
    magnitudes = r_magnitudes;
    up = rw upper_is (side_within far_sign further.0 r W);
    down = λ t. rw (lower_is t, turned_twice near_sign (side nearer.0 r)) (side_within (not near_sign) nearer.0 r W);
  }

  module _ (s t : Bool) (R n : Range) (h : Tracked s t R n) (O : Ok (Rules.mul R r)) where
    abbrev E : Float
    E = extent (unlike s far_sign) (Rules.mul R r)

    abbrev F : Float
    F = extent (unlike t near_sign) (Rules.mul R r)

    extent_fits : (v : Bool) → T (fits binary64 (extent v (Rules.mul R r)))
    extent_fits v = turned_fits v _ (side_fits v (Rules.mul R r) (product_doubles R r O h.not_zero Z))

    extent_finite : (v : Bool) → T (finite (extent v (Rules.mul R r)))
    extent_finite v = turned_finite v _ (side_finite v (Rules.mul R r) O)

    abbrev l : Float
    l = low n M h.magnitudes r_magnitudes

    abbrev u : Float
    u = high n M h.magnitudes r_magnitudes

    lower_number : T (finite n.lower)
    lower_number = lower_finite n h.magnitudes.has_ends

    u_reached : T (finite u) × (value u ≺ value E)
    u_reached =
        reached R r O h.not_zero Z s far_sign further.0 n.upper M.upper upper_is (upper_finite n h.magnitudes.has_ends) h.up (≺→≼ r_magnitudes.high)
        zero_d zero_number (high_over_zero n M h.magnitudes r_magnitudes)

    u_moved : T (finite (after u)) × (value (after u) ≼ value E)
    u_moved = after_least u E (mul-fits binary64 n.upper M.upper) (extent_fits _) u_reached.0 (extent_finite _) u_reached.1

    made : Made (not_below_zero (before l)) (after u) (mul_magnitudes n M)
    made = product_made n M h.magnitudes r_magnitudes u_reached.0 u_moved.0

    -- the lower ends' product is reached from below 0, with one factor's sign turned
    l_turned : Ieee.mul binary64 (Ieee.neg n.lower) M.lower ≡ Ieee.neg l
    l_turned = neg_mul n.lower M.lower

    l_reached : T (apart r) → value (Ieee.neg l) ≺ value F
    l_reached a =
        let i : T (le (Ieee.neg u) (Ieee.mul binary64 (Ieee.neg n.lower) M.lower)) = rw l_turned (neg_le l u (low_under_high n M h.magnitudes r_magnitudes)) in
        rw l_turned at
        (reached R r O h.not_zero Z t near_sign nearer.0 (Ieee.neg n.lower) M.lower (lower_is a) (finite_neg n.lower lower_number) (h.down a) r_magnitudes.low
        (Ieee.neg u) (finite_neg u u_reached.0) i).1

    l_moved : T (apart r) → value (Ieee.neg (mul_magnitudes n M).lower) ≼ value F
    l_moved a =
        let p = low_finite n M h.magnitudes r_magnitudes u_reached.0 u_moved.0 in
        let x : value (Ieee.neg F) ≺ value l = rw (value_neg F) (omega (arith, rw (value_neg l) at (l_reached a))) in
        let b = before_greatest (Ieee.neg F) l (neg-fits binary64 F (extent_fits _)) (mul-fits binary64 n.lower M.lower) (finite_neg F (extent_finite _)) p x in
        let y = ≼_trans b.1 (≼_trans (cut_over (before l) b.0) made.lower.1) in
        rw (value_neg (mul_magnitudes n M).lower) (omega (arith, rw (value_neg F) at y))

    step : Tracked (unlike s far_sign) (unlike t near_sign) (Rules.mul R r) (mul_magnitudes n M)
    step = record {
      has_ends = O;
      not_zero = amid_nonzero (Rules.mul R r) _ (product_doubles R r O h.not_zero Z) (product_amid R r O h.not_zero Z).low_low;
      magnitudes = product_magnitudes n M h.magnitudes r_magnitudes u_reached.0 u_moved.0;
      up = ≼_trans made.upper.0 u_moved.1;
      down = l_moved;
    }

  square : Ok (Rules.mul r r) → Tracked false true (Rules.mul r r) (mul_magnitudes M M)
  square O = rw (one_factor far_sign, one_turned near_sign) at (step _ _ r M start O)

  fourth : Ok (Rules.mul (Rules.mul r r) r) → Ok (Rules.mul (Rules.mul (Rules.mul r r) r) r)
      → Tracked false true (Rules.mul (Rules.mul (Rules.mul r r) r) r) (mul_magnitudes (mul_magnitudes (mul_magnitudes M M) M) M)
  fourth O P =
      let h = step false true _ _ (square (mul_kept (Rules.mul r r) r O).0) O in
      rw (two_more false far_sign, two_more true near_sign) at (step _ _ _ _ h P)

  -- where r holds 0, a product of factors r holds 0 too
  holds_zero : apart r ≡ false → Contained zero_d r (some null)
  holds_zero n = record {
    where_ok = λ O. record { double = zero_doubles.0; number = zero_number; ends = f; near = near zero_is.0 zero_is.1; exact = near (≼_refl null) (≼_refl null) };
  }
    where
      tests : (i j : Bool) → lt zero_d r.lower ≡ i → lt r.upper zero_d ≡ j → (lt zero_d r.lower ≡ false) × (lt r.upper zero_d ≡ false)
      tests true j d e = absurd (true≢false (rw d at n))
      tests false true d e = absurd (true≢false (rw (d, e) at n))
      tests false false d e = (d, e)

      near : {q : Fraction} → q ≼ null → null ≼ q → In r q
      near h k =
          let t = tests (lt zero_d r.lower) (lt r.upper zero_d) refl refl in
          record {
            low = ≼_trans (not_below zero_d r.lower zero_number (lower_finite r A) t.0) (≼_trans zero_is.0 k);
            high = ≼_trans h (from_zero r.upper (upper_finite r A) t.1);
          }

  tracked_within : (R n : Range) → Tracked false true R n → (apart r ≡ false → value R.lower ≼ null) → Inside R n
  tracked_within R n h z = record { has_ends = h.magnitudes.has_ends; lower = go (apart r) refl; upper = h.up }
    where
      go : (b : Bool) → apart r ≡ b → value R.lower ≼ value n.lower
      go true e = let k = rw (value_neg n.lower, value_neg R.lower) at (h.down (subst T (sym e) tt)) in omega (arith, k)
      go false e = ≼_trans (z e) h.magnitudes.low

  square_within : Ok (product_power rules r 2) → Inside (product_power rules r 2) (Rules.powi r 2)
  unfolding Rules.powi even_power power_by
  square_within O = tracked_within _ _ (square O) (λ z. let h = holds_zero z in ≼_trans ((mul_contained h h).where_ok O).exact.low (omega arith))

  fourth_within : Ok (product_power rules r 4) → Inside (product_power rules r 4) (Rules.powi r 4)
  unfolding Rules.powi even_power power_by
  fourth_within O =
      tracked_within _ _ (fourth (mul_kept (Rules.mul (Rules.mul r r) r) r O).0 O)
      (λ z. let h = holds_zero z in ≼_trans ((mul_contained (mul_contained (mul_contained h h) h) h).where_ok O).exact.low (omega arith))

-- ---- both rules give [0, 0] for [0, 0], whatever the signs of its zeros
abbrev Zero : Range → ℕ → Type 0
Zero r n = (product_power rules r n ≡ zero) × (Rules.powi r n ≡ zero)

of_zeros : (s t : Bool) → Zero (range (fin s 0 (pos 0)) (fin t 0 (pos 0))) 2 × Zero (range (fin s 0 (pos 0)) (fin t 0 (pos 0))) 4
unfolding Rules.powi even_power power_by Rules.mul mul_magnitudes magnitudes magnitude least greatest lt eq Ieee.neg Ieee.of_bits
of_zeros true true = ((refl, refl), (refl, refl))
of_zeros true false = ((refl, refl), (refl, refl))
of_zeros false true = ((refl, refl), (refl, refl))
of_zeros false false = ((refl, refl), (refl, refl))

of_zero : (r : Range) → OfDoubles r → is_zero r ≡ true → Zero r 2 × Zero r 4
of_zero r f e =
    let t = subst T (sym e) tt in
    let x = is_zero_is r.lower f.0 (is_true _ (and_l (eq r.lower zero_d) (eq r.upper zero_d) t)) in
    let y = is_zero_is r.upper f.1 (is_true _ (and_r (eq r.lower zero_d) (eq r.upper zero_d) t)) in
    subst (λ (q : Range). Zero q 2 × Zero q 4) (sym (ap₂ range x.1 y.1)) (of_zeros x.0 y.0)

-- ---- the two exponents
two_or_four : (P : ℕ → Type 0) → P 2 → P 4 → (n : ℕ) → T (eqb n 2 || eqb n 4) → P n
two_or_four P a b n = go (eqb n 2) (eqb n 4) (eqb→eq n 2) (eqb→eq n 4)
  where
    go : (i j : Bool) → (T i → n ≡ 2) → (T j → n ≡ 4) → T (i || j) → P n
    go true j d e t = rw (d tt) a
    go false true d e t = rw (e tt) b
    go false false d e t = absurd t

-- Where the product has ends, the power has, within them.
pub within_products : (r : Range) (n : ℕ) → OfDoubles r → value r.lower ≼ value r.upper → T (eqb n 2 || eqb n 4)
    → Ok (product_power rules r n) → Inside (product_power rules r n) (Rules.powi r n)
unfolding power_by
within_products r n f W h = go (is_zero r) refl
  where
    Law : ℕ → Type 0
    Law n = Ok (product_power rules r n) → Inside (product_power rules r n) (Rules.powi r n)

    go : (z : Bool) → is_zero r ≡ z → Law n
    go true e =
        let z = two_or_four (Zero r) (of_zero r f e).0 (of_zero r f e).1 n h in
        λ O. rw (z.0, z.1) (record { has_ends = zero_ok; lower = ≼_refl _; upper = ≼_refl _ })
    go false e = two_or_four Law
        (λ O. square_within r f (mul_kept r r O).0 W e O)
        (λ O. fourth_within r f (mul_kept r r (mul_kept (Rules.mul r r) r (mul_kept (Rules.mul (Rules.mul r r) r) r O).0).0).0 W e O) n h

-- ---- never below 0, whatever r is
pub never_below_zero : (r : Range) (n : ℕ) → T (eqb n 2 || eqb n 4) → Ok (Rules.powi r n) → null ≼ value (Rules.powi r n).lower
unfolding Rules.powi even_power power_by
never_below_zero r = two_or_four (λ n. Ok (Rules.powi r n) → null ≼ value (Rules.powi r n).lower) (never_below _ (magnitudes r)) (never_below _ (magnitudes r))
