-- The s of ln and of ln_1p stays within 0.2, or the double nearest to it: m lies from 0.75 to 1.5, and five times |m − 1| is at most m + 1, rounded as they are.
use Prim.Native.Nat.{ℕ, ◌+◌, ◌*◌, ◌<◌, ◌≤◌}
use native.Mathlib.Nat.{lt_of_mul-lt-mul_right, mul-le-mul_right, mul-lt-mul_of_pos_right}
use native.Mathlib.Omega.{arith}
use mathlib.Core.Path.{◌≡◌, refl, sym, ap, subst}
use mathlib.Core.Logic.{inl, inr}
use mathlib.Core.Bool.{false}
use mathlib.Core.Option.{some}
use lib.IntN.{ℤ, pos, negsuc, neg_ℤ, suc_ℤ}
use lib.Dec.{T, ltb, lt→ltb}
use lib.Ieee.{Float, fin, binary64, of_bits, fits, neg, add, sub, div, round, up, down, to_bits}
use lib.Ieee.Bits.{is_true}
use lib.Ieee.Fits.{down_pos, mul-fits}
use lib.Ieee.Scale.{finite}
use Rattle.arithmetic.specs.Fraction.{Fraction, ◌≼◌, ◌≺◌, null, one, whole, two_to, ◌⊕◌, opp, ◌⊖◌, ◌⊗◌, recip, ◌⊘◌, Close}
use Rattle.arithmetic.specs.Value.{value, Within}
use Rattle.arithmetic.specs.Next.{next_up}
use Rattle.arithmetic.specs.Cases.{binade, exponent_of}
use Rattle.arithmetic.specs.Constants as Constants
use Rattle.arithmetic.specs.Constants.{bits, quarter, minus_quarter}
use Rattle.arithmetic.specs.Recipes.{series, ln_argument, ln1p_argument, ln_of, ln, ln1p}
use Rattle.arithmetic.specs.Doubles.{strict, plain, scaled}
use Rattle.arithmetic.specs.Series.{Bounded, fifth, ln_limit}
use Rattle.arithmetic.specs.Reduction.{ln1p_range, ln_reduced, LnReduces, Ln1pReduces}
use Rattle.arithmetic.proofs.Fraction.{≼_refl, ≼_trans, ≺-≼-trans, ≼-or-≻, ≺?-no, was_no, was_yes, ◌≈◌, ≈-refl, ≈-sym, ≈-trans, ⊕-mono, ⊕-cancel, ⊕-assoc, ⊗-mono, ⊗-assoc, ⊗-comm, ⊗-distrib, recip_is}
use Rattle.arithmetic.proofs.Rounding.{value_neg}
use Rattle.arithmetic.proofs.Next.{next_up_least}
use Rattle.arithmetic.proofs.Exact.{one_of_value, up_neg, down_neg}
use Rattle.arithmetic.proofs.Cases.{In, double, exponent_in, exponent_some}
use Rattle.arithmetic.proofs.Enclosure.{among_rounds, among_finite, among_within, sub_rounds, mul_rounds, div_rounds}
use Rattle.arithmetic.proofs.Agreement.{agreed_basic, agreeing, in_code, checked_is}
use Rattle.arithmetic.proofs.Distance.{same_close, close_add, close_opp, bound_of, at_most_bound, opposite_at_most_bound, test_close}
use Rattle.arithmetic.proofs.Approximation.{Approximation, itself, loosened, test_approximation, operation, sum}
use Rattle.arithmetic.proofs.Series.{two, two_is, ln_near_series_in_code}

-- ---- a quotient of two doubles whose size is at most 1/5
abbrev one_fifth : Fraction
one_fifth = whole (pos 1) ⊘ whole (pos 5)

fifth_is : T (finite fifth) × T (finite (neg fifth)) × T (fits binary64 fifth) × T (fits binary64 (neg fifth)) × (one_fifth ≼ value fifth) × (value (neg fifth) ≼ opp one_fifth)
unfolding of_bits neg fits
fifth_is = (tt, tt, tt, tt, was_no (value fifth) one_fifth refl, was_no (opp one_fifth) (value (neg fifth)) refl)

positive_recip : (b : Fraction) → null ≺ b → null ≼ recip b
positive_recip b z = record { cross = rw (is_true (ltb b.minus b.plus) (lt→ltb b.minus b.plus (omega (arith, z)))) (omega arith) }

fifth_of : (q : Fraction) → whole (pos 5) ⊗ q ≼ one → q ≼ one_fifth
fifth_of q h = record { cross = omega (arith, h) }

-- 5a ≤ b
quotient_below : (a b : Fraction) → null ≺ b → whole (pos 5) ⊗ a ≼ b → a ⊘ b ≼ one_fifth
quotient_below a b z h =
    let r = recip b in
    let c : whole (pos 5) ⊗ (a ⊗ r) ≈ r ⊗ (whole (pos 5) ⊗ a) = ≈-trans (≈-sym (⊗-assoc (whole (pos 5)) a r)) (⊗-comm (whole (pos 5) ⊗ a) r) in
    fifth_of (a ⊗ r) (≼_trans c.0 (≼_trans (⊗-mono (positive_recip b z) h) (≼_trans (⊗-comm r b).0 (recip_is b (inl z)).0)))

opposite_factor : (x y : Fraction) → opp (x ⊗ y) ≼ opp x ⊗ y
opposite_factor x y = record { cross = omega arith }

opposite_order : (x y : Fraction) → opp x ≼ y → opp y ≼ x
opposite_order x y h = record { cross = omega (arith, h) }

module _ (a b : Float) (A : T (finite a)) (B : T (finite b)) (z : null ≺ value b) (h : whole (pos 5) ⊗ value a ≼ value b) (l : whole (pos 5) ⊗ opp (value a) ≼ value b) where
  exact_within : Within (neg fifth) fifth (value a ⊘ value b)
  exact_within = record {
    low = ≼_trans fifth_is.5 (opposite_order (value a ⊘ value b) one_fifth (≼_trans (opposite_factor (value a) (recip (value b))) (quotient_below (opp (value a)) (value b) z l)));
    high = ≼_trans (quotient_below (value a) (value b) z h) fifth_is.4;
  }

  quotient_bounded : Bounded ln_limit (strict.div a b)
  quotient_bounded =
      let s = div binary64 a b in
      let m = among_rounds binary64 s (value a ⊘ value b) (div_rounds binary64 a b A B (inl z)) fifth_is.1 fifth_is.0 fifth_is.3 fifth_is.2 exact_within in
      let w = among_within fifth_is.1 fifth_is.0 m in
      let F = among_finite fifth_is.1 fifth_is.0 m in
      subst (Bounded ln_limit) (sym (checked_is s F)) record { number = F; bound = bound_of (subst (λ (q : Fraction). q ≼ value s) (value_neg fifth) w.low) w.high }

-- a and b stand for X and Y with errors e and e', and g is at least 5e + e'
module _ {e c e' c' : Fraction} {a b : Float} {X Y : Fraction} (ha : Approximation e c a X) (hb : Approximation e' c' b Y) (g : Fraction) (G : whole (pos 5) ⊗ e ⊕ e' ≼ g) where
  five_times : (x y : Fraction) → x ≼ y ⊕ e → whole (pos 5) ⊗ y ⊕ g ≼ Y → whole (pos 5) ⊗ x ≼ value b
  five_times x y l h =
      let u = whole (pos 5) ⊗ y in
      let w = whole (pos 5) ⊗ e in
      ⊕-cancel e'
      (≼_trans (⊕-mono (≼_trans (⊗-mono (was_no (whole (pos 5)) null refl) l) (⊗-distrib (whole (pos 5)) y e).0) (≼_refl e'))
      (≼_trans (⊕-assoc u w e').0 (≼_trans (⊕-mono (≼_refl u) G) (≼_trans h hb.close.high))))

  near_quotient : one ⊕ e' ≼ Y → whole (pos 5) ⊗ X ⊕ g ≼ Y → whole (pos 5) ⊗ opp X ⊕ g ≼ Y → Bounded ln_limit (strict.div a b)
  near_quotient z h l =
      quotient_bounded a b ha.number hb.number (≺-≼-trans (was_yes null one refl) (⊕-cancel e' (≼_trans z hb.close.high)))
      (five_times (value a) X ha.close.low h) (five_times (opp (value a)) (opp X) (close_opp ha.close).low l)

-- ---- m = v × 2^−e lies from 0.75 to 1.5, both doubles
abbrev three_quarters : Float
three_quarters = bits 0x3FE8000000000000

abbrev three_halves : Float
three_halves = bits 0x3FF8000000000000

mantissa_limits : T (finite three_quarters) × T (finite three_halves) × T (fits binary64 three_quarters) × T (fits binary64 three_halves)
unfolding of_bits fits
mantissa_limits = (tt, tt, tt, tt)

record Mantissa (m : Float) : Type 0 where
  number : T (finite m)
  is_double : T (fits binary64 m)
  within : Within three_quarters three_halves (value m)

module _ (v : Float) (p : T (finite v)) (e : ℤ) (i : In binade e (value v)) where
  abbrev exact_mantissa : Fraction
  exact_mantissa = value v ⊗ value (fin false 1 (neg_ℤ e))

  exact_low : value three_quarters ≼ exact_mantissa
  unfolding of_bits
  exact_low = record { cross = rw (up_neg e, down_neg e) (omega (arith, i.low)) }

  exact_high : exact_mantissa ≼ value three_halves
  unfolding of_bits
  exact_high = record {
    cross = rw (up_neg e, down_neg e) (go (value v).plus (value v).minus (value v).den (up e) (down e) (up (suc_ℤ e)) (down (suc_ℤ e)) (down_pos e) (double e) (omega (arith, i.high)));
  }
    where
      go : (p n d u w u' w' : ℕ) → 0 < w → u' * w ≡ 2 * u * w' → p * (4 * w') < 3 * u' * d + n * (4 * w') → (p * (1 * w) + n * 0) * 2 + 0 * (d * u) ≤ 3 * (d * u) + (p * 0 + n * (1 * w)) * 2
      go p n d u w u' w' W e h =
          let l : p * w * 2 * (2 * w') < (3 * (d * u) + n * w * 2) * (2 * w') = omega (arith, ap (λ (z : ℕ). z * d) e, mul-lt-mul_of_pos_right h W) in
          omega (arith, lt_of_mul-lt-mul_right (2 * w') l)

  mantissa : Mantissa (scaled v (neg_ℤ e))
  mantissa =
      let (A, B, a, b) = mantissa_limits in
      let m = among_rounds binary64 (scaled v (neg_ℤ e)) exact_mantissa (mul_rounds binary64 v (fin false 1 (neg_ℤ e)) p tt) A B a b record { low = exact_low; high = exact_high } in
      record { number = among_finite A B m; is_double = mul-fits binary64 v (fin false 1 (neg_ℤ e)); within = among_within A B m }

-- ---- s = (m − 1) / (m + 1)
one_is : Approximation null one (strict.constant Constants.one) one
unfolding of_bits
one_is = test_approximation null one (strict.constant Constants.one) one tt

-- at 1.5 it is the limit
at_three_halves : Bounded ln_limit (ln_argument strict three_halves)
unfolding of_bits sub add div round neg
at_three_halves = record { number = tt; bound = test_close ln_limit ln_limit null tt }

-- and the double before 1.5
abbrev before_three_halves : Float
before_three_halves = bits 0x3FF7FFFFFFFFFFFF

before_is : T (finite before_three_halves) × T (fits binary64 before_three_halves) × (next_up binary64 before_three_halves ≡ three_halves) × (null ≺ value three_halves)
unfolding next_up of_bits to_bits fits
before_is = (tt, tt, refl, was_yes null (value three_halves) refl)

module _ (m : Float) (h : Mantissa m) where
  -- m − 1 is at most 1/2 in size, so it is rounded by 2^−54 at most
  less_one : Approximation (two_to (negsuc 53)) (whole (pos 1) ⊘ whole (pos 2)) (strict.sub m (strict.constant Constants.one)) (value m ⊖ one)
  unfolding of_bits
  less_one =
      let b : Close (whole (pos 1) ⊘ whole (pos 2)) (value m ⊖ one) null = record { low = record { cross = omega (arith, h.within.high) }; high = record { cross = omega (arith, h.within.low) } } in
      let c = close_add (same_close (≼_refl null) (≈-refl (value m))) (close_opp one_is.close) in
      loosened _ _ (operation 1021 tt _ (sub_rounds binary64 m (strict.constant Constants.one) h.number one_is.number) c b refl) refl refl

  more_one : Approximation (two_to (negsuc 51)) (whole (pos 5) ⊘ whole (pos 2)) (strict.add m (strict.constant Constants.one)) (value m ⊕ one)
  unfolding of_bits
  more_one =
      let b : Bounded (value three_halves) m = record { number = h.number; bound = bound_of (≼_trans (was_no (value three_quarters) (opp (value three_halves)) refl) h.within.low) h.within.high } in
      loosened _ _ (sum 1023 tt (itself b) one_is refl) refl refl

  -- up to the double before 1.5 there is room for the errors
  below_bounded : value m ≼ value before_three_halves → Bounded ln_limit (ln_argument strict m)
  unfolding of_bits
  below_bounded b =
      let d = (value m).den in
      near_quotient less_one more_one (two_to (negsuc 49)) (was_no (two_to (negsuc 49)) _ refl) (record { cross = omega (arith, h.within.low) })
      (record { cross = omega (arith, mul-le-mul_right d b.cross) }) (record { cross = omega (arith, mul-le-mul_right d h.within.low.cross) })

  is_three_halves : value before_three_halves ≺ value m → m ≡ three_halves
  is_three_halves l =
      let (A, a, next, above) = before_is in
      let u = next_up_least binary64 before_three_halves m a h.is_double A h.number l in
      one_of_value m three_halves h.is_double mantissa_limits.3 h.number mantissa_limits.1 above (subst (λ (x : Float). value x ≼ value m) next u.1) h.within.high

  argument_bounded : Bounded ln_limit (ln_argument strict m)
  argument_bounded = elim (≼-or-≻ (value m) (value before_three_halves)) [
    | inl l ↦ below_bounded l
    | inr l ↦ subst (λ (x : Float). Bounded ln_limit (ln_argument strict x)) (sym (is_three_halves l)) at_three_halves
  ]

-- ---- ln
module _ (v : Float) (p : T (finite v)) (e : ℤ) (i : exponent_of (value v) ≡ some e) where
  ln_mantissa : Mantissa (scaled v (neg_ℤ e))
  ln_mantissa = mantissa v p e (exponent_in (value v) e i)

  ln_bounded : Bounded ln_limit (ln_reduced v e)
  ln_bounded =
      let m = scaled v (neg_ℤ e) in
      let s = argument_bounded m ln_mantissa in
      subst (Bounded ln_limit) (in_code (ln_argument agreed_basic (agreeing m ln_mantissa.number)) s.number) s

  ln_recipe : ln plain v ≡ plain.add (series plain (ln_reduced v e)) (plain.mul (plain.whole e) Constants.L)
  unfolding ln ln_of
  ln_recipe = rw (is_true (finite v) p, i) refl

pub ln_reduces : LnReduces
ln_reduces v p z =
    let (e, i) = exponent_some (value v) z in
    (e, record { exponent = i; is = ln_recipe v p e i; argument = ln_bounded v p e i; near = ln_near_series_in_code (ln_reduced v e) (ln_bounded v p e i) })

-- ---- ln_1p
module _ (v : Float) (h : Bounded ln1p_range v) where
  more_two : Approximation (two_to (negsuc 51)) (whole (pos 9) ⊘ whole (pos 4)) (strict.add (strict.constant Constants.two) v) (two ⊕ value v)
  more_two = loosened _ _ (sum 1023 tt two_is (itself h) refl) refl refl

  ln1p_strict : Bounded ln_limit (ln1p_argument strict v)
  ln1p_strict =
      let d = (value v).den in
      let a = at_most_bound h.bound in
      let b = opposite_at_most_bound h.bound in
      near_quotient (itself h) more_two (two_to (negsuc 49)) (was_no (two_to (negsuc 49)) _ refl) (record { cross = omega (arith, b) })
      (record { cross = omega (arith, mul-le-mul_right d a.cross) }) (record { cross = omega (arith, mul-le-mul_right d b.cross) })

  ln1p_bounded : Bounded ln_limit (ln1p_argument plain v)
  ln1p_bounded = subst (Bounded ln_limit) (in_code (ln1p_argument agreed_basic (agreeing v h.number)) ln1p_strict.number) ln1p_strict

  quarter_low : value minus_quarter ≼ value v
  unfolding of_bits neg
  quarter_low = omega (arith, opposite_at_most_bound h.bound)

  quarter_high : value v ≼ value quarter
  unfolding of_bits
  quarter_high = omega (arith, at_most_bound h.bound)

  ln1p_recipe : ln1p plain v ≡ series plain (ln1p_argument plain v)
  unfolding ln1p
  ln1p_recipe = rw (is_true (finite v) h.number, ≺?-no quarter_low, ≺?-no quarter_high) refl

pub ln1p_reduces : Ln1pReduces
ln1p_reduces v h = record { is = ln1p_recipe v h; argument = ln1p_bounded v h; near = ln_near_series_in_code (ln1p_argument plain v) (ln1p_bounded v h) }
