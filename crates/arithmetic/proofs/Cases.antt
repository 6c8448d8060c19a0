-- e of ln is the one with 0.75 * 2 ^ e ≤ q < 1.5 * 2 ^ e, and k of exp the greatest whole number that is not above q. What lies between two numbers of one case is of it too.
use Prim.Native.Nat.{ℕ, zero, suc, ◌+◌, ◌-◌, ◌*◌, ◌/◌, ◌^◌, ◌≤◌, ◌<◌}
use native.Mathlib.Nat.{le_of_lt, lt_of_not-le, not-le_of_lt, le_of_suc-le-suc, mul-le-mul_right, mul-lt-mul_of_pos_right, le_of_mul-le-mul_right, lt_of_mul-lt-mul_right, mul-pos, pow-succ', div-mul-le_self, div-lt_iff_lt-mul}
use native.Mathlib.Omega.{arith}
use mathlib.Core.Path.{◌≡◌, refl, sym, ap, subst}
use mathlib.Core.Option
use mathlib.Core.Option.{Option, none, some}
use mathlib.Core.Bool.{Bool, true, false, not, cond}
use lib.IntN.{ℤ, pos, negsuc, suc_ℤ, pred_ℤ, suc-pred}
use lib.Dec.{T, ltb, ltb→lt, lt→ltb, nltb→le}
use lib.Pow.{pow_pos, pow_mono}
use lib.Ieee.{up, down, minus, size}
use lib.Ieee.Fits.{up_pos, down_pos}
use lib.Ieee.Digits.{minus_val, size-lt, size_reaches}
use lib.Arith.{le→nltb}
use lib.Ieee.Bits.{is_true, is_false}
use Rattle.arithmetic.specs.Fraction.{Fraction, ◌≼◌, ◌≺◌, ◌≺?◌, null, whole}
use Rattle.arithmetic.specs.Cases.{binade, near, exponent_of, floor_of}
use Rattle.arithmetic.specs.Basic.{Step, exponent, floor, pick}
use Rattle.arithmetic.proofs.Fraction.{≼_trans, ≼-≺-trans, was_yes, was_no}

-- ---- steps with ends `bound`
module _ (bound : ℤ → Fraction) where
  pub record In (e : ℤ) (q : Fraction) : Type 0 where
    pub low : bound e ≼ q
    pub high : q ≺ bound (suc_ℤ e)

  module _ (apart : (e f : ℤ) → bound e ≺ bound (suc_ℤ f) → bound f ≺ bound (suc_ℤ e) → e ≡ f) where
    only : {e f : ℤ} {q : Fraction} → In e q → In f q → e ≡ f
    only {e} {f} h k = apart e f (≼-≺-trans h.low k.high) (≼-≺-trans k.low h.high)

-- ---- e
pub double : (j : ℤ) → up (suc_ℤ j) * down j ≡ 2 * up j * down (suc_ℤ j)
double (pos n) = rw pow-succ' (omega arith)
double (negsuc zero) = refl
double (negsuc (suc n)) = rw pow-succ' (omega arith)

-- what the numbers of digits say: k / d lies between 2 ^ j / 2 and 2 * 2 ^ j
module _ (k d : ℕ) (K : 0 < k) (D : 0 < d) where
  abbrev place : ℤ
  place = minus (size k) (size d)

  some_digits : (n : ℕ) → 0 < n → 2 ^ size n ≤ 2 * n
  some_digits n h = go (size n) (size-lt n) (size_reaches n)
    where
      go : (s : ℕ) → n < 2 ^ s → ((j : ℕ) → j < s → 2 ^ j ≤ n) → 2 ^ s ≤ 2 * n
      go zero a b = omega arith
      go (suc s) a b = rw pow-succ' (omega (arith, b s (omega arith)))

  is : up place * 2 ^ size d ≡ 2 ^ size k * down place
  is = omega (arith, minus_val 1 (size k) (size d))

  not_under : up place * d ≤ 2 * k * down place
  not_under = omega (arith, is, mul-le-mul_right (up place) (le_of_lt (size-lt d)), mul-le-mul_right (down place) (some_digits k K))

  not_over : k * down place ≤ 2 * up place * d
  not_over = omega (arith, is, mul-le-mul_right (down place) (le_of_lt (size-lt k)), mul-le-mul_right (up place) (some_digits d D))

under_by : (k d u v u' v' : ℕ) → 0 < v → u * v' ≡ 2 * u' * v → u * d ≤ 2 * k * v → 3 * u' * d ≤ 4 * (k * v')
under_by k d u v u' v' Y e h =
    let l : 3 * u' * d * v ≤ 3 * (k * v') * v = omega (arith, ap (λ (x : ℕ). x * d) e, mul-le-mul_right v' h) in
    let m : 3 * u' * d ≤ 3 * (k * v') = le_of_mul-le-mul_right l Y in
    omega arith

over_by : (k d u v u' v' u'' v'' : ℕ) → 0 < v → 0 < v' → 0 < u'' → 0 < d → u' * v ≡ 2 * u * v' → u'' * v' ≡ 2 * u' * v'' → k * v ≤ 2 * u * d → 4 * (k * v'') < 3 * u'' * d
over_by k d u v u' v' u'' v'' Y Y' U'' D e e' h =
    let l : k * v'' * 4 * (v * v') ≤ 2 * u'' * d * (v * v') = omega (arith, mul-le-mul_right (v' * v'') h, ap (λ (x : ℕ). x * (v'' * d)) e, ap (λ (x : ℕ). x * (v * d)) e') in
    let m : k * v'' * 4 ≤ 2 * u'' * d = le_of_mul-le-mul_right l (mul-pos Y Y') in
    omega (arith, mul-pos U'' D)

module _ (q : Fraction) (h : q.minus < q.plus) (j : ℤ) (A : up j * q.den ≤ 2 * (q.plus - q.minus) * down j) (B : (q.plus - q.minus) * down j ≤ 2 * up j * q.den) where
  lowest : binade (pred_ℤ j) ≼ q
  lowest =
      let e : up j * down (pred_ℤ j) ≡ 2 * up (pred_ℤ j) * down j = subst (λ (i : ℤ). up i * down (pred_ℤ j) ≡ 2 * up (pred_ℤ j) * down i) (suc-pred j) (double (pred_ℤ j)) in
      let g = under_by (q.plus - q.minus) q.den (up j) (down j) (up (pred_ℤ j)) (down (pred_ℤ j)) (down_pos j) e A in
      record { cross = go (q.plus - q.minus) (up (pred_ℤ j)) (down (pred_ℤ j)) (omega arith) g }
    where
      go : (k u v : ℕ) → q.plus ≡ q.minus + k → 3 * u * q.den ≤ 4 * (k * v) → 3 * u * q.den + q.minus * (4 * v) ≤ q.plus * (4 * v) + 0 * q.den
      go k u v e g = rw e (omega (arith, g))

  highest : q ≺ binade (suc_ℤ (suc_ℤ j))
  highest =
      let i = suc_ℤ j in
      let l = suc_ℤ (suc_ℤ j) in
      let g = over_by (q.plus - q.minus) q.den (up j) (down j) (up i) (down i) (up l) (down l) (down_pos j) (down_pos i) (up_pos l) q.above (double j) (double i) B in
      record { cross = go (q.plus - q.minus) (up l) (down l) (omega arith) g }
    where
      go : (k u v : ℕ) → q.plus ≡ q.minus + k → 4 * (k * v) < 3 * u * q.den → q.plus * (4 * v) + 0 * q.den < 3 * u * q.den + q.minus * (4 * v)
      go k u v e g = rw e (omega (arith, g))

  near_in : In binade (near q j) q
  near_in = go ((q ≺? binade j)) ((q ≺? binade (suc_ℤ j))) refl refl
    where
      go : (s t : Bool) → (q ≺? binade j) ≡ s → (q ≺? binade (suc_ℤ j)) ≡ t → In binade (cond s (pred_ℤ j) (cond t j (suc_ℤ j))) q
      go true t e f = record { low = lowest; high = rw (suc-pred j) (was_yes q (binade j) e) }
      go false true e f = record { low = was_no q (binade j) e; high = was_yes q (binade (suc_ℤ j)) f }
      go false false e f = record { low = was_no q (binade (suc_ℤ j)) f; high = highest }

-- 2 ^ e < 2 * 2 ^ f, and the other way round
not_more : (a b : ℕ) → 2 ^ a < 2 * 2 ^ b → a ≤ b
not_more a b h = le_of_suc-le-suc (lt_of_not-le (λ (g : suc b ≤ a). not-le_of_lt h (rw pow-succ' at (pow_mono g))))

same : (e f : ℤ) → up e * down f < 2 * up f * down e → up f * down e < 2 * up e * down f → e ≡ f
same (pos a) (pos b) h k = ap pos (omega (arith, not_more a b (omega (arith, h)), not_more b a (omega (arith, k))))
same (pos a) (negsuc b) h k = absurd (omega (arith, h, mul-pos (pow_pos a) (pow_pos b), pow-succ' 2 b, ap (λ (x : ℕ). 2 ^ a * x) (pow-succ' 2 b)))
same (negsuc a) (pos b) h k = absurd (omega (arith, k, mul-pos (pow_pos b) (pow_pos a), ap (λ (x : ℕ). 2 ^ b * x) (pow-succ' 2 a)))
same (negsuc a) (negsuc b) h k =
    ap negsuc (omega (arith, not_more (suc b) (suc a) (omega (arith, h)), not_more (suc a) (suc b) (omega (arith, k))))

binade_under : (e f : ℤ) → binade e ≺ binade (suc_ℤ f) → up e * down f < 2 * up f * down e
binade_under e f h = go (up e) (down e) (up f) (down f) (up (suc_ℤ f)) (down (suc_ℤ f)) (down_pos f) (double f) (omega (arith, h))
  where
    go : (u v x y x' y' : ℕ) → 0 < y → x' * y ≡ 2 * x * y' → u * y' < x' * v → u * y < 2 * x * v
    go u v x y x' y' Y d h = lt_of_mul-lt-mul_right y' (omega (arith, ap (λ (z : ℕ). z * v) d, mul-lt-mul_of_pos_right h Y))

binade_apart : (e f : ℤ) → binade e ≺ binade (suc_ℤ f) → binade f ≺ binade (suc_ℤ e) → e ≡ f
binade_apart e f h k = same e f (binade_under e f h) (binade_under f e k)

-- ---- k
pub floor_in : (q : Fraction) → In whole (floor_of q) q
unfolding floor_of
floor_in q = go (ltb q.plus q.minus) (ltb→lt q.plus q.minus) (nltb→le q.plus q.minus)
  where
    d : ℕ
    d = q.den

    below : (m : ℕ) → q.plus < q.minus → m * q.den ≤ q.minus - q.plus - 1 → q.minus - q.plus - 1 < suc m * q.den → In whole (negsuc m) q
    below zero h k l = record { low = omega (arith, l); high = omega arith }
    below (suc m) h k l = record { low = omega (arith, l); high = omega (arith, k) }

    go : (t : Bool) → (T t → q.plus < q.minus) → (T (not t) → q.minus ≤ q.plus) → In whole (cond t (negsuc ((q.minus - q.plus - 1) / q.den)) (pos ((q.plus - q.minus) / q.den))) q
    go true h k = below ((q.minus - q.plus - 1) / q.den) (h tt) (div-mul-le_self (q.minus - q.plus - 1) q.den) ((div-lt_iff_lt-mul q.above).0 (omega arith))
    go false h k =
        let l : (q.plus - q.minus) / q.den * q.den ≤ q.plus - q.minus = div-mul-le_self (q.plus - q.minus) q.den in
        let m : q.plus - q.minus < suc ((q.plus - q.minus) / q.den) * q.den = (div-lt_iff_lt-mul q.above).0 (omega arith) in
        record { low = omega (arith, l, k tt); high = omega (arith, m, k tt) }

whole_apart : (e f : ℤ) → whole e ≺ whole (suc_ℤ f) → whole f ≺ whole (suc_ℤ e) → e ≡ f
whole_apart (pos a) (pos b) h k = ap pos (omega (arith, h, k))
whole_apart (pos a) (negsuc zero) h k = absurd (omega (arith, h))
whole_apart (pos a) (negsuc (suc b)) h k = absurd (omega (arith, h))
whole_apart (negsuc zero) (pos b) h k = absurd (omega (arith, k))
whole_apart (negsuc (suc a)) (pos b) h k = absurd (omega (arith, k))
whole_apart (negsuc zero) (negsuc zero) h k = refl
whole_apart (negsuc zero) (negsuc (suc b)) h k = absurd (omega (arith, h))
whole_apart (negsuc (suc a)) (negsuc zero) h k = absurd (omega (arith, k))
whole_apart (negsuc (suc a)) (negsuc (suc b)) h k = ap negsuc (omega (arith, h, k))

-- ---- the two cases
some_inj : {e f : ℤ} → some e ≡ some f → e ≡ f
some_inj = (Option.some_inj).0

abbrev Given : Option ℤ → Type 0
Given none = ⊥
Given (some e) = Unit {0}

none≢some : {e : ℤ} → none ≡ some e → ⊥
none≢some p = subst (λ (o : Option ℤ). Given o) (sym p) tt

pub exponent_in : (q : Fraction) (e : ℤ) → exponent_of q ≡ some e → In binade e q
unfolding exponent_of
exponent_in q e = go (ltb q.minus q.plus) (ltb→lt q.minus q.plus)
  where
    j : ℤ
    j = minus (size (q.plus - q.minus)) (size q.den)

    go : (t : Bool) → (T t → q.minus < q.plus) → cond t (some (near q j)) none ≡ some e → In binade e q
    go true h p =
        let k : 0 < q.plus - q.minus = omega (arith, h tt) in
        subst (λ (i : ℤ). In binade i q) (some_inj p) (near_in q (h tt) j (not_under (q.plus - q.minus) q.den k q.above) (not_over (q.plus - q.minus) q.den k q.above))
    go false h p = absurd (none≢some p)

pub exponent_is : (q : Fraction) (e : ℤ) → In binade e q → exponent_of q ≡ some e
unfolding exponent_of
exponent_is q e i =
    let h : q.minus < q.plus = lt_of_mul-lt-mul_right (4 * down e) (omega (arith, i.low, mul-pos (up_pos e) q.above)) in
    let k : 0 < q.plus - q.minus = omega arith in
    rw (is_true (ltb q.minus q.plus) (lt→ltb q.minus q.plus h))
    (ap some (only binade binade_apart (near_in q h (minus (size (q.plus - q.minus)) (size q.den)) (not_under (q.plus - q.minus) q.den k q.above) (not_over (q.plus - q.minus) q.den k q.above)) i))

pub exponent_some : (q : Fraction) → null ≺ q → (e : ℤ) × (exponent_of q ≡ some e)
unfolding exponent_of
exponent_some q h = (near q (minus (size (q.plus - q.minus)) (size q.den)), rw (is_true (ltb q.minus q.plus) (lt→ltb q.minus q.plus (omega (arith, h)))) refl)

pub exponent_none : (q : Fraction) → q ≼ null → exponent_of q ≡ none
unfolding exponent_of
exponent_none q h = rw (is_false (ltb q.minus q.plus) (le→nltb q.minus q.plus (omega (arith, h))))

exponent_convex : {lo q hi : Fraction} (e : ℤ) → lo ≼ q → q ≼ hi → exponent_of lo ≡ some e → exponent_of hi ≡ some e → exponent_of q ≡ some e
exponent_convex {lo} {q} {hi} e h k p r = exponent_is q e (record { low = ≼_trans (exponent_in lo e p).low h; high = ≼-≺-trans k (exponent_in hi e r).high })

floor_convex : {lo q hi : Fraction} (k : ℤ) → lo ≼ q → q ≼ hi → some (floor_of lo) ≡ some k → some (floor_of hi) ≡ some k → some (floor_of q) ≡ some k
floor_convex {lo} {q} {hi} e h k p r =
    ap some (only whole whole_apart (floor_in q) (record {
      low = ≼_trans (subst (λ (i : ℤ). whole i ≼ lo) (some_inj p) (floor_in lo).low) h;
      high = ≼-≺-trans k (subst (λ (i : ℤ). hi ≺ whole (suc_ℤ i)) (some_inj r) (floor_in hi).high);
    }))

pub floor_is : (q : Fraction) (k : ℤ) → In whole k q → floor_of q ≡ k
floor_is q k h = only whole whole_apart (floor_in q) h

-- what lies between two numbers of one case is of that case
pub pick_convex : (s : Step) {lo q hi : Fraction} (k : ℤ) → lo ≼ q → q ≼ hi → pick s lo ≡ some k → pick s hi ≡ some k → pick s q ≡ some k
pick_convex exponent k h i p r = exponent_convex k h i p r
pick_convex floor k h i p r = floor_convex k h i p r
