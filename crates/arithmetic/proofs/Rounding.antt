-- Rounding keeps the order, it leaves a number that the format holds as it is,
-- and a sum, a product and a quotient of floats is the exact one, rounded.
use mathlib.Core.Path.{◌≡◌, refl, sym, ap, ap₂, subst, ◌∙◌}
use mathlib.Core.Logic.{inl, inr}
use Prim.Native.Nat.{ℕ, zero, suc, ◌+◌, ◌-◌, ◌*◌, ◌%◌, ◌^◌, ◌≤◌, ◌<◌, max}
use native.Mathlib.Nat.{le_of_lt, le_of_eq, lt_irrefl, lt_of_lt_of_le, lt_of_not-le, le_of_suc-le-suc, eq-or-lt_of_le, mul-pos, sub-zero, mul-one, one-mul, mul_assoc, mul_comm, zero-lt-suc, mul-lt-mul_of_pos_right, mul-le-mul_right, lt_of_mul-lt-mul_right}
use native.Mathlib.Omega.{arith}
use mathlib.Core.Bool.{Bool, true, false, not, ◌&&◌, cond, true≢false}
use lib.IntN.{ℤ, pos, negsuc}
use lib.Dec.{T, leb, ltb, eqb, ltb→lt, lt→ltb, nltb→le, eqb→eq, leb→le, T_not, not_T}
use lib.Pow.{pow-add, pow_pos, pow-lt}
use lib.Ieee.{Float, nan, inf, fin, Format, binary32, binary64, prec, emax, low, up, down, unlike, odd, units, round, neg, sum, add, sub, mul, div, le, fits}
use lib.Ieee.Digits.{back}
use lib.Ieee.Fits.{round_is, down_pos, up_pos, and_l, and_r}
use lib.Ieee.Bits.{cond_no, is_true, is_false}
use lib.Ieee.Exact.{HasValue, round_exact}
use lib.Ieee.Order.{round_mono}
use lib.Ieee.Scale.{finite, round_same}
use Rattle.arithmetic.specs.Fraction.{Fraction, ◌≼◌, ◌⊕◌, opp, ◌⊗◌, ◌⊘◌, Apart}
use Rattle.arithmetic.specs.Value.{signed, value, sign}
use Rattle.arithmetic.specs.Rounding.{rounded}
use Rattle.arithmetic.proofs.Fraction.{≺→≼, ≼-or-≻}
use Rattle.arithmetic.proofs.Value.{≼→le, le_trans, neg_le}

-- ---- by the three cases
lt→nltb : (a b : ℕ) → b ≤ a → ltb a b ≡ false
lt→nltb a b h = is_false (ltb a b) (lib.Arith.le→nltb a b h)

pub rounded_below : (f : Format) (z : Bool) (q : Fraction) → q.plus < q.minus → rounded f z q ≡ round f true (q.minus - q.plus) q.den
unfolding rounded
rounded_below f z q h =
    ap (λ (b : Bool). cond b (round f true (q.minus - q.plus) q.den) (cond (ltb q.minus q.plus) (round f false (q.plus - q.minus) q.den) (fin z 0 (pos 0)))) (is_true (ltb q.plus q.minus) (lt→ltb q.plus q.minus h))

pub rounded_over : (f : Format) (z : Bool) (q : Fraction) → q.minus < q.plus → rounded f z q ≡ round f false (q.plus - q.minus) q.den
unfolding rounded
rounded_over f z q h =
    ap (λ (b : Bool). cond b (round f true (q.minus - q.plus) q.den) (cond (ltb q.minus q.plus) (round f false (q.plus - q.minus) q.den) (fin z 0 (pos 0)))) (lt→nltb q.plus q.minus (le_of_lt h))
    ∙ ap (λ (b : Bool). cond b (round f false (q.plus - q.minus) q.den) (fin z 0 (pos 0))) (is_true (ltb q.minus q.plus) (lt→ltb q.minus q.plus h))

pub rounded_zero : (f : Format) (z : Bool) (q : Fraction) → q.minus ≡ q.plus → rounded f z q ≡ fin z 0 (pos 0)
unfolding rounded
rounded_zero f z q h =
    ap (λ (b : Bool). cond b (round f true (q.minus - q.plus) q.den) (cond (ltb q.minus q.plus) (round f false (q.plus - q.minus) q.den) (fin z 0 (pos 0)))) (lt→nltb q.plus q.minus (le_of_eq h))
    ∙ ap (λ (b : Bool). cond b (round f false (q.plus - q.minus) q.den) (fin z 0 (pos 0))) (lt→nltb q.minus q.plus (le_of_eq (sym h)))

round_zero_1 : (f : Format) (s : Bool) → round f s 0 1 ≡ fin s 0 (pos 0)
unfolding round
round_zero_1 binary32 s = refl
round_zero_1 binary64 s = refl

round_zero : (f : Format) (s : Bool) (a c : ℕ) → 0 < c → a ≡ 0 → round f s a c ≡ fin s 0 (pos 0)
round_zero f s a c C e = ap (λ (x : ℕ). round f s x c) e ∙ round_same f s 0 c 0 1 C (zero-lt-suc 0) (omega arith) ∙ round_zero_1 f s

-- at zero z is the sign, so a sign that is right there is right on that whole side
pub rounded_nonneg : (f : Format) (q : Fraction) → q.minus ≤ q.plus → rounded f false q ≡ round f false (q.plus - q.minus) q.den
rounded_nonneg f q h = elim (eq-or-lt_of_le h) [ inl e ↦ rounded_zero f false q e ∙ sym (round_zero f false (q.plus - q.minus) q.den q.above (omega arith)) | inr l ↦ rounded_over f false q l ]

pub rounded_nonpos : (f : Format) (q : Fraction) → q.plus ≤ q.minus → rounded f true q ≡ round f true (q.minus - q.plus) q.den
rounded_nonpos f q h = elim (eq-or-lt_of_le h) [ inl e ↦ rounded_zero f true q (sym e) ∙ sym (round_zero f true (q.minus - q.plus) q.den q.above (omega arith)) | inr l ↦ rounded_below f true q l ]

-- ---- the two signs mirror one another
odd_neg : (d q k l : ℕ) → odd d true q k l ≡ neg (odd d false q k l)
unfolding odd neg
odd_neg d zero k l = refl
odd_neg d (suc q) k l = refl

units_neg : (f : Format) (q k : ℕ) → units f true q k ≡ neg (units f false q k)
unfolding units neg
units_neg f q k = go (ltb (q * 2 ^ k) (2 ^ (low f + suc (emax f))))
  where
    go : (b : Bool) → cond b (odd (suc (prec f)) true q k (low f)) (inf true) ≡ neg (cond b (odd (suc (prec f)) false q k (low f)) (inf false))
    go true = odd_neg (suc (prec f)) q k (low f)
    go false = refl

round_neg : (f : Format) (a c : ℕ) → round f true a c ≡ neg (round f false a c)
round_neg f a c = round_is f true a c ∙ units_neg f _ _ ∙ ap neg (sym (round_is f false a c))

zeros : (z w : Bool) → T (le (fin z 0 (pos 0)) (fin w 0 (pos 0)))
unfolding le
zeros true true = tt
zeros true false = tt
zeros false true = tt
zeros false false = tt

over_zero : (f : Format) (z : Bool) (a c : ℕ) → 0 < c → T (le (fin z 0 (pos 0)) (round f false a c))
over_zero f z a c C = le_trans (fin z 0 (pos 0)) (fin false 0 (pos 0)) (round f false a c) (zeros z false)
    (subst (λ (x : Float). T (le x (round f false a c))) (round_zero_1 f false) (round_mono f 0 1 a c (zero-lt-suc 0) C (omega arith)))

under_zero : (f : Format) (z : Bool) (a c : ℕ) → 0 < c → T (le (round f true a c) (fin z 0 (pos 0)))
under_zero f true a c C = rw (round_neg f a c) (unfold neg in neg_le (fin false 0 (pos 0)) (round f false a c) (over_zero f false a c C))
under_zero f false a c C = rw (round_neg f a c) (unfold neg in neg_le (fin true 0 (pos 0)) (round f false a c) (over_zero f true a c C))

-- ---- it keeps the order
pub data Side (a b : ℕ) : Type 0 where
  less : a < b → Side a b
  same : b ≡ a → Side a b
  more : b < a → Side a b

pub side : (a b : ℕ) → Side a b
side a b = go (ltb a b) (ltb b a) (ltb→lt a b) (nltb→le a b) (ltb→lt b a) (nltb→le b a)
  where
    go : (s t : Bool) → (T s → a < b) → (T (not s) → b ≤ a) → (T t → b < a) → (T (not t) → a ≤ b) → Side a b
    go true t h k i j = less (h tt)
    go false true h k i j = more (i tt)
    go false false h k i j = same (omega (arith, k tt, j tt))

-- p * d' + n' * d ≤ p' * d + n * d', read as an order of magnitudes on either side
pub both_over : (p n d p' n' d' : ℕ) → p * d' + n' * d ≤ p' * d + n * d' → n ≤ p → n' ≤ p' → (p - n) * d' ≤ (p' - n') * d
both_over p n d p' n' d' h a a' = go (p - n) (p' - n') (omega arith) (omega arith)
  where
    go : (k k' : ℕ) → p ≡ n + k → p' ≡ n' + k' → k * d' ≤ k' * d
    go k k' e e' = omega (arith, rw (e, e') at h)

crossed : (p n d p' n' d' : ℕ) → p * d' + n' * d ≤ p' * d + n * d' → 0 < d → 0 < d' → n < p → p' ≤ n' → ⊥
crossed p n d p' n' d' h D D' a a' = omega (arith, h, mul-lt-mul_of_pos_right a D', mul-le-mul_right d a')

crossed' : (p n d p' n' d' : ℕ) → p * d' + n' * d ≤ p' * d + n * d' → 0 < d → 0 < d' → n ≤ p → p' < n' → ⊥
crossed' p n d p' n' d' h D D' a a' = omega (arith, h, mul-le-mul_right d' a, mul-lt-mul_of_pos_right a' D)

pub rounded_mono : (f : Format) (z w : Bool) (q r : Fraction) → q ≼ r → T (le (rounded f z q) (rounded f w r))
rounded_mono f z w q r h = go (side q.plus q.minus) (side r.plus r.minus)
  where
    go : Side q.plus q.minus → Side r.plus r.minus → T (le (rounded f z q) (rounded f w r))
    go (less a) (less b) =
        rw (rounded_below f z q a, rounded_below f w r b, round_neg f (q.minus - q.plus) q.den, round_neg f (r.minus - r.plus) r.den)
        (neg_le (round f false (r.minus - r.plus) r.den) (round f false (q.minus - q.plus) q.den)
        (round_mono f (r.minus - r.plus) r.den (q.minus - q.plus) q.den r.above q.above
        (both_over r.minus r.plus r.den q.minus q.plus q.den (omega (arith, h)) (le_of_lt b) (le_of_lt a))))
    go (less a) (same b) = rw (rounded_below f z q a, rounded_zero f w r b) (under_zero f w (q.minus - q.plus) q.den q.above)
    go (less a) (more b) =
        rw (rounded_below f z q a, rounded_over f w r b)
        (le_trans (round f true (q.minus - q.plus) q.den) (fin false 0 (pos 0)) (round f false (r.plus - r.minus) r.den) (under_zero f false (q.minus - q.plus) q.den q.above) (over_zero f false (r.plus - r.minus) r.den r.above))
    go (same a) (less b) = absurd (crossed' q.plus q.minus q.den r.plus r.minus r.den h.cross q.above r.above (le_of_eq a) b)
    go (same a) (same b) = rw (rounded_zero f z q a, rounded_zero f w r b) (zeros z w)
    go (same a) (more b) = rw (rounded_zero f z q a, rounded_over f w r b) (over_zero f z (r.plus - r.minus) r.den r.above)
    go (more a) (less b) = absurd (crossed q.plus q.minus q.den r.plus r.minus r.den h.cross q.above r.above a (le_of_lt b))
    go (more a) (same b) = absurd (crossed q.plus q.minus q.den r.plus r.minus r.den h.cross q.above r.above a (le_of_eq (sym b)))
    go (more a) (more b) =
        rw (rounded_over f z q a, rounded_over f w r b)
        (round_mono f (q.plus - q.minus) q.den (r.plus - r.minus) r.den q.above r.above
        (both_over q.plus q.minus q.den r.plus r.minus r.den h.cross (le_of_lt a) (le_of_lt b)))

-- ---- a number that the format holds
pow_le_back : (a l : ℕ) → 2 ^ a ≤ 2 ^ l → a ≤ l
pow_le_back a l h = le_of_suc-le-suc (lt_of_not-le (λ (g : suc l ≤ a). lt_irrefl (2 ^ l) (lt_of_lt_of_le (pow-lt g) h)))

-- 2 ^ e is 2 ^ j of the smallest value 2 ^ -l
pub place : (l : ℕ) (e : ℤ) → down e ≤ 2 ^ l → (j : ℕ) × (up e * 2 ^ l ≡ 2 ^ j * down e)
place l (pos a) h = (a + l, sym (mul-one (2 ^ (a + l)) ∙ pow-add 2 a l))
place l (negsuc a) h =
    let k : suc a ≤ l = pow_le_back (suc a) l h in
    (l - suc a, one-mul (2 ^ l) ∙ ap (λ (x : ℕ). 2 ^ x) (sym (back l (suc a) k)) ∙ pow-add 2 (l - suc a) (suc a))

round_held : (f : Format) (s : Bool) (m : ℕ) (e : ℤ) → m < 2 ^ prec f → down e ≤ 2 ^ low f → m * up e < 2 ^ suc (emax f) * down e → HasValue (round f s (m * up e) (down e)) s (m * up e) (down e)
round_held f s m e a b c =
    let j = (place (low f) e b).0 in
    let p : m * up e * 2 ^ low f ≡ m * 2 ^ j * down e = mul_assoc m (up e) (2 ^ low f) ∙ ap (λ (x : ℕ). m * x) (place (low f) e b).1 ∙ sym (mul_assoc m (2 ^ j) (down e)) in
    let w : m * 2 ^ j * down e < 2 ^ (low f + suc (emax f)) * down e = rw (← p, pow-add) (go (up e) (down e) (2 ^ low f) (2 ^ suc (emax f)) (mul-lt-mul_of_pos_right c (pow_pos (low f)))) in
    round_exact f s (m * up e) (down e) m j (down_pos e) a (lt_of_mul-lt-mul_right (down e) w) p
  where
    go : (u d l t : ℕ) → m * u * l < t * d * l → m * u * l < l * t * d
    go u d l t h = omega (arith, h)

-- two floats of one value
alike : (r : Float) (s : Bool) (m : ℕ) (e : ℤ) → HasValue r s (m * up e) (down e) → T (le (fin s m e) r) × T (le r (fin s m e))
alike nan s m e h = absurd h
alike (inf t) s m e h = absurd h
alike (fin t n g) s m e h = go t s h.0
  where
    go : (t s : Bool) → t ≡ s → T (le (fin s m e) (fin t n g)) × T (le (fin t n g) (fin s m e))
    go true true p = (≼→le (fin true m e) (fin true n g) tt tt (omega (arith, h.1)), ≼→le (fin true n g) (fin true m e) tt tt (omega (arith, h.1)))
    go false false p = (≼→le (fin false m e) (fin false n g) tt tt (omega (arith, h.1)), ≼→le (fin false n g) (fin false m e) tt tt (omega (arith, h.1)))
    go true false p = absurd (true≢false p)
    go false true p = absurd (true≢false (sym p))

pub held : (f : Format) (z : Bool) (x : Float) → T (finite x) → T (fits f x) → T (le x (rounded f z (value x))) × T (le (rounded f z (value x)) x)
unfolding fits
held f z nan p h = absurd p
held f z (inf s) p h = absurd p
held f z (fin s zero e) p h = rw (rounded_zero f z (signed s (0 * up e) (down e) (down_pos e)) (none s)) (zero_alike s z, zero_alike' s z)
  where
    none : (s : Bool) → (signed s (0 * up e) (down e) (down_pos e)).minus ≡ (signed s (0 * up e) (down e) (down_pos e)).plus
    none true = omega arith
    none false = omega arith

    zero_alike : (s z : Bool) → T (le (fin s 0 e) (fin z 0 (pos 0)))
    zero_alike true true = ≼→le (fin true 0 e) (fin true 0 (pos 0)) tt tt (omega arith)
    zero_alike true false = ≼→le (fin true 0 e) (fin false 0 (pos 0)) tt tt (omega arith)
    zero_alike false true = ≼→le (fin false 0 e) (fin true 0 (pos 0)) tt tt (omega arith)
    zero_alike false false = ≼→le (fin false 0 e) (fin false 0 (pos 0)) tt tt (omega arith)

    zero_alike' : (s z : Bool) → T (le (fin z 0 (pos 0)) (fin s 0 e))
    zero_alike' true true = ≼→le (fin true 0 (pos 0)) (fin true 0 e) tt tt (omega arith)
    zero_alike' true false = ≼→le (fin false 0 (pos 0)) (fin true 0 e) tt tt (omega arith)
    zero_alike' false true = ≼→le (fin true 0 (pos 0)) (fin false 0 e) tt tt (omega arith)
    zero_alike' false false = ≼→le (fin false 0 (pos 0)) (fin false 0 e) tt tt (omega arith)
held f z (fin s (suc m) e) p h =
    let A = eqb (suc m % 2) 1 in
    let B = ltb (suc m) (2 ^ prec f) in
    let C = leb (down e) (2 ^ low f) in
    let D = ltb (suc m * up e) (2 ^ suc (emax f) * down e) in
    go s (alike (round f s (suc m * up e) (down e)) s (suc m) e (round_held f s (suc m) e
    (ltb→lt (suc m) (2 ^ prec f) (and_r A B (and_l (A && B) C (and_l (A && B && C) D h))))
    (leb→le (down e) (2 ^ low f) (and_r (A && B) C (and_l (A && B && C) D h)))
    (ltb→lt (suc m * up e) (2 ^ suc (emax f) * down e) (and_r (A && B && C) D h))))
  where
    go : (s : Bool) → T (le (fin s (suc m) e) (round f s (suc m * up e) (down e))) × T (le (round f s (suc m * up e) (down e)) (fin s (suc m) e))
        → T (le (fin s (suc m) e) (rounded f z (value (fin s (suc m) e)))) × T (le (rounded f z (value (fin s (suc m) e))) (fin s (suc m) e))
    go true k = rw (rounded_below f z (value (fin true (suc m) e)) (mul-pos (zero-lt-suc m) (up_pos e)), sub-zero (suc m * up e)) k
    go false k = rw (rounded_over f z (value (fin false (suc m) e)) (mul-pos (zero-lt-suc m) (up_pos e)), sub-zero (suc m * up e)) k

-- ---- the operations: the exact result, rounded
-- a result with one sign, from the fraction's parts
nonneg_is : (f : Format) (q : Fraction) (k c : ℕ) → q.plus ≡ k → q.minus ≡ 0 → q.den ≡ c → round f false k c ≡ rounded f false q
nonneg_is f q k c p n d = ap₂ (round f false) (omega arith) (sym d) ∙ sym (rounded_nonneg f q (omega arith))

nonpos_is : (f : Format) (q : Fraction) (k c : ℕ) → q.plus ≡ 0 → q.minus ≡ k → q.den ≡ c → round f true k c ≡ rounded f true q
nonpos_is f q k c p n d = ap₂ (round f true) (omega arith) (sym d) ∙ sym (rounded_nonpos f q (omega arith))

-- two of different signs
module _ (f : Format) (a b c : ℕ) (q : Fraction) (d : q.den ≡ c) where
  sum_down : q.plus ≡ a → q.minus ≡ b → sum f false a true b c ≡ rounded f false q
  unfolding sum
  sum_down p n = go (ltb a b) (ltb→lt a b) (nltb→le a b)
    where
      go : (t : Bool) → (T t → a < b) → (T (not t) → b ≤ a) → cond t (round f true (b - a) c) (round f false (a - b) c) ≡ rounded f false q
      go true h k = ap₂ (round f true) (omega arith) (sym d) ∙ sym (rounded_below f false q (omega (arith, h tt)))
      go false h k = ap₂ (round f false) (omega arith) (sym d) ∙ sym (rounded_nonneg f q (omega (arith, k tt)))

  sum_up : q.plus ≡ b → q.minus ≡ a → sum f true a false b c ≡ rounded f false q
  unfolding sum
  sum_up p n = go (ltb a b) (ltb b a) (ltb→lt a b) (nltb→le a b) (ltb→lt b a) (nltb→le b a)
    where
      go : (t u : Bool) → (T t → a < b) → (T (not t) → b ≤ a) → (T u → b < a) → (T (not u) → a ≤ b) → cond t (round f false (b - a) c) (round f (true && u) (a - b) c) ≡ rounded f false q
      go true u h k i j = ap₂ (round f false) (omega arith) (sym d) ∙ sym (rounded_over f false q (omega (arith, h tt)))
      go false true h k i j = ap₂ (round f true) (omega arith) (sym d) ∙ sym (rounded_below f false q (omega (arith, i tt)))
      go false false h k i j = ap₂ (round f false) (omega (arith, k tt, j tt)) (sym d) ∙ sym (rounded_nonneg f q (omega (arith, j tt)))

pub add_is : (f : Format) (x y : Float) → T (finite x) → T (finite y) → add f x y ≡ rounded f (sign x && sign y) (value x ⊕ value y)
unfolding add
add_is f nan y p q = absurd p
add_is f (inf s) y p q = absurd p
add_is f (fin s m e) nan p q = absurd q
add_is f (fin s m e) (inf t) p q = absurd q
add_is f (fin false m e) (fin false n d) p q = nonneg_is f (value (fin false m e) ⊕ value (fin false n d)) (m * up e * down d + n * up d * down e) (down e * down d) refl (omega arith) refl
add_is f (fin true m e) (fin true n d) p q = nonpos_is f (value (fin true m e) ⊕ value (fin true n d)) (m * up e * down d + n * up d * down e) (down e * down d) (omega arith) refl refl
add_is f (fin false m e) (fin true n d) p q = sum_down f (m * up e * down d) (n * up d * down e) (down e * down d) (value (fin false m e) ⊕ value (fin true n d)) refl (omega arith) (omega arith)
add_is f (fin true m e) (fin false n d) p q = sum_up f (m * up e * down d) (n * up d * down e) (down e * down d) (value (fin true m e) ⊕ value (fin false n d)) refl (omega arith) (omega arith)

pub mul_is : (f : Format) (x y : Float) → T (finite x) → T (finite y) → mul f x y ≡ rounded f (unlike (sign x) (sign y)) (value x ⊗ value y)
unfolding mul
mul_is f nan y p q = absurd p
mul_is f (inf s) y p q = absurd p
mul_is f (fin s m e) nan p q = absurd q
mul_is f (fin s m e) (inf t) p q = absurd q
mul_is f (fin false m e) (fin false n d) p q = nonneg_is f (value (fin false m e) ⊗ value (fin false n d)) (m * up e * (n * up d)) (down e * down d) (omega arith) (omega arith) refl
mul_is f (fin true m e) (fin true n d) p q = nonneg_is f (value (fin true m e) ⊗ value (fin true n d)) (m * up e * (n * up d)) (down e * down d) (omega arith) (omega arith) refl
mul_is f (fin false m e) (fin true n d) p q = nonpos_is f (value (fin false m e) ⊗ value (fin true n d)) (m * up e * (n * up d)) (down e * down d) (omega arith) (omega arith) refl
mul_is f (fin true m e) (fin false n d) p q = nonpos_is f (value (fin true m e) ⊗ value (fin false n d)) (m * up e * (n * up d)) (down e * down d) (omega arith) (omega arith) refl

pub value_neg : (x : Float) → value (neg x) ≡ opp (value x)
unfolding neg
value_neg nan = refl
value_neg (inf s) = refl
value_neg (fin true m e) = refl
value_neg (fin false m e) = refl

pub finite_neg : (x : Float) → T (finite x) → T (finite (neg x))
unfolding neg
finite_neg nan p = p
finite_neg (inf s) p = p
finite_neg (fin s m e) p = p

pub sub_is : (f : Format) (x y : Float) → T (finite x) → T (finite y) → sub f x y ≡ rounded f (sign x && sign (neg y)) (value x ⊕ opp (value y))
unfolding sub
sub_is f x y p q = add_is f x (neg y) p (finite_neg y q) ∙ ap (λ (v : Fraction). rounded f (sign x && sign (neg y)) (value x ⊕ v)) (value_neg y)

nonzero : (t : Bool) (n : ℕ) (d : ℤ) → Apart (value (fin t n d)) (value (fin t n d)) → 0 < n * up d
nonzero true n d (inl h) = absurd (omega (arith, h))
nonzero true n d (inr h) = omega (arith, h)
nonzero false n d (inl h) = omega (arith, h)
nonzero false n d (inr h) = absurd (omega (arith, h))

pub div_is : (f : Format) (x y : Float) → T (finite x) → T (finite y) → Apart (value y) (value y) → div f x y ≡ rounded f (unlike (sign x) (sign y)) (value x ⊘ value y)
unfolding div
div_is f nan y p q z = absurd p
div_is f (inf s) y p q z = absurd p
div_is f (fin s m e) nan p q z = absurd q
div_is f (fin s m e) (inf t) p q z = absurd q
div_is f (fin s m e) (fin t n d) p q z =
    cond_no (eqb n 0) (cond (eqb m 0) nan (inf (unlike s t))) (round f (unlike s t) (m * up e * down d) (n * up d * down e)) (not_T (eqb n 0) (λ u. no (eqb→eq n 0 u))) ∙ go s t
  where
    N : 0 < n * up d
    N = nonzero t n d z

    no : n ≡ 0 → ⊥
    no e = omega (arith, subst (λ (k : ℕ). 0 < k * up d) e N)

    den_is : down e * max 1 (n * up d - 0 + (0 - n * up d)) ≡ n * up d * down e
    den_is = ap (λ (k : ℕ). down e * k) (omega (arith, N)) ∙ mul_comm (down e) (n * up d)

    den_is' : down e * max 1 (0 - n * up d + (n * up d - 0)) ≡ n * up d * down e
    den_is' = ap (λ (k : ℕ). down e * k) (omega (arith, N)) ∙ mul_comm (down e) (n * up d)

    over : ltb 0 (n * up d) ≡ true
    over = is_true (ltb 0 (n * up d)) (lt→ltb 0 (n * up d) N)

    under : ltb (n * up d) 0 ≡ false
    under = lt→nltb (n * up d) 0 (omega arith)

    go : (s t : Bool) → round f (unlike s t) (m * up e * down d) (n * up d * down e) ≡ rounded f (unlike s t) (value (fin s m e) ⊘ value (fin t n d))
    go false false = nonneg_is f (value (fin false m e) ⊘ value (fin false n d)) (m * up e * down d) (n * up d * down e) (rw over (omega arith)) (rw over (omega arith)) den_is
    go true false = nonpos_is f (value (fin true m e) ⊘ value (fin false n d)) (m * up e * down d) (n * up d * down e) (rw over (omega arith)) (rw over (omega arith)) den_is
    go false true = nonpos_is f (value (fin false m e) ⊘ value (fin true n d)) (m * up e * down d) (n * up d * down e) (rw under (omega arith)) (rw under (omega arith)) den_is'
    go true true = nonneg_is f (value (fin true m e) ⊘ value (fin true n d)) (m * up e * down d) (n * up d * down e) (rw under (omega arith)) (rw under (omega arith)) den_is'

-- ---- what a float above or below a rounded number says of the number
pub at_most : (f : Format) (z : Bool) (u : Float) (q : Fraction) → T (finite u) → T (fits f u) → T (not (le u (rounded f z q))) → q ≼ value u
at_most f z u q p h k = elim (≼-or-≻ q (value u)) [
  | inl l ↦ l
  | inr l ↦ absurd (T_not (le u (rounded f z q)) k (le_trans u (rounded f false (value u)) (rounded f z q) (held f false u p h).0 (rounded_mono f false z (value u) q (≺→≼ l))))
]

pub at_least : (f : Format) (z : Bool) (u : Float) (q : Fraction) → T (finite u) → T (fits f u) → T (not (le (rounded f z q) u)) → value u ≼ q
at_least f z u q p h k = elim (≼-or-≻ (value u) q) [
  | inl l ↦ l
  | inr l ↦ absurd (T_not (le (rounded f z q) u) k (le_trans (rounded f z q) (rounded f false (value u)) u (rounded_mono f z false q (value u) (≺→≼ l)) (held f false u p h).1))
]
