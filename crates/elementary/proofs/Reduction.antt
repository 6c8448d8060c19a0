-- The reduction of ln: v = m × 2^e with 0.75 ≤ m < 1.5, from a significand of 53 digits and its exponent.
use Rattle.std.proofs.Common.{◌≡◌, ℕ, suc, ◌+◌, ◌-◌, ◌*◌, ◌^◌, ◌<◌, ◌≤◌, Bool, true, false, cond, not, T, ltb, ℤ, pos, negsuc, neg_ℤ, sym, ap, ◌∙◌, subst, le_of_eq, mul-le-mul_right, lt_of_mul-lt-mul_right, mul-lt-mul_of_pos_right, mul-pos, one-mul, mul-one, arith, ltb→lt, nltb→le, pow_pos, pow-add}
use mathlib.Core.Option.{some}
use lib.IntN.{suc_ℤ, sub_ℕ}
use lib.Ieee.{Float, binary64, fin, up, down, of_bits, fits}
use lib.Ieee.Bits.{of_bits-fits}
use lib.Ieee.Fits.{down_pos}
use lib.Ieee.Exact.{HasValue}
use Rattle.arithmetic.specs.Fraction.{Fraction, ◌≼◌, ◌≺◌, ◌⊗◌}
use Rattle.arithmetic.specs.Value.{value, signed}
use Rattle.arithmetic.specs.Cases.{binade, exponent_of}
use Rattle.arithmetic.specs.Doubles.{scaled}
use Rattle.arithmetic.proofs.Fraction.{≼_trans, ≺-≼-trans, ≼-≺-trans, ⊗-mono, ⊗-swap}
use Rattle.arithmetic.proofs.Value.{value_is}
use Rattle.arithmetic.proofs.Cases.{double, exponent_is}
use Rattle.arithmetic.proofs.Rounding.{mul_is}
use Rattle.arithmetic.proofs.Exact.{normal_value, rescale, has_value_finite, rounded_exact, up_neg, down_neg}

-- x is sig / 2^c in units of 2^e, where e = exp - (1126 - c)
module _ (x : Float) (sig exp c : ℕ) (e : ℤ) (v : HasValue x false (sig * 2 ^ exp) (2 ^ 1126)) (E : up e * 2 ^ 1126 ≡ 2 ^ exp * 2 ^ c * down e) where
  X : Fraction
  X = signed false (sig * 2 ^ exp) (2 ^ 1126) (pow_pos 1126)

  -- 0.75 × 2^e ≤ x < 1.5 × 2^e
  pub in_binade : 3 * 2 ^ c ≤ 4 * sig → 2 * sig < 3 * 2 ^ c → exponent_of (value x) ≡ some e
  unfolding X
  in_binade l h = exponent_is (value x) e (record { low = ≼_trans low w.1; high = ≼-≺-trans w.0 high })
    where
      w : (value x ≼ X) × (X ≼ value x)
      w = value_is x false (sig * 2 ^ exp) (2 ^ 1126) (pow_pos 1126) v

      lower : (u d p q t : ℕ) → u * t ≡ p * q * d → 3 * q ≤ 4 * sig → 3 * u * t + 0 * (4 * d) ≤ sig * p * (4 * d) + 0 * t
      lower u d p q t f k = omega (arith, f, mul-le-mul_right (p * d) k)

      upper : (u d u' d' p q t : ℕ) → 0 < p → 0 < d → 0 < d' → u' * d ≡ 2 * u * d' → u * t ≡ p * q * d → 2 * sig < 3 * q → sig * p * (4 * d') + 0 * t < 3 * u' * t + 0 * (4 * d')
      upper u d u' d' p q t P D D' g f k =
          lt_of_mul-lt-mul_right d (omega (arith, mul-lt-mul_of_pos_right k (mul-pos (mul-pos P D) D'), ap (λ (z : ℕ). z * t) g, ap (λ (z : ℕ). z * d') f))

      low : binade e ≼ X
      low = record { cross = lower (up e) (down e) (2 ^ exp) (2 ^ c) (2 ^ 1126) E l }

      high : X ≺ binade (suc_ℤ e)
      high = record { cross = upper (up e) (down e) (up (suc_ℤ e)) (down (suc_ℤ e)) (2 ^ exp) (2 ^ c) (2 ^ 1126) (pow_pos exp) (down_pos e) (down_pos (suc_ℤ e)) (double e) E h }

  -- m = x × 2^-e, exactly
  pub exactly : (m : Float) → HasValue m false sig (2 ^ c) → (value m ≼ value x ⊗ value (fin false 1 (neg_ℤ e))) × (value x ⊗ value (fin false 1 (neg_ℤ e)) ≼ value m)
  unfolding X
  exactly m w =
      let a = value_is x false (sig * 2 ^ exp) (2 ^ 1126) (pow_pos 1126) v in
      let b = value_is m false sig (2 ^ c) (pow_pos c) w in
      (≼_trans b.0 (≼_trans (record { cross = le_of_eq is }) (times_mono a.1)), ≼_trans (times_mono a.0) (≼_trans (record { cross = le_of_eq (sym is) }) b.1))
    where
      Y : Fraction
      Y = value (fin false 1 (neg_ℤ e))

      times_mono : {y z : Fraction} → y ≼ z → y ⊗ Y ≼ z ⊗ Y
      times_mono {y} {z} h = ≼_trans (⊗-swap y Y) (≼_trans (⊗-mono (omega arith) h) (⊗-swap Y z))

      same : (u d p q t : ℕ) → u * t ≡ p * q * d → sig * (t * u) + (sig * p * 0 + 0 * (1 * d)) * q ≡ (sig * p * (1 * d) + 0 * 0) * q + 0 * (t * u)
      same u d p q t h = omega (arith, ap (λ (z : ℕ). sig * z) h)

      is : sig * (2 ^ 1126 * down (neg_ℤ e)) + (sig * 2 ^ exp * 0 + 0 * (1 * up (neg_ℤ e))) * 2 ^ c ≡ (sig * 2 ^ exp * (1 * up (neg_ℤ e)) + 0 * 0) * 2 ^ c + 0 * (2 ^ 1126 * down (neg_ℤ e))
      is = rw (up_neg e, down_neg e) (same (up e) (down e) (2 ^ exp) (2 ^ c) (2 ^ 1126) E)

  pub reduced : (m : Float) → T (fits binary64 m) → 0 < sig → HasValue m false sig (2 ^ c) → scaled x (neg_ℤ e) ≡ m
  reduced m f s w =
      let p = has_value_finite x false (sig * 2 ^ exp) (2 ^ 1126) v in
      let b = value_is m false sig (2 ^ c) (pow_pos c) w in
      mul_is binary64 x (fin false 1 (neg_ℤ e)) p tt
      ∙ rounded_exact _ (value x ⊗ value (fin false 1 (neg_ℤ e))) m f (has_value_finite m false sig (2 ^ c) w) (≺-≼-trans (record { cross = positive }) b.1) (exactly m w).0 (exactly m w).1
    where
      positive : 0 * 2 ^ c + 0 * 1 < sig * 1 + 0 * 2 ^ c
      positive = omega arith

-- ---- 2^(a - l)
sub_power : (a l : ℕ) → up (sub_ℕ a l) * 2 ^ l ≡ 2 ^ a * down (sub_ℕ a l)
sub_power a l = go (ltb a l) (ltb→lt a l) (nltb→le a l)
  where
    go : (t : Bool) → (T t → a < l) → (T (not t) → l ≤ a) → up (cond t (negsuc (l - suc a)) (pos (a - l))) * 2 ^ l ≡ 2 ^ a * down (cond t (negsuc (l - suc a)) (pos (a - l)))
    go true h k =
        let e : a + suc (l - suc a) ≡ l = omega (arith, h tt) in
        one-mul (2 ^ l) ∙ ap (λ (x : ℕ). 2 ^ x) (sym e) ∙ pow-add 2 a (suc (l - suc a))
    go false h k =
        let e : a - l + l ≡ a = omega (arith, k tt) in
        sym (pow-add 2 (a - l) l) ∙ ap (λ (x : ℕ). 2 ^ x) e ∙ sym (mul-one (2 ^ a))

exponent_power : (exp k c : ℕ) → c + k ≡ 1126 → up (sub_ℕ exp k) * 2 ^ 1126 ≡ 2 ^ exp * 2 ^ c * down (sub_ℕ exp k)
exponent_power exp k c e = ap (λ (x : ℕ). up (sub_ℕ exp k) * 2 ^ x) (sym e) ∙ ap (λ (x : ℕ). up (sub_ℕ exp k) * x) (pow-add 2 c k) ∙ go (up (sub_ℕ exp k)) (down (sub_ℕ exp k)) (2 ^ c) (2 ^ k) (2 ^ exp) (sub_power exp k)
  where
    go : (u d q r p : ℕ) → u * r ≡ p * d → u * (q * r) ≡ p * q * d
    go u d q r p h = omega (arith, ap (λ (x : ℕ). x * q) h)

-- sig / 2^c, as a pattern
mantissa_value : (sig g c : ℕ) → 2 ^ 52 ≤ sig → sig < 2 ^ 53 → g < 2046 → c + g ≡ 1074 → HasValue (of_bits binary64 (sig + g * 2 ^ 52)) false sig (2 ^ c)
mantissa_value sig g c lo hi h e =
    let t = sig - 2 ^ 52 in
    let n : suc g * 2 ^ 52 + t ≡ sig + g * 2 ^ 52 = omega arith in
    let m : 2 ^ 52 + t ≡ sig = omega arith in
    let v = normal_value g t (omega arith) (omega arith) in
    rescale (of_bits binary64 (sig + g * 2 ^ 52)) false (sig * 2 ^ g) (2 ^ 1074) sig (2 ^ c) (pow_pos 1074)
    (ap (λ (x : ℕ). sig * 2 ^ x) (sym e) ∙ ap (λ (x : ℕ). sig * x) (pow-add 2 c g) ∙ go sig (2 ^ c) (2 ^ g))
    (subst (λ (x : ℕ). HasValue (of_bits binary64 x) false (sig * 2 ^ g) (2 ^ 1074)) n (subst (λ (x : ℕ). HasValue (of_bits binary64 (suc g * 2 ^ 52 + t)) false (x * 2 ^ g) (2 ^ 1074)) m v))
  where
    go : (s q r : ℕ) → s * (q * r) ≡ s * r * q
    go s q r = omega arith

-- the m and the e of a positive double b, for its significand sig and exponent exp: c places below the point, and k the rest of 1126
pub split_at : (b sig exp g c k : ℕ) → 2 ^ 52 ≤ sig → sig < 2 ^ 53 → g < 2046 → c + g ≡ 1074 → c + k ≡ 1126 → 3 * 2 ^ c ≤ 4 * sig → 2 * sig < 3 * 2 ^ c
    → HasValue (of_bits binary64 b) false (sig * 2 ^ exp) (2 ^ 1126)
    → (exponent_of (value (of_bits binary64 b)) ≡ some (sub_ℕ exp k)) × (scaled (of_bits binary64 b) (neg_ℤ (sub_ℕ exp k)) ≡ of_bits binary64 (sig + g * 2 ^ 52))
    × (value (of_bits binary64 (sig + g * 2 ^ 52)) ≼ value (of_bits binary64 b) ⊗ value (fin false 1 (neg_ℤ (sub_ℕ exp k)))) × (value (of_bits binary64 b) ⊗ value (fin false 1 (neg_ℤ (sub_ℕ exp k))) ≼ value (of_bits binary64 (sig + g * 2 ^ 52)))
split_at b sig exp g c k lo hi small G K l h v =
    let x = of_bits binary64 b in
    let e = sub_ℕ exp k in
    let E = exponent_power exp k c K in
    let w = mantissa_value sig g c lo hi small G in
    let m = of_bits binary64 (sig + g * 2 ^ 52) in
    let is = exactly x sig exp c e v E m w in
    (in_binade x sig exp c e v E l h, reduced x sig exp c e v E m (of_bits-fits binary64 (sig + g * 2 ^ 52)) (omega arith) w, is.0, is.1)
