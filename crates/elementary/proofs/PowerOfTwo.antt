-- The double of 2^k, by its bit pattern.
use Rattle.std.proofs.Common.{◌≡◌, ℕ, suc, ◌+◌, ◌-◌, ◌*◌, ◌^◌, ◌<◌, ◌≤◌, Bool, true, false, cond, not, T, ltb, leb, ℤ, pos, negsuc, ◌+ℤ◌, sym, refl, ap, ◌∙◌, subst, le_of_eq, lt_of_lt_of_le, lt_of_le_of_lt, mod-eq_of_lt, mul-le-mul_left, one-mul, mul-one, arith, lit<, le→leb, lt→ltb, leb→le, pow_pos, pow_mono, pow-add, le-ltb}
use native.Mathlib.Nat.{pow-succ'}
use lib.Pow.{pow-lt}
use lib.Ieee.{fin, binary64, up, down, of_bits, nan_bits, fits}
use lib.Ieee.Bits.{nan_bits_above, of_bits-fits}
use lib.Ieee.Fits.{and_i}
use lib.Ieee.Exact.{HasValue}
use Rattle.arithmetic.proofs.Exact.{same_value, normal_value}
use Rattle.elementary.specs.Exponents.{Normal}

pub not_nan_bits : (b : ℕ) → b < 0x7ff0_0000_0000_0000 → T (not (nan_bits binary64 b))
not_nan_bits b h =
    let small : b < 2 ^ 63 = omega arith in
    let l : b ≤ 0x7ff0_0000_0000_0000 = omega arith in
    subst (λ (x : Bool). T (not x)) (sym (nan_bits_above binary64 b ∙ ap (λ (x : ℕ). ltb 0x7ff0_0000_0000_0000 x) (mod-eq_of_lt small) ∙ le-ltb 0x7ff0_0000_0000_0000 b l)) tt

-- the exponent's field of 2^k: k with the bias
pub record Biased (k : ℤ) : Type 0 where
  pub field : ℕ
  pub sum : k +ℤ pos 1023 ≡ pos field
  pub low : 0 < field
  pub high : field < 2047
  pub power : up k * 2 ^ 1023 ≡ 2 ^ field * down k

pub biased : (k : ℤ) → Normal k → Biased k
biased (pos n) h =
    let l : n ≤ 1023 = leb→le n 1023 h.1 in
    record { field = n + 1023; sum = refl; low = omega arith; high = omega arith; power = sym (pow-add 2 n 1023) ∙ sym (mul-one (2 ^ (n + 1023))) }
biased (negsuc n) h =
    let l : n ≤ 1021 = leb→le n 1021 h.0 in
    let s : suc n ≤ 1023 = omega arith in
    let e : 1023 - suc n + suc n ≡ 1023 = omega arith in
    record {
      field = 1023 - suc n;
      sum = ap (λ (t : Bool). cond t (negsuc (suc n - 1024)) (pos (1023 - suc n))) (le-ltb 1023 (suc n) s);
      low = omega arith;
      high = omega arith;
      power = one-mul (2 ^ 1023) ∙ ap (λ (x : ℕ). 2 ^ x) (sym e) ∙ pow-add 2 (1023 - suc n) (suc n);
    }

-- 2^k is a double
power_fits : (k : ℤ) → Normal k → T (fits binary64 (fin false 1 k))
unfolding fits
power_fits (pos n) h =
    let l : n ≤ 1023 = leb→le n 1023 h.1 in
    and_i true (ltb (1 * 2 ^ n) (2 ^ 1024 * 1)) tt (lt→ltb (1 * 2 ^ n) (2 ^ 1024 * 1) (lt_of_le_of_lt (le_of_eq (one-mul (2 ^ n))) (lt_of_lt_of_le (pow-lt (let z : n < 1024 = omega arith in z)) (le_of_eq (sym (mul-one (2 ^ 1024)))))))
power_fits (negsuc n) h =
    let l : n ≤ 1021 = leb→le n 1021 h.0 in
    and_i (leb (2 ^ suc n) (2 ^ 1074)) (ltb 1 (2 ^ 1024 * 2 ^ suc n)) (le→leb (2 ^ suc n) (2 ^ 1074) (pow_mono (let z : suc n ≤ 1074 = omega arith in z)))
    (lt→ltb 1 (2 ^ 1024 * 2 ^ suc n) (lt_of_lt_of_le (lit< tt) (mul-le-mul_left (2 ^ 1024) (pow_pos (suc n)))))

pub field_is : (k : ℤ) → Normal k → (b : Biased k) → of_bits binary64 (b.field * 0x10_0000_0000_0000) ≡ fin false 1 k
field_is k h b = same_value (of_bits binary64 (b.field * 2 ^ 52)) (fin false 1 k) false ((2 ^ 52 + 0) * 2 ^ j) (2 ^ 1074) (pow_pos 1074) (of_bits-fits binary64 (b.field * 2 ^ 52)) (power_fits k h) pattern (refl, number (up k) (down k) (2 ^ 1023) b.power)
  where
    j : ℕ
    j = b.field - 1

    pattern : HasValue (of_bits binary64 (b.field * 2 ^ 52)) false ((2 ^ 52 + 0) * 2 ^ j) (2 ^ 1074)
    pattern =
        let e : b.field * 2 ^ 52 ≡ suc j * 2 ^ 52 + 0 = omega (arith, b.low) in
        rw e (normal_value j 0 (omega (arith, b.low, b.high)) (lit< tt))

    two_to : 2 ^ b.field ≡ 2 * 2 ^ j
    two_to = ap (λ (x : ℕ). 2 ^ x) (omega (arith, b.low)) ∙ pow-succ' 2 j

    number : (u d p : ℕ) → u * p ≡ 2 ^ b.field * d → 1 * u * (p * 2 ^ 51) ≡ (2 ^ 52 + 0) * 2 ^ j * d
    number u d p e = omega (arith, e, ap (λ (x : ℕ). x * d) two_to)
