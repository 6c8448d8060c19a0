-- How a root is rounded. 54 binary digits of it, and no more, say which double is the nearest.
use mathlib.Core.Path.{◌≡◌, refl, sym, ap, ap₂, ◌∙◌, subst}
use Prim.Native.Nat.{ℕ, zero, suc, ◌+◌, ◌-◌, ◌*◌, ◌/◌, ◌%◌, ◌^◌, ◌≤◌, ◌<◌, compare, Ordering}
use native.Mathlib.Nat.{mul-div-mul_right, mul_assoc, mul_right_comm, suc-add, zero-add, mod-lt, mul-le-mul_right, mul-lt-mul_of_pos_right, lt_of_mul-lt-mul_right, mul-div_cancel, mul-pos, le_antisymm, le_of_eq, le_of_lt, lt_of_lt_of_le, lt_of_le_of_lt, lt_of_not-le, not-le_of_lt, pow-suc, div-add-mod'}
use native.Mathlib.Omega.{arith}
use mathlib.Core.Bool.{Bool, true, false, not, cond, true≢false}
use lib.Dec.{T, is_le, compare_is_eq, eqb, leb→le, nleb→lt, eqb→eq, not_T}
use lib.IntN.{ℤ}
use lib.Pow.{pow-add, pow_pos, pow_mono, shl_lt}
use lib.Ieee.{Float, nan, inf, fin, binary64, up, down, size, nearest, round, fits, to_bits, of_bits}
use lib.Ieee.Digits.{size-lt, size-le}
use lib.Ieee.Fits.{round-fits, down_pos}
use lib.Ieee.Bits.{cond_no, of_bits-to_bits}
use lib.Ieee.Exact.{HasValue}
use lib.Ieee.Nearest.{closest}
use lib.Ieee.Order.{drop}
use lib.Ieee.Scale.{grid, round_val}
use Rattle.arithmetic.specs.Root.{root, rounded_root, in_fourths, sqrt}
use Rattle.arithmetic.proofs.Significand.{Parts}
use Rattle.arithmetic.proofs.Squares.{IsRoot, root_is, less_of_squares}

-- ---- a / b is within a half of q
closest_is : (a b q : ℕ) → 0 < b → 2 * q * b < 2 * a + b → 2 * a < 2 * q * b + b → closest a b ≡ q
closest_is a b q B lo hi = go (compare (t * 2) b) (leb→le (t * 2) b) (nleb→lt (t * 2) b) (eqb→eq (t * 2) b)
  where
    w : ℕ
    w = a / b

    t : ℕ
    t = a % b

    is : w * b + t ≡ a
    is = div-add-mod' a b

    fits_in : t < b
    fits_in = mod-lt a B

    less : (x y : ℕ) → x * b < y * b → x < y
    less x y h = lt_of_mul-lt-mul_right b h

    go : (o : Ordering) → (T (is_le o) → t * 2 ≤ b) → (T (not (is_le o)) → b < t * 2) → (T (compare_is_eq o) → t * 2 ≡ b) → nearest w o ≡ q
    go Ordering.lt h k e = omega (arith, less q (w + 1) (omega (arith, is, h tt, fits_in)), less (2 * w) (2 * q + 1) (omega (arith, is)))
    go Ordering.eq h k e = absurd (omega (arith, less q (w + 1) (omega (arith, is, h tt, fits_in)), less w q (omega (arith, is, e tt))))
    go Ordering.gt h k e = omega (arith, less w q (omega (arith, is, k tt)), less (2 * q) (2 * w + 3) (omega (arith, is, fits_in)))

-- ---- the root of m lies between two neighbouring odd numbers, so h + 1 is the whole number nearest to its half
pub record Between (h m : ℕ) : Type 0 where
  pub low : (2 * h + 1) * (2 * h + 1) < m
  pub high : m < (2 * h + 3) * (2 * h + 3)

-- an odd number is not the exact root of an even one, so there is no tie
between : (r m : ℕ) → IsRoot r m → m % 2 ≡ 0 → 0 < r → Between ((r - 1) / 2) m
between r m f ev p = go (r % 2) refl
  where
    h : ℕ
    h = (r - 1) / 2

    at : (s : ℕ) → r ≡ s → IsRoot s m
    at s e = subst (λ (z : ℕ). IsRoot z m) e f

    go : (b : ℕ) → r % 2 ≡ b → Between h m
    go zero e = let g = at (2 * h + 2) (omega arith) in record { low = omega (arith, g); high = omega (arith, g) }
    go (suc zero) e = let g = at (2 * h + 1) (omega arith) in record { low = omega (arith, g); high = omega (arith, g) }
    go (suc (suc b)) e = absurd (omega arith)

-- ---- what `rounded_root` hands to `round` for the number m * (p * p) is within 2 * p of 4 * (h + 1) * p
abbrev doubled : ℕ → ℕ
doubled n = 2 * root n + cond (eqb (root n * root n) n) 0 1

module _ (h m p : ℕ) (P : 0 < p) (f : Between h m) where
  abbrev n : ℕ
  n = m * (p * p)

  above : (2 * h + 1) * p * ((2 * h + 1) * p) < n
  above = omega (arith, mul-lt-mul_of_pos_right f.low (mul-pos P P))

  below : n < (2 * h + 3) * p * ((2 * h + 3) * p)
  below = omega (arith, mul-lt-mul_of_pos_right f.high (mul-pos P P))

  near : (4 * (h * p) + 2 * p < doubled n) × (doubled n < 4 * (h * p) + 6 * p) × (doubled n / 2 ≡ root n)
  near = go (root n) (root_is n) (eqb (root n * root n) n) (eqb→eq (root n * root n) n)
    where
      go : (t : ℕ) → IsRoot t n → (b : Bool) → (T b → t * t ≡ n) → (4 * (h * p) + 2 * p < 2 * t + cond b 0 1) × (2 * t + cond b 0 1 < 4 * (h * p) + 6 * p) × ((2 * t + cond b 0 1) / 2 ≡ t)
      go t g true e =
          let l : (2 * h + 1) * p < t = less_of_squares ((2 * h + 1) * p) t (subst (λ (z : ℕ). (2 * h + 1) * p * ((2 * h + 1) * p) < z) (sym (e tt)) above) in
          let k : t < (2 * h + 3) * p = less_of_squares t ((2 * h + 3) * p) (lt_of_le_of_lt g.low below) in
          (omega arith, omega arith, omega arith)
      go t g false e =
          let l : (2 * h + 1) * p < t + 1 = less_of_squares ((2 * h + 1) * p) (t + 1) (lt_of_lt_of_le above (le_of_lt g.high)) in
          let k : t < (2 * h + 3) * p = less_of_squares t ((2 * h + 3) * p) (lt_of_le_of_lt g.low below) in
          (omega arith, omega arith, omega arith)

-- ---- a number's digits
size_is : (n k : ℕ) → 2 ^ k ≤ n → n < 2 ^ suc k → size n ≡ suc k
size_is n k lo hi = le_antisymm (size-le n (suc k) hi) (lt_of_not-le (λ (g : size n ≤ k). not-le_of_lt (lt_of_lt_of_le (size-lt n) (pow_mono g)) lo))

pub root_size : (m j : ℕ) → 2 ^ 106 ≤ m → m < 2 ^ 108 → size (root (m * (2 ^ j * 2 ^ j))) ≡ suc (53 + j)
root_size m j lo hi =
    let p = 2 ^ j in
    let PP : 0 < p * p = mul-pos (pow_pos j) (pow_pos j) in
    let t = root (m * (p * p)) in
    let g : IsRoot t (m * (p * p)) = root_is (m * (p * p)) in
    let a : 2 ^ 53 * p < t + 1 = less_of_squares (2 ^ 53 * p) (t + 1) (omega (arith, g.high, mul-le-mul_right (p * p) lo)) in
    let b : t < 2 ^ 54 * p = less_of_squares t (2 ^ 54 * p) (omega (arith, g.low, mul-lt-mul_of_pos_right hi PP)) in
    size_is t (53 + j) (rw pow-add (omega (arith, a))) (rw (← suc-add 53 j, pow-add) b)

-- ---- rounded to a double: q = h + 1 has 53 digits, and the last one's weight is 2 ^ (j + 1) units
rounded_value : (h m j : ℕ) → Between h m → h < 2 ^ 53 - 1 → 2 ^ 106 ≤ m → m < 2 ^ 108 → j < 2000
    → HasValue (rounded_root (m * (2 ^ j * 2 ^ j))) false ((h + 1) * 2 ^ suc j) (2 ^ 1074)
unfolding rounded_root
rounded_value h m j f few lo hi small =
    let p = 2 ^ j in
    let x = doubled (m * (p * p)) in
    let w = near h m p (pow_pos j) f in
    let d : drop 53 (x * 2 ^ 1074) (2 ^ 1075) ≡ suc j = ap (λ (y : ℕ). size y - 53) (mul-div-mul_right {m = 2 ^ 1074} x 2 (pow_pos 1074) ∙ w.2) ∙ dropped (size (root (m * (p * p)))) (root_size m j lo hi) in
    let c : closest (x * 2 ^ 1074) (2 ^ 1075 * 2 ^ suc j) ≡ h + 1 = rw (pow-suc 2 j) (by (2 ^ 1074) p x (2 ^ 1075) refl (pow_pos 1074) (pow_pos j) w.0 w.1) in
    let g : grid binary64 x (2 ^ 1075) ≡ (h + 1) * 2 ^ suc j = ap (λ (y : ℕ). closest (x * 2 ^ 1074) (2 ^ 1075 * 2 ^ y) * 2 ^ y) d ∙ ap (λ (y : ℕ). y * 2 ^ suc j) c in
    let under : grid binary64 x (2 ^ 1075) < 2 ^ 2098 = lt_of_le_of_lt (le_of_eq g) (lt_of_lt_of_le (shl_lt 53 (suc j) (omega (arith, few))) (pow_mono (room j small))) in
    subst (λ (y : ℕ). HasValue (round binary64 false x (2 ^ 1075)) false y (2 ^ 1074)) g (round_val binary64 x (2 ^ 1075) under)
  where
    dropped : (z : ℕ) → z ≡ suc (53 + j) → z - 53 ≡ suc j
    dropped z e = omega arith

    room : (j : ℕ) → j < 2000 → 53 + suc j ≤ 2098
    room j s = omega arith

    by : (u p x v : ℕ) → v ≡ u * 2 → 0 < u → 0 < p → 4 * (h * p) + 2 * p < x → x < 4 * (h * p) + 6 * p → closest (x * u) (v * (p * 2)) ≡ h + 1
    by u p x v e U P a b = rw e (closest_is (x * u) (u * 2 * (p * 2)) (h + 1) (omega (arith, mul-pos U P)) (omega (arith, mul-lt-mul_of_pos_right a U)) (omega (arith, mul-lt-mul_of_pos_right b U)))

-- ---- a positive double's pattern, by its significand and exponent
pattern_is : (x : Float) (q k : ℕ) → T (fits binary64 x) → HasValue x false (q * 2 ^ k) (2 ^ 1074) → 2 ^ 52 ≤ q → q < 2 ^ 53 → of_bits binary64 (k * 2 ^ 52 + q) ≡ x
unfolding to_bits
pattern_is x q k t v lo hi = ap (of_bits binary64) (sym (written x v)) ∙ of_bits-to_bits binary64 x t
  where
    digits : size (q * 2 ^ k) ≡ suc (52 + k)
    digits = size_is (q * 2 ^ k) (52 + k) (rw pow-add (mul-le-mul_right (2 ^ k) lo)) (subst (λ (z : ℕ). q * 2 ^ k < 2 ^ z) (suc-add 52 k) (shl_lt 53 k hi))

    dropped : (z : ℕ) → z ≡ suc (52 + k) → z - 53 ≡ k
    dropped z e = omega arith

    written : (x : Float) → HasValue x false (q * 2 ^ k) (2 ^ 1074) → to_bits binary64 x ≡ k * 2 ^ 52 + q
    written nan v = absurd v
    written (inf s) v = absurd v
    written (fin s m e) v =
        ap (λ (n : ℕ). cond s (2 ^ 63) 0 + (size n - 53) * 2 ^ 52 + n / 2 ^ (size n - 53)) (ap (λ (z : ℕ). z / down e) v.1 ∙ mul-div_cancel (q * 2 ^ k) (down_pos e))
        ∙ ap (λ (z : ℕ). cond s (2 ^ 63) 0 + z * 2 ^ 52 + q * 2 ^ k / 2 ^ z) (dropped (size (q * 2 ^ k)) digits)
        ∙ ap (λ (z : ℕ). cond s (2 ^ 63) 0 + k * 2 ^ 52 + z) (mul-div_cancel q (pow_pos k))
        ∙ ap (λ (b : Bool). cond b (2 ^ 63) 0 + k * 2 ^ 52 + q) v.0
        ∙ ap (λ (z : ℕ). z + q) (zero-add (k * 2 ^ 52))

rounded_fits : (n : ℕ) → T (fits binary64 (rounded_root n))
unfolding rounded_root
rounded_fits n = round-fits binary64 false (doubled n) (2 ^ 1075)

-- ---- the root of a positive double, by its value
-- a units of 2 ^ -1126, in units of 4 ^ -1074
pub in_fourths_is : (m a : ℕ) (e : ℤ) → m * up e * 2 ^ 1126 ≡ a * down e → in_fourths m e ≡ a * 2 ^ 1022
in_fourths_is m a e v =
    ap (λ (z : ℕ). z / down e) (sym (mul_assoc (m * up e) (2 ^ 1126) (2 ^ 1022)) ∙ ap (λ (z : ℕ). z * 2 ^ 1022) v ∙ mul_right_comm a (down e) (2 ^ 1022))
    ∙ mul-div_cancel (a * 2 ^ 1022) (down_pos e)

sqrt_by_value : (x : Float) (a : ℕ) → 0 < a → HasValue x false a (2 ^ 1126) → sqrt x ≡ rounded_root (a * 2 ^ 1022)
unfolding sqrt
sqrt_by_value nan a p v = absurd v
sqrt_by_value (inf s) a p v = absurd v
sqrt_by_value (fin true m e) a p v = absurd (true≢false v.0)
sqrt_by_value (fin false m e) a p v =
    cond_no (eqb m 0) (fin false m e) (rounded_root (in_fourths m e)) (not_T (eqb m 0) (λ t. none m (up e) (2 ^ 1126) (a * down e) (mul-pos p (down_pos e)) (eqb→eq m 0 t) v.1))
    ∙ ap rounded_root (in_fourths_is m a e v.1)
  where
    none : (m u w d : ℕ) → 0 < d → m ≡ 0 → m * u * w ≡ d → ⊥
    none m u w d h z e = omega (arith, ap (λ (x : ℕ). x * u * w) z)

-- ---- the root of sig * 2 ^ exp units of 2 ^ -1126
-- An odd exponent leaves a factor of two to the significand. With 54 zeros behind it that is a number of 107 or 108 digits, whose root has 54.
abbrev pub radicand : ℕ → ℕ → ℕ
radicand sig exp = sig * 2 ^ (exp % 2) * 2 ^ 54

-- in units of 4 ^ -1074, which `rounded_root` counts in, it is the radicand times a square
pub in_squares : (sig exp : ℕ) → sig * 2 ^ exp * 2 ^ 1022 ≡ radicand sig exp * (2 ^ (exp / 2 + 484) * 2 ^ (exp / 2 + 484))
in_squares sig exp =
    let o = exp % 2 in
    let j = exp / 2 + 484 in
    let k : exp + 1022 ≡ o + 54 + (j + j) = omega arith in
    let e : 2 ^ exp * 2 ^ 1022 ≡ 2 ^ o * 2 ^ 54 * (2 ^ j * 2 ^ j) = sym (pow-add 2 exp 1022) ∙ ap (λ (z : ℕ). 2 ^ z) k ∙ pow-add 2 (o + 54) (j + j) ∙ ap₂ ◌*◌ (pow-add 2 o 54) (pow-add 2 j j) in
    mul_assoc sig (2 ^ exp) (2 ^ 1022) ∙ ap (λ (z : ℕ). sig * z) e ∙ omega arith

-- the significand, doubled where the exponent is odd
pub shifted_range : (sig o : ℕ) → 2 ^ 52 ≤ sig → sig < 2 ^ 53 → o < 2 → (2 ^ 52 ≤ sig * 2 ^ o) × (sig * 2 ^ o + 1 < 2 ^ 54)
shifted_range sig zero lo hi h = (omega arith, omega arith)
shifted_range sig (suc zero) lo hi h = (omega arith, omega arith)
shifted_range sig (suc (suc o)) lo hi h = absurd (omega arith)

module _ (b sig exp : ℕ) (c : Parts b sig exp) (r : ℕ) (f : IsRoot r (radicand sig exp)) where
  pub range : (2 ^ 53 ≤ r) × (r + 1 < 2 ^ 54)
  range =
      let s = shifted_range sig (exp % 2) c.0.0 c.0.1 (omega arith) in
      let l : 2 ^ 53 < r + 1 = less_of_squares (2 ^ 53) (r + 1) (omega (arith, f.high, s.0)) in
      let k : r < 2 ^ 54 - 1 = less_of_squares r (2 ^ 54 - 1) (omega (arith, f.low, s.1)) in
      (omega (arith, l), omega (arith, k))

  pub halved : Between ((r - 1) / 2) (radicand sig exp)
  halved = between r (radicand sig exp) f (omega arith) (omega (arith, range.0))

  is_rounded : sqrt (of_bits binary64 b) ≡ rounded_root (radicand sig exp * (2 ^ (exp / 2 + 484) * 2 ^ (exp / 2 + 484)))
  is_rounded = sqrt_by_value (of_bits binary64 b) (sig * 2 ^ exp) (mul-pos (omega (arith, c.0)) (pow_pos exp)) c.1 ∙ ap rounded_root (in_squares sig exp)

  pub root_fits : T (fits binary64 (sqrt (of_bits binary64 b)))
  root_fits = rw is_rounded (rounded_fits _)

  pub root_value : HasValue (sqrt (of_bits binary64 b)) false (((r - 1) / 2 + 1) * 2 ^ suc (exp / 2 + 484)) (2 ^ 1074)
  root_value =
      let s = shifted_range sig (exp % 2) c.0.0 c.0.1 (omega arith) in
      rw is_rounded (rounded_value ((r - 1) / 2) (radicand sig exp) (exp / 2 + 484) halved (omega (arith, range.1)) (omega (arith, s.0)) (omega (arith, s.1)) (omega (arith, c.0.2)))

  pub root_pattern : ((exp / 2 + 485) * 2 ^ 52 + (r + 1) / 2 < 0x7ff0_0000_0000_0000) × (of_bits binary64 ((exp / 2 + 485) * 2 ^ 52 + (r + 1) / 2) ≡ sqrt (of_bits binary64 b))
  root_pattern =
      let e : (r + 1) / 2 ≡ (r - 1) / 2 + 1 = omega (arith, range.0) in
      let e' : exp / 2 + 485 ≡ suc (exp / 2 + 484) = omega arith in
      (omega (arith, range.1, c.0.2), rw (e, e') (pattern_is (sqrt (of_bits binary64 b)) ((r - 1) / 2 + 1) (suc (exp / 2 + 484)) root_fits root_value (omega (arith, range.0)) (omega (arith, range.1))))
