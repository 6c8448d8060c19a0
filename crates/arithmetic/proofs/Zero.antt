-- What comparing a double with zero says of it.
use mathlib.Core.Path.{◌≡◌, refl, sym, ap, ap₂, subst, ◌∙◌}
use mathlib.Core.Logic.{◌≢◌, inl, inr}
use Prim.Native.Nat.{ℕ, zero, suc, ◌+◌, ◌-◌, ◌*◌, ◌/◌, ◌%◌, ◌^◌, ◌≤◌, ◌<◌}
use native.Mathlib.Nat.{mul-pos, zero-mul, zero-lt-suc, eq-zero-or-pos, pow-suc}
use native.Mathlib.Omega.{arith}
use mathlib.Core.Bool.{Bool, true, false, not, ◌||◌, beq, true≢false, false≢true}
use lib.IntN.{ℤ, pos, negsuc}
use lib.Dec.{T, ltb, eqb, ltb→lt, nltb→le, eqb→eq}
use lib.Pow.{pow_pos}
use lib.Ieee.{Float, nan, inf, fin, binary64, up, down, level, lt, eq, of_fields, of_bits, to_bits, fits}
use lib.Ieee.Bits.{of_bits-to_bits, to_bits-lt, of_bits-fits}
use lib.Ieee.Fits.{up_pos, and_l}
use lib.Ieee.Exact.{HasValue}
use lib.Ieee.Scale.{finite}
use Rattle.arithmetic.specs.Fraction.{◌≼◌, ◌≺◌, null}
use Rattle.arithmetic.specs.Value.{value}
use Rattle.arithmetic.specs.Constants.{largest}
use Rattle.arithmetic.proofs.Fraction.{≺-not-≼, ≼_trans, ≺-irrefl}
use Rattle.arithmetic.proofs.Value.{value_is, lt→≺}
use Rattle.arithmetic.proofs.Next.{size_of, read_plus, read_minus, fields_value, below_inf, pattern_finite}

-- ---- equal to zero
unscaled : (e : ℤ) → up e * down e ≡ 1 → e ≡ pos 0
unscaled (pos zero) h = refl
unscaled (pos (suc k)) h = absurd (omega (arith, pow-suc 2 k, pow_pos k))
unscaled (negsuc k) h = absurd (omega (arith, pow-suc 2 k, pow_pos k))

pub is_zero_is : (x : Float) → T (fits binary64 x) → eq x (of_bits binary64 0) ≡ true → (s : Bool) × (x ≡ fin s 0 (pos 0))
unfolding eq of_bits fits
is_zero_is nan h t = absurd (false≢true t)
is_zero_is (inf s) h t = absurd (false≢true t)
is_zero_is (fin s zero e) h t = (s, ap (fin s 0) (unscaled e (eqb→eq (up e * down e) 1 h)))
is_zero_is (fin s (suc m) e) h t =
    let z = eqb→eq (suc m * up e * 1) (0 * down e) (and_l (eqb (suc m * up e * 1) (0 * down e)) (beq s false || eqb (suc m * up e * 1) 0) (subst T (sym t) tt)) in
    absurd (omega (arith, z, mul-pos (zero-lt-suc m) (up_pos e)))

zero_equal : (s : Bool) (e : ℤ) → eq (fin s 0 e) (of_bits binary64 0) ≡ true
unfolding eq of_bits
zero_equal s e = ap₂ (λ (a b : ℕ). level s a false b) (ap (λ (a : ℕ). a * 1) (zero-mul (up e))) (zero-mul (down e)) ∙ go s
  where
    go : (s : Bool) → level s 0 false 0 ≡ true
    go true = refl
    go false = refl

pub not_zero : (s : Bool) (m : ℕ) (e : ℤ) → eq (fin s m e) (of_bits binary64 0) ≡ false → m ≡ 0 → ⊥
not_zero s m e n z = true≢false (sym (zero_equal s e) ∙ ap (λ (k : ℕ). eq (fin s k e) (of_bits binary64 0)) (sym z) ∙ n)

pub nonzero_pattern : (x : Float) → T (fits binary64 x) → eq x (of_bits binary64 0) ≡ false → (to_bits binary64 x ≢ 0) × (to_bits binary64 x ≢ 2 ^ 63)
unfolding eq of_bits
nonzero_pattern x h n = (λ e. no 0 e refl, λ e. no (2 ^ 63) e refl)
  where
    no : (b : ℕ) → to_bits binary64 x ≡ b → eq (of_bits binary64 b) (of_bits binary64 0) ≡ true → ⊥
    no b e t = true≢false (sym t ∙ ap (λ (y : Float). eq y (of_bits binary64 0)) (ap (of_bits binary64) (sym e) ∙ of_bits-to_bits binary64 x h) ∙ n)

-- ---- above zero
pub above_zero : (x : Float) → T (finite x) → lt (of_bits binary64 0) x ≡ true → null ≺ value x
unfolding of_bits
above_zero x p t = omega (arith, lt→≺ (fin false 0 (pos 0)) x tt p (subst T (sym t) tt))

zero_value : value (of_bits binary64 0) ≼ null
unfolding of_bits
zero_value = record { cross = omega arith }

pub minus_value : (x : Float) (a c : ℕ) → 0 < c → HasValue x true a c → value x ≼ null
minus_value x a c C v = ≼_trans (value_is x true a c C v).0 (record { cross = omega arith })

-- the sign is clear, and the pattern is below the infinity's
pub positive_pattern : (x : Float) → T (fits binary64 x) → T (finite x) → null ≺ value x → (0 < to_bits binary64 x) × (to_bits binary64 x < 0x7ff0_0000_0000_0000)
positive_pattern x h p z = go (to_bits binary64 x) (to_bits-lt binary64 x h) (sym (of_bits-to_bits binary64 x h)) (ltb (to_bits binary64 x) (2 ^ 63)) (ltb→lt (to_bits binary64 x) (2 ^ 63)) (nltb→le (to_bits binary64 x) (2 ^ 63))
  where
    some : (b : ℕ) → x ≡ of_bits binary64 b → 0 < b
    some b e = elim (eq-zero-or-pos b) [ inl n ↦ absurd (≺-not-≼ z (subst (λ (y : Float). value y ≼ null) (sym (e ∙ ap (of_bits binary64) n)) zero_value)) | inr l ↦ l ]

    minus : (c : ℕ) → c < 2 ^ 63 → x ≡ of_bits binary64 (2 ^ 63 + c) → value x ≼ null
    minus c l e =
        let r : x ≡ of_fields binary64 true (c / 2 ^ 52) (c % 2 ^ 52) = e ∙ read_minus binary64 c l in
        minus_value x (size_of binary64 c) (2 ^ 1074) (pow_pos 1074) (rw r (fields_value binary64 true (c / 2 ^ 52) (c % 2 ^ 52) (rw r at p)))

    go : (b : ℕ) → b < 2 ^ 64 → x ≡ of_bits binary64 b → (t : Bool) → (T t → b < 2 ^ 63) → (T (not t) → 2 ^ 63 ≤ b) → (0 < b) × (b < 0x7ff0_0000_0000_0000)
    go b B e true l g = (some b e, below_inf binary64 false b (l tt) (subst (λ (y : Float). T (finite y)) (e ∙ read_plus binary64 b (l tt)) p))
    go b B e false l g =
        let s : b ≡ 2 ^ 63 + (b - 2 ^ 63) = omega (arith, g tt) in
        absurd (≺-not-≼ z (minus (b - 2 ^ 63) (omega arith) (e ∙ ap (of_bits binary64) s)))

-- ---- a pattern below the infinity's: zero is +0
plus_sign : (s : Bool) (a c : ℕ) → HasValue (fin s 0 (pos 0)) false a c → fin s 0 (pos 0) ≡ of_bits binary64 0
unfolding of_bits
plus_sign s a c v = ap (λ (b : Bool). fin b 0 (pos 0)) v.0

pub plus_pattern_zero : (c : ℕ) → c < 0x7ff0_0000_0000_0000 → eq (of_bits binary64 c) (of_bits binary64 0) ≡ true → of_bits binary64 c ≡ of_bits binary64 0
plus_pattern_zero c h t =
    let z = is_zero_is (of_bits binary64 c) (of_bits-fits binary64 c) t in
    let r = read_plus binary64 c (omega (arith, h)) in
    let v : HasValue (of_bits binary64 c) false (size_of binary64 c) (2 ^ 1074) = rw r (fields_value binary64 false (c / 2 ^ 52) (c % 2 ^ 52) (rw r at (pattern_finite binary64 c h))) in
    z.1 ∙ plus_sign z.0 (size_of binary64 c) (2 ^ 1074) (subst (λ (y : Float). HasValue y false (size_of binary64 c) (2 ^ 1074)) z.1 v)

-- ---- between zero and the largest double
pub below_largest : (x : Float) → T (fits binary64 x) → T (finite x) → null ≺ value x → lt x largest ≡ true → to_bits binary64 x < 0x7fef_ffff_ffff_ffff
below_largest x h p z t =
    let b : to_bits binary64 x < 0x7ff0_0000_0000_0000 = (positive_pattern x h p z).1 in
    let n : to_bits binary64 x ≢ 0x7fef_ffff_ffff_ffff = λ e. no (sym (of_bits-to_bits binary64 x h) ∙ ap (of_bits binary64) e) in
    omega (arith, b, n)
  where
    no : x ≡ largest → ⊥
    no e = let l : value x ≺ value x = lt→≺ x x p p (subst (λ (y : Float). T (lt x y)) (sym e) (subst T (sym t) tt)) in ≺-irrefl l
