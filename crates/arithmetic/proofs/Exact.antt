-- Where a double is the number meant: doubles told by their values, numbers that are rounded to themselves, whole numbers and powers of two.
use Prim.Native.Nat.{ℕ, zero, suc, ◌+◌, ◌-◌, ◌*◌, ◌/◌, ◌^◌, ◌<◌}
use native.Mathlib.Nat.{mul_right_comm, eq_of_mul-eq-mul_right}
use native.Mathlib.Omega.{arith}
use mathlib.Core.Path.{◌≡◌, refl, sym, ap, subst, ◌∙◌}
use mathlib.Core.Bool.{Bool, true, false, cond}
use borrow.Author.Tests.{ne_eqb}
use lib.Arith.{digits_div, digits_mod}
use lib.IntN.{ℤ, pos, negsuc, neg_ℤ}
use lib.Dec.{T, ltb, leb→le, ltb→lt}
use lib.Ieee.{Float, nan, inf, fin, binary64, fits, le, up, down, size, hid, top, to_bits, of_bits, of_int, of_fields, odd, round, in_float, add, mul}
use lib.Ieee.Fits.{down_pos, round-fits, cond-fits}
use lib.Ieee.Bits.{of_bits-to_bits}
use lib.Ieee.Nearest.{div_same}
use lib.Ieee.Exact.{HasValue, odd_sign}
use lib.Ieee.Back.{round_whole}
use lib.Ieee.Scale.{finite}
use Rattle.arithmetic.specs.Fraction.{Fraction, ◌≼◌, ◌≺◌, null, whole, ◌⊕◌, ◌⊗◌}
use Rattle.arithmetic.specs.Value.{value}
use Rattle.arithmetic.specs.Rounding.{rounded}
use Rattle.arithmetic.proofs.Fraction.{≼_refl, ≼_trans, ≺-≼-trans, ⊕-mono, ⊗-mono, ⊗-swap}
use Rattle.arithmetic.proofs.Value.{le→≼, le_trans, finite_between, value_is}
use Rattle.arithmetic.proofs.Rounding.{rounded_mono, held, add_is, mul_is}
use Rattle.arithmetic.proofs.Next.{read_plus}

-- ---- two doubles of one sign and value are one
module _ (s : Bool) (m : ℕ) (e : ℤ) (n : ℕ) (d : ℤ) (f : T (fits binary64 (fin s m e))) (g : T (fits binary64 (fin s n d))) (h : m * up e * down d ≡ n * up d * down e) where
  whole_part : m * up e * 2 ^ 1074 / down e ≡ n * up d * 2 ^ 1074 / down d
  whole_part = div_same (m * up e * 2 ^ 1074) (down e) (n * up d * 2 ^ 1074) (down d) (down_pos e) (down_pos d) (mul_right_comm (m * up e) (2 ^ 1074) (down d) ∙ ap (λ (z : ℕ). z * 2 ^ 1074) h ∙ mul_right_comm (n * up d) (down e) (2 ^ 1074))

  one_pattern : to_bits binary64 (fin s m e) ≡ to_bits binary64 (fin s n d)
  unfolding to_bits
  one_pattern = ap (λ (z : ℕ). cond s (top binary64) 0 + (size z - 53) * hid binary64 + z / 2 ^ (size z - 53)) whole_part

  pub unique : fin s m e ≡ fin s n d
  unique = sym (of_bits-to_bits binary64 (fin s m e) f) ∙ ap (of_bits binary64) one_pattern ∙ of_bits-to_bits binary64 (fin s n d) g

pub same_value : (x y : Float) (s : Bool) (a c : ℕ) → 0 < c → T (fits binary64 x) → T (fits binary64 y) → HasValue x s a c → HasValue y s a c → x ≡ y
same_value nan y s a c C f g v w = absurd v
same_value (inf t) y s a c C f g v w = absurd v
same_value (fin t m e) nan s a c C f g v w = absurd w
same_value (fin t m e) (inf r) s a c C f g v w = absurd w
same_value (fin t m e) (fin r n d) s a c C f g v w =
    let z : r ≡ t = w.0 ∙ sym v.0 in
    let h : m * up e * down d ≡ n * up d * down e = cross (m * up e) (n * up d) (down e) (down d) v.1 w.1 in
    unique t m e n d f (subst (λ (b : Bool). T (fits binary64 (fin b n d))) z g) h ∙ ap (λ (b : Bool). fin b n d) (sym z)
  where
    cross : (x y d g : ℕ) → x * c ≡ a * d → y * c ≡ a * g → x * g ≡ y * d
    cross x y d g h k = eq_of_mul-eq-mul_right c C (x * g) (y * d) (mul_right_comm x g c ∙ ap (λ (z : ℕ). z * g) h ∙ mul_right_comm a d g ∙ ap (λ (z : ℕ). z * d) (sym k) ∙ mul_right_comm y c d)

-- a / c is b / d
pub rescale : (x : Float) (s : Bool) (a c b d : ℕ) → 0 < c → b * c ≡ a * d → HasValue x s a c → HasValue x s b d
rescale nan s a c b d C h v = v
rescale (inf t) s a c b d C h v = v
rescale (fin t m e) s a c b d C h v = (
  v.0,
  eq_of_mul-eq-mul_right c C (m * up e * d) (b * down e)
      (mul_right_comm (m * up e) d c ∙ ap (λ (x : ℕ). x * d) v.1 ∙ mul_right_comm a (down e) d ∙ ap (λ (x : ℕ). x * down e) (sym h) ∙ mul_right_comm b c (down e)),
)

-- above zero the value tells the sign too
pub one_of_value : (x y : Float) → T (fits binary64 x) → T (fits binary64 y) → T (finite x) → T (finite y) → null ≺ value y → value y ≼ value x → value x ≼ value y → x ≡ y
one_of_value nan y f g p q z h i = absurd p
one_of_value (inf s) y f g p q z h i = absurd p
one_of_value (fin s m e) nan f g p q z h i = absurd q
one_of_value (fin s m e) (inf t) f g p q z h i = absurd q
one_of_value (fin s m e) (fin true n d) f g p q z h i = absurd (omega (arith, z))
one_of_value (fin true m e) (fin false n d) f g p q z h i = absurd (omega (arith, ≺-≼-trans z h))
one_of_value (fin false m e) (fin false n d) f g p q z h i = unique false m e n d f g (omega (arith, h, i))

-- ---- what is rounded is a double, and a double above zero is rounded to itself
pub zero_fits : (z : Bool) → T (fits binary64 (fin z 0 (pos 0)))
unfolding fits
zero_fits z = tt

pub rounded_fits : (z : Bool) (q : Fraction) → T (fits binary64 (rounded binary64 z q))
unfolding rounded
rounded_fits z q =
    cond-fits binary64 (ltb q.plus q.minus) _ _ (round-fits binary64 true (q.minus - q.plus) q.den)
    (cond-fits binary64 (ltb q.minus q.plus) _ _ (round-fits binary64 false (q.plus - q.minus) q.den) (zero_fits z))

pub rounded_exact : (z : Bool) (q : Fraction) (y : Float) → T (fits binary64 y) → T (finite y) → null ≺ value y → value y ≼ q → q ≼ value y → rounded binary64 z q ≡ y
rounded_exact z q y f p o h i =
    let r = rounded binary64 z q in
    let a : T (le y r) = le_trans y (rounded binary64 false (value y)) r (held binary64 false y p f).0 (rounded_mono binary64 false z (value y) q h) in
    let b : T (le r y) = le_trans r (rounded binary64 false (value y)) y (rounded_mono binary64 z false q (value y) i) (held binary64 false y p f).1 in
    let R : T (finite r) = finite_between y r y p p a b in
    one_of_value r y (rounded_fits z q) f R p o (le→≼ y r p R a) (le→≼ r y R p b)

-- ---- sums and products keep the order
pub add_mono : (x y c : Float) → T (finite x) → T (finite y) → T (finite c) → value x ≼ value y → T (le (add binary64 x c) (add binary64 y c))
add_mono x y c p q r h = rw (add_is binary64 x c p r, add_is binary64 y c q r) (rounded_mono binary64 _ _ (value x ⊕ value c) (value y ⊕ value c) (⊕-mono h (≼_refl (value c))))

pub mul_mono : (x y c : Float) → T (finite x) → T (finite y) → T (finite c) → null ≼ value c → value x ≼ value y → T (le (mul binary64 x c) (mul binary64 y c))
mul_mono x y c p q r z h =
    rw (mul_is binary64 x c p r, mul_is binary64 y c q r)
    (rounded_mono binary64 _ _ (value x ⊗ value c) (value y ⊗ value c) (≼_trans (⊗-swap (value x) (value c)) (≼_trans (⊗-mono z h) (⊗-swap (value c) (value y)))))

-- ---- a whole number that a double holds
pub has_value_finite : (x : Float) (s : Bool) (a c : ℕ) → HasValue x s a c → T (finite x)
has_value_finite nan s a c v = absurd v
has_value_finite (inf t) s a c v = absurd v
has_value_finite (fin t m e) s a c v = tt

pub whole_exact : (k : ℤ) → T (in_float binary64 k) → T (finite (of_int binary64 k)) × (value (of_int binary64 k) ≼ whole k) × (whole k ≼ value (of_int binary64 k))
unfolding of_int in_float
whole_exact (pos n) h =
    let x = round binary64 false n 1 in
    let v : HasValue x false n 1 = round_whole binary64 false n (leb→le n (2 ^ 53) h) in
    let w = value_is x false n 1 (down_pos (pos 0)) v in
    (has_value_finite x false n 1 v, record { cross = w.0.cross }, record { cross = w.1.cross })
whole_exact (negsuc n) h =
    let x = round binary64 true (suc n) 1 in
    let v : HasValue x true (suc n) 1 = round_whole binary64 true (suc n) (ltb→lt n (2 ^ 53) h) in
    let w = value_is x true (suc n) 1 (down_pos (pos 0)) v in
    (has_value_finite x true (suc n) 1 v, record { cross = w.0.cross }, record { cross = w.1.cross })

-- ---- the number of a normal pattern, by the exponent's field suc x and the digits t
under_ones : (x t : ℕ) → suc x < 2047 → of_fields binary64 false (suc x) t ≡ odd 53 false (2 ^ 52 + t) x 1074
unfolding of_fields
under_ones x t h = rw (ne_eqb (suc x) 2047 (λ e. omega arith))

pub normal_value : (x t : ℕ) → suc x < 2047 → t < 2 ^ 52 → HasValue (of_bits binary64 (suc x * 2 ^ 52 + t)) false ((2 ^ 52 + t) * 2 ^ x) (2 ^ 1074)
normal_value x t h k =
    let n = suc x * 2 ^ 52 + t in
    rw (read_plus binary64 n (omega arith), digits_div (suc x) k, digits_mod (suc x) k, under_ones x t h) (odd_sign 53 false (2 ^ 52 + t) x 1074)

-- ---- 2 ^ -k is 1 / 2 ^ k
pub up_neg : (k : ℤ) → up (neg_ℤ k) ≡ down k
up_neg (pos zero) = refl
up_neg (pos (suc n)) = refl
up_neg (negsuc n) = refl

pub down_neg : (k : ℤ) → down (neg_ℤ k) ≡ up k
down_neg (pos zero) = refl
down_neg (pos (suc n)) = refl
down_neg (negsuc n) = refl
