-- `sqrt` gives the double that is nearest to the exact root.
use mathlib.Core.Path.{◌≡◌, sym, ap, subst, ◌∙◌}
use mathlib.Core.Logic.{◌⊎◌, inl, inr}
use Prim.Native.Nat.{ℕ, suc, ◌+◌, ◌-◌, ◌*◌, ◌/◌, ◌%◌, ◌^◌, ◌≤◌, ◌<◌}
use native.Mathlib.Nat.{mul-le-mul, mul-le-mul_right, mul-lt-mul_of_pos_right, lt_of_mul-lt-mul_right, mul-pos, mul_assoc, lt_of_lt_of_le, eq-or-lt_of_le, le_of_suc-le-suc, le_of_eq, pow-suc}
use native.Mathlib.Numerals.{add-one}
use native.Mathlib.Omega.{arith}
use mathlib.Core.Bool.{Bool, true, false, not}
use lib.IntN.{negsuc}
use lib.Dec.{T, leb, leb→le, nleb→lt}
use lib.Pow.{pow-add, pow_pos, pow_mono}
use lib.Ieee.{Float, binary64, fits, of_bits, to_bits}
use lib.Ieee.Digits.{back}
use lib.Ieee.Bits.{of_bits-to_bits}
use lib.Ieee.Exact.{HasValue}
use lib.Ieee.Scale.{finite}
use Rattle.arithmetic.specs.Fraction.{Fraction, ◌≼◌, ◌≺◌, null, two_to, ◌⊕◌, ◌⊗◌}
use Rattle.arithmetic.specs.Value.{signed, value, sign}
use Rattle.arithmetic.specs.Root.{root, sqrt}
use Rattle.arithmetic.proofs.Exact.{has_value_finite}
use Rattle.arithmetic.proofs.Fraction.{≼_trans, ≼-≺-trans, ≺-≼-trans, ≼-or-≻, ≺→≼, ≺-not-≼, ⊕-mono, ⊗-mono, ⊗-swap}
use Rattle.arithmetic.proofs.Value.{value_is}
use Rattle.arithmetic.proofs.Zero.{minus_value, positive_pattern}
use Rattle.arithmetic.proofs.Squares.{IsRoot, root_is, less_of_squares}
use Rattle.arithmetic.proofs.Significand.{Parts, parted, in_units, finer}
use Rattle.arithmetic.proofs.RoundedRoot.{Between, radicand, in_squares, shifted_range, range, halved, root_fits, root_value}

-- c lies below the exact root of x, or above it
abbrev pub BelowRoot : Fraction → Fraction → Type 0
BelowRoot c x = (c ≺ null) ⊎ (c ⊗ c ≺ x)

abbrev pub AboveRoot : Fraction → Fraction → Type 0
AboveRoot c x = (null ≺ c) × (x ≺ c ⊗ c)

abbrev pub middle : Fraction → Fraction → Fraction
middle p q = two_to (negsuc 0) ⊗ (p ⊕ q)

-- r is a double, and nearer to the exact root of x than any other double y is: the root lies on r's side of the middle of the two
pub record Nearest (x r : Float) : Type 0 where
  pub double : T (fits binary64 r)
  pub number : T (finite r)
  pub below : (y : Float) → T (fits binary64 y) → T (finite y) → value y ≺ value r → BelowRoot (middle (value y) (value r)) (value x)
  pub above : (y : Float) → T (fits binary64 y) → T (finite y) → value r ≺ value y → AboveRoot (middle (value y) (value r)) (value x)

-- ---- below what is below the root, and above what is above it
pub square_mono : {c d : Fraction} → null ≼ c → c ≼ d → c ⊗ c ≼ d ⊗ d
square_mono {c} {d} z h = ≼_trans (⊗-mono z h) (≼_trans (⊗-swap c d) (⊗-mono (≼_trans z h) h))

below_root : {c d x z : Fraction} → c ≼ d → x ≼ z → BelowRoot d x → BelowRoot c z
below_root h k (inl n) = inl (≼-≺-trans h n)
below_root {c} h k (inr s) = elim (≼-or-≻ null c) [ inl l ↦ inr (≼-≺-trans (square_mono l h) (≺-≼-trans s k)) | inr n ↦ inl n ]

above_root : {c d x z : Fraction} → d ≼ c → z ≼ x → AboveRoot d x → AboveRoot c z
above_root h k a = (≺-≼-trans a.0 h, ≼-≺-trans k (≺-≼-trans a.1 (square_mono (≺→≼ a.0) h)))

middle_mono : {p p' q q' : Fraction} → p ≼ p' → q ≼ q' → middle p q ≼ middle p' q'
middle_mono h k = ⊗-mono (record { cross = omega arith }) (⊕-mono h k)

-- ---- in whole numbers: the root of m * (p * p) is rounded to a multiple of w = p * 2. Another double is such a multiple too, or it lies lower, where doubles are denser.
abbrev Near : ℕ → ℕ → Type 0
Near w y = ((l : ℕ) × (y ≡ l * w)) ⊎ (y < 2 ^ 52 * w)

near : (k i j : ℕ) → k < 2 ^ 53 → Near (2 ^ j * 2) (k * 2 ^ i)
near k i j h = go (leb (suc j) i) (leb→le (suc j) i) (nleb→lt (suc j) i)
  where
    go : (t : Bool) → (T t → suc j ≤ i) → (T (not t) → i < suc j) → Near (2 ^ j * 2) (k * 2 ^ i)
    go true l g =
        let e : 2 ^ i ≡ 2 ^ (i - suc j) * (2 ^ j * 2) = ap (λ (z : ℕ). 2 ^ z) (sym (back i (suc j) (l tt))) ∙ pow-add 2 (i - suc j) (suc j) ∙ ap (λ (z : ℕ). 2 ^ (i - suc j) * z) (pow-suc 2 j) in
        inl (k * 2 ^ (i - suc j), ap (λ (z : ℕ). k * z) e ∙ sym (mul_assoc k (2 ^ (i - suc j)) (2 ^ j * 2)))
    go false l g = inr (omega (arith, mul-lt-mul_of_pos_right h (pow_pos i), mul-le-mul_right (2 ^ 53) (pow_mono (le_of_suc-le-suc (g tt)))))

module _ (h m p : ℕ) (P : 0 < p) (f : Between h m) (lo : 2 ^ 52 ≤ h + 1) (M : 2 ^ 106 ≤ m) where
  abbrev found : ℕ
  found = (h + 1) * (p * 2)

  a_step_down : (y : ℕ) → y ≤ h * (p * 2) → (y + found) * (y + found) < 4 * (m * (p * p))
  a_step_down y l =
      let s : y + found ≤ (2 * h + 1) * (p * 2) = omega arith in
      omega (arith, mul-le-mul s s, mul-lt-mul_of_pos_right f.low (mul-pos P P))

  middle_below : (y : ℕ) → Near (p * 2) y → y < found → (y + found) * (y + found) < 4 * (m * (p * p))
  middle_below y (inl c) b =
      let l : c.0 < h + 1 = lt_of_mul-lt-mul_right (p * 2) (omega (arith, c.1)) in
      let k : c.0 ≤ h = omega arith in
      a_step_down y (omega (arith, c.1, mul-le-mul_right (p * 2) k))
  middle_below y (inr c) b =
      elim (eq-or-lt_of_le lo) [
        | inl e ↦ omega (arith, mul-le-mul (under e) (under e), mul-le-mul_right (p * p) M)
        | inr k ↦ a_step_down y (omega (arith, c, mul-le-mul_right (p * 2) (le_of_suc-le-suc (lt_of_lt_of_le k (le_of_eq (add-one h))))))
      ]
    where
      under : 2 ^ 52 ≡ h + 1 → y + found + 1 ≤ 2 ^ 54 * p
      under e = omega (arith, c, ap (λ (z : ℕ). z * (p * 2)) e)

  middle_above : (y : ℕ) → Near (p * 2) y → found < y → 4 * (m * (p * p)) < (y + found) * (y + found)
  middle_above y (inl c) b =
      let l : h + 1 < c.0 = lt_of_mul-lt-mul_right (p * 2) (omega (arith, c.1)) in
      let k : h + 2 ≤ c.0 = omega arith in
      let s : (2 * h + 3) * (p * 2) ≤ y + found = omega (arith, c.1, mul-le-mul_right (p * 2) k) in
      omega (arith, mul-le-mul s s, mul-lt-mul_of_pos_right f.high (mul-pos P P))
  middle_above y (inr c) b = absurd (omega (arith, c, mul-le-mul_right (p * 2) lo))

-- ---- in fractions: y, q and n are in units of 1 / u and of its square
module _ (u : ℕ) (U : 0 < u) (y q : ℕ) where
  less : signed false y u U ≺ signed false q u U → y < q
  less h = lt_of_mul-lt-mul_right u (omega (arith, h))

  fourth : 0 < u * u * (u * u)
  fourth = mul-pos (mul-pos U U) (mul-pos U U)

  is_below : (n : ℕ) → (y + q) * (y + q) < 4 * n → BelowRoot (middle (signed false y u U) (signed false q u U)) (signed false n (u * u) (mul-pos U U))
  is_below n h = inr (record { cross = omega (arith, mul-lt-mul_of_pos_right h fourth) })

  is_above : (n : ℕ) → 4 * n < (y + q) * (y + q) → AboveRoot (middle (signed false y u U) (signed false q u U)) (signed false n (u * u) (mul-pos U U))
  is_above n h =
      let s : 0 < y + q = less_of_squares 0 (y + q) (omega arith) in
      (record { cross = omega (arith, mul-pos s U) }, record { cross = omega (arith, mul-lt-mul_of_pos_right h fourth) })

-- ---- doubles are multiples of 1 / u
u : ℕ
u = 2 ^ 1074

U : 0 < u
unfolding u
U = pow_pos 1074

-- a positive double x is m * (p * p) / (u * u), with p = 2 ^ j, and `sqrt x` is (h + 1) * (p * 2) / u
record Worked (x : Float) : Type 0 where
  h : ℕ
  m : ℕ
  j : ℕ
  between : Between h m
  low : 2 ^ 52 ≤ h + 1
  digits : 2 ^ 106 ≤ m
  is : HasValue x false (m * (2 ^ j * 2 ^ j)) (u * u)
  double : T (fits binary64 (sqrt x))
  result : HasValue (sqrt x) false ((h + 1) * (2 ^ j * 2)) u

worked : (x : Float) → T (fits binary64 x) → T (finite x) → null ≺ value x → Worked x
unfolding u
worked x f p z = subst Worked (of_bits-to_bits binary64 x f) (go (to_bits binary64 x) (parted (to_bits binary64 x) b.0 b.1))
  where
    b : (0 < to_bits binary64 x) × (to_bits binary64 x < 0x7ff0_0000_0000_0000)
    b = positive_pattern x f p z

    go : (b : ℕ) → (sig : ℕ) × (exp : ℕ) × Parts b sig exp → Worked (of_bits binary64 b)
    go b (sig, exp, c) =
        let g : IsRoot (root (radicand sig exp)) (radicand sig exp) = root_is (radicand sig exp) in
        let r = root (radicand sig exp) in
        record {
          h = (r - 1) / 2;
          m = radicand sig exp;
          j = exp / 2 + 484;
          between = halved b sig exp c r g;
          low = omega (arith, (range b sig exp c r g).0);
          digits = omega (arith, (shifted_range sig (exp % 2) c.0.0 c.0.1 (omega arith)).0);
          is = finer (of_bits binary64 b) (sig * 2 ^ exp) (2 ^ 1126) (2 ^ 1022) (radicand sig exp * (2 ^ (exp / 2 + 484) * 2 ^ (exp / 2 + 484))) (in_squares sig exp) c.1;
          double = root_fits b sig exp c r g;
          result = rw (← pow-suc 2 (exp / 2 + 484)) (root_value b sig exp c r g);
        }

module _ (x : Float) (w : Worked x) where
  abbrev q : ℕ
  q = (w.h + 1) * (2 ^ w.j * 2)

  abbrev n : ℕ
  n = w.m * (2 ^ w.j * 2 ^ w.j)

  of_x : (value x ≼ signed false n (u * u) (mul-pos U U)) × (signed false n (u * u) (mul-pos U U) ≼ value x)
  of_x = value_is x false n (u * u) (mul-pos U U) w.is

  of_root : (value (sqrt x) ≼ signed false q u U) × (signed false q u U ≼ value (sqrt x))
  of_root = value_is (sqrt x) false q u U w.result

  smaller : (y : Float) (k : ℕ) → Near (2 ^ w.j * 2) k → k < q → value y ≼ signed false k u U → BelowRoot (middle (value y) (value (sqrt x))) (value x)
  smaller y k g l h = below_root (middle_mono h of_root.0) of_x.1 (is_below u U k q n (middle_below w.h w.m (2 ^ w.j) (pow_pos w.j) w.between w.low w.digits k g l))

  greater : (y : Float) (k : ℕ) → Near (2 ^ w.j * 2) k → q < k → signed false k u U ≼ value y → AboveRoot (middle (value y) (value (sqrt x))) (value x)
  greater y k g l h = above_root (middle_mono h of_root.1) of_x.0 (is_above u U k q n (middle_above w.h w.m (2 ^ w.j) (pow_pos w.j) w.between w.low w.digits k g l))

  -- y is k / u, or below zero
  if_smaller : (y : Float) (s : Bool) (k : ℕ) → Near (2 ^ w.j * 2) k → HasValue y s k u → value y ≺ value (sqrt x) → BelowRoot (middle (value y) (value (sqrt x))) (value x)
  if_smaller y false k g v l = let a = value_is y false k u U v in smaller y k g (less u U k q (≼-≺-trans a.1 (≺-≼-trans l of_root.0))) a.0
  if_smaller y true k g v l = smaller y 0 (inl (0, omega arith)) (mul-pos (omega arith) (omega (arith, pow_pos w.j))) (≼_trans (minus_value y k u U v) (record { cross = omega arith }))

  if_greater : (y : Float) (s : Bool) (k : ℕ) → Near (2 ^ w.j * 2) k → HasValue y s k u → value (sqrt x) ≺ value y → AboveRoot (middle (value y) (value (sqrt x))) (value x)
  if_greater y false k g v l = let a = value_is y false k u U v in greater y k g (less u U q k (≼-≺-trans of_root.1 (≺-≼-trans l a.0))) a.1
  if_greater y true k g v l = absurd (≺-not-≼ l (≼_trans (minus_value y k u U v) (≼_trans (record { cross = omega arith }) of_root.1)))

-- `sqrt` of a positive double
pub sqrt_nearest : (x : Float) → T (fits binary64 x) → T (finite x) → null ≺ value x → Nearest x (sqrt x)
unfolding u
sqrt_nearest x f p z =
    let w = worked x f p z in
    record {
      double = w.double;
      number = has_value_finite (sqrt x) false _ _ w.result;
      below = λ y g q. (let v = in_units binary64 y g q in if_smaller x w y (sign y) (v.0 * 2 ^ v.1) (near v.0 v.1 w.j v.2) v.3);
      above = λ y g q. (let v = in_units binary64 y g q in if_greater x w y (sign y) (v.0 * 2 ^ v.1) (near v.0 v.1 w.j v.2) v.3);
    }
