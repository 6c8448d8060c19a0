-- A finite double as a significand times a power of two; and a positive one, by its pattern, with a significand of 53 binary digits, below the normal range too.
use mathlib.Core.Path.{◌≡◌, refl, sym, ap, subst, ◌∙◌}
use Prim.Native.Nat.{ℕ, zero, suc, ◌+◌, ◌-◌, ◌*◌, ◌/◌, ◌%◌, ◌^◌, ◌≤◌, ◌<◌}
use native.Mathlib.Nat.{lt_of_lt_of_le, lt_of_not-le, not-le_of_lt, mod-eq_of_lt, mul_assoc, mul_right_comm, mul-le-mul_right, add_comm, add-suc}
use native.Mathlib.Omega.{arith}
use mathlib.Core.Bool.{Bool, true, false, not, ◌&&◌}
use lib.Dec.{T, leb, ltb, eqb, leb→le, ltb→lt, nltb→le, eqb→eq, not_T}
use lib.Pow.{pow-add, pow_pos, pow_mono, shl_lt}
use lib.Count.{count_leading_zeros, leading_top}
use lib.Ieee.{Float, nan, inf, fin, Format, binary64, prec, emax, low, up, down, hid, ones, of_fields, of_bits, fits}
use lib.Ieee.Bits.{cond_no}
use lib.Ieee.Fits.{and_l, and_r}
use lib.Ieee.Exact.{HasValue, odd_sign}
use lib.Ieee.Scale.{finite}
use Rattle.arithmetic.specs.Value.{sign}
use Rattle.arithmetic.proofs.Rounding.{place}
use Rattle.arithmetic.proofs.Next.{steps, size_of, read_plus}

-- ---- any float, in units of its format's smallest
pub in_units : (f : Format) (y : Float) → T (fits f y) → T (finite y) → (k : ℕ) × (i : ℕ) × (k < 2 ^ prec f) × HasValue y (sign y) (k * 2 ^ i) (2 ^ low f)
unfolding fits
in_units f nan h p = absurd p
in_units f (inf s) h p = absurd p
in_units f (fin s zero e) h p = (0, 0, pow_pos (prec f), (refl, omega arith))
in_units f (fin s (suc m) e) h p =
    let A = eqb (suc m % 2) 1 in
    let B = ltb (suc m) (2 ^ prec f) in
    let C = leb (down e) (2 ^ low f) in
    let D = ltb (suc m * up e) (2 ^ suc (emax f) * down e) in
    let few : suc m < 2 ^ prec f = ltb→lt (suc m) (2 ^ prec f) (and_r A B (and_l (A && B) C (and_l (A && B && C) D h))) in
    let u = place (low f) e (leb→le (down e) (2 ^ low f) (and_r (A && B) C (and_l (A && B && C) D h))) in
    (suc m, u.0, few, (refl, mul_assoc (suc m) (up e) (2 ^ low f) ∙ ap (λ (z : ℕ). suc m * z) u.1 ∙ sym (mul_assoc (suc m) (2 ^ u.0) (down e))))

-- ---- a positive double, by its pattern
fields_under : (f : Format) (x t : ℕ) → x < ones f → HasValue (of_fields f false x t) false (steps (hid f) x t) (2 ^ low f)
unfolding of_fields
fields_under f zero t h = odd_sign (prec f) false t 0 (low f)
fields_under f (suc x) t h = rw (cond_no (eqb (suc x) (ones f)) _ _ (not_T (eqb (suc x) (ones f)) (λ e. differ (eqb→eq (suc x) (ones f) e)))) (odd_sign (prec f) false (hid f + t) x (low f))
  where
    differ : suc x ≡ ones f → ⊥
    differ e = omega arith

magnitude : (b : ℕ) → b < 0x7ff0_0000_0000_0000 → HasValue (of_bits binary64 b) false (size_of binary64 b) (2 ^ 1074)
magnitude b h = rw (read_plus binary64 b (omega arith)) (fields_under binary64 (b / 2 ^ 52) (b % 2 ^ 52) (omega arith))

-- a / l is a * w / (l * w)
pub finer : (x : Float) (a l w n : ℕ) → a * w ≡ n → HasValue x false a l → HasValue x false n (l * w)
finer nan a l w n e v = v
finer (inf t) a l w n e v = v
finer (fin t m d) a l w n e v = (v.0, sym (mul_assoc (m * up d) l w) ∙ ap (λ (z : ℕ). z * w) v.1 ∙ mul_right_comm a (down d) w ∙ ap (λ (z : ℕ). z * down d) e)

-- the double with the pattern b is sig * 2 ^ exp units of 2 ^ -1126
abbrev pub Parts : ℕ → ℕ → ℕ → Type 0
Parts b sig exp = ((2 ^ 52 ≤ sig) × (sig < 2 ^ 53) × (exp < 2100)) × HasValue (of_bits binary64 b) false (sig * 2 ^ exp) (2 ^ 1126)

pub normal : (b : ℕ) → 2 ^ 52 ≤ b → b < 0x7ff0_0000_0000_0000 → Parts b (b % 2 ^ 52 + 2 ^ 52) (b / 2 ^ 52 + 51)
normal b l h =
    let x = b / 2 ^ 52 - 1 in
    let e : b / 2 ^ 52 ≡ suc x = omega arith in
    let e' : b / 2 ^ 52 + 51 ≡ x + 52 = omega arith in (
      (omega arith, omega arith, omega arith),
      finer (of_bits binary64 b) ((2 ^ 52 + b % 2 ^ 52) * 2 ^ x) (2 ^ 1074) (2 ^ 52) ((b % 2 ^ 52 + 2 ^ 52) * 2 ^ (b / 2 ^ 52 + 51)) (rw (e', pow-add) (omega arith))
          (subst (λ (z : ℕ). HasValue (of_bits binary64 b) false (steps (2 ^ 52) z (b % 2 ^ 52)) (2 ^ 1074)) e (magnitude b h)),
    )

-- the place j of a subnormal's leading digit, and the shift that brings it to the 53rd
shift : (b : ℕ) → 0 < b → b < 2 ^ 52 → (j : ℕ) × (11 ≤ count_leading_zeros 64 b) × (count_leading_zeros 64 b - 11 + j ≡ 52) × (2 ^ j ≤ b) × (b < 2 ^ suc j)
shift b p h =
    let t = leading_top 64 b p (omega arith) in
    let k : t.0 < 52 = lt_of_not-le (λ (g : 52 ≤ t.0). not-le_of_lt (lt_of_lt_of_le h (pow_mono g)) t.2) in
    (t.0, omega (arith, t.1), omega (arith, t.1), t.2, t.3)

pub shift_room : (b : ℕ) → 0 < b → b < 2 ^ 52 → 11 ≤ count_leading_zeros 64 b
shift_room b p h = (shift b p h).1

pub subnormal : (b : ℕ) → 0 < b → b < 2 ^ 52 → Parts b (b * 2 ^ (count_leading_zeros 64 b - 11) % 2 ^ 64) (52 - (count_leading_zeros 64 b - 11))
subnormal b p h =
    let t = shift b p h in
    let j = t.0 in
    let s = count_leading_zeros 64 b - 11 in
    let e : s + j ≡ 52 = t.2 in
    let lo : 2 ^ 52 ≤ b * 2 ^ s = subst (λ (x : ℕ). x ≤ b * 2 ^ s) (sym (pow-add 2 j s) ∙ ap (λ (x : ℕ). 2 ^ x) (add_comm j s ∙ e)) (mul-le-mul_right (2 ^ s) t.3) in
    let hi : b * 2 ^ s < 2 ^ 53 = subst (λ (x : ℕ). b * 2 ^ s < 2 ^ x) (add_comm (suc j) s ∙ add-suc s j ∙ ap suc e) (shl_lt (suc j) s t.4) in
    let whole : s + (52 - s) ≡ 52 = omega arith in
    let same : b * 1 * 2 ^ 52 ≡ b * 2 ^ s * 2 ^ (52 - s) = ap (λ (x : ℕ). b * 1 * 2 ^ x) (sym whole) ∙ ap (λ (x : ℕ). b * 1 * x) (pow-add 2 s (52 - s)) ∙ omega arith in
    let field : b / 2 ^ 52 ≡ 0 = omega arith in
    let wide : b * 2 ^ s % 2 ^ 64 ≡ b * 2 ^ s = mod-eq_of_lt (omega (arith, hi)) in
    rw wide (
      (lo, hi, omega arith),
      finer (of_bits binary64 b) (b * 1) (2 ^ 1074) (2 ^ 52) (b * 2 ^ s * 2 ^ (52 - s)) same
          (subst (λ (z : ℕ). HasValue (of_bits binary64 b) false (z * 1) (2 ^ 1074)) (mod-eq_of_lt h) (subst (λ (z : ℕ). HasValue (of_bits binary64 b) false (steps (2 ^ 52) z (b % 2 ^ 52)) (2 ^ 1074)) field (magnitude b (omega arith)))),
    )

pub parted : (b : ℕ) → 0 < b → b < 0x7ff0_0000_0000_0000 → (sig : ℕ) × (exp : ℕ) × Parts b sig exp
parted b p h = go (ltb b (2 ^ 52)) (ltb→lt b (2 ^ 52)) (nltb→le b (2 ^ 52))
  where
    go : (t : Bool) → (T t → b < 2 ^ 52) → (T (not t) → 2 ^ 52 ≤ b) → (sig : ℕ) × (exp : ℕ) × Parts b sig exp
    go true x y = (b * 2 ^ (count_leading_zeros 64 b - 11) % 2 ^ 64, 52 - (count_leading_zeros 64 b - 11), subnormal b p (x tt))
    go false x y = (b % 2 ^ 52 + 2 ^ 52, b / 2 ^ 52 + 51, normal b (y tt) h)
