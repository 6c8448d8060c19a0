-- A double times 2^k. It is exact where no bit is lost, and that is where a division by 2^k gives the double back, which is what the rule of scaling tests.
use Prim.Native.Nat.{ℕ, suc, ◌+◌, ◌*◌, ◌^◌, ◌<◌}
use native.Mathlib.Nat.{mul-lt-mul_of_pos_right, lt_of_mul-lt-mul_right, mul_comm}
use native.Mathlib.Omega.{arith}
use mathlib.Core.Path.{◌≡◌, refl, sym, ap, ap₂, subst, ◌∙◌}
use mathlib.Core.Logic.{inl, inr}
use mathlib.Core.Bool.{Bool, true, false, ◌&&◌, ◌||◌, beq, false≢true}
use lib.Dec.{T, T_not, eqb, eqb→eq}
use lib.IntN.{ℤ, pos, negsuc, neg_ℤ}
use lib.Pow.{pow-add, pow_pos}
use lib.Ieee.{Float, nan, inf, fin, binary64, fits, le, lt, eq, up, down, unlike, round, mul, div}
use lib.Ieee.Exact.{HasValue, round_exact}
use lib.Ieee.Fits.{down_pos, and_l, and_r, mul-fits}
use lib.Ieee.Scale.{finite}
use Rattle.arithmetic.specs.Fraction.{Fraction, ◌≼◌, ◌≺◌, opp, two_to, ◌⊗◌}
use Rattle.arithmetic.specs.Value.{value, sign}
use Rattle.arithmetic.specs.Rounding.{rounded}
use Rattle.arithmetic.specs.Doubles.{scaled}
use Rattle.arithmetic.proofs.Fraction.{◌≈◌, ≈-trans, ≼_trans, ≼-or-≻, ≺-not-≼, ⊗-mono, ⊗-swap}
use Rattle.arithmetic.proofs.Value.{value_is, le→≼, ≼→le, lt→≺, finite_between}
use Rattle.arithmetic.proofs.Rounding.{rounded_mono, mul_is}
use Rattle.arithmetic.proofs.Next.{not_le_inf, not_inf_le}
use Rattle.arithmetic.proofs.Significand.{in_units}
use Rattle.arithmetic.proofs.Enclosure.{under_rounded, over_rounded}
use Rattle.arithmetic.proofs.Exact.{up_neg, down_neg}
use Rattle.range.specs.Rules.{kept}

-- 2^k, as the double times which a double is scaled
abbrev pub power : ℤ → Fraction
power k = value (fin false 1 k)

pub power_is : (q : Fraction) (k : ℤ) → q ⊗ power k ≈ q ⊗ two_to k
power_is q k = (omega arith, omega arith)

pub times_power : {x y : Fraction} (k : ℤ) → x ≼ y → x ⊗ power k ≼ y ⊗ power k
times_power {x} {y} k h = ≼_trans (⊗-swap x (power k)) (≼_trans (⊗-mono (omega arith) h) (⊗-swap (power k) y))

-- times 2^k and times 2^-k
module _ (q : Fraction) (k : ℤ) where
  inverse : up k * up (neg_ℤ k) ≡ down k * down (neg_ℤ k)
  inverse = ap (λ (z : ℕ). up k * z) (up_neg k) ∙ mul_comm (up k) (down k) ∙ ap (λ (z : ℕ). down k * z) (sym (down_neg k))

  there_and_back : q ⊗ power k ⊗ power (neg_ℤ k) ≈ q
  there_and_back =
      let a = ap (λ (z : ℕ). q.plus * q.den * z) inverse in
      let b = ap (λ (z : ℕ). q.minus * q.den * z) inverse in
      (omega (arith, a, b), omega (arith, a, b))

  back_and_there : q ⊗ power (neg_ℤ k) ⊗ power k ≈ q
  back_and_there =
      let a = ap (λ (z : ℕ). q.plus * q.den * z) inverse in
      let b = ap (λ (z : ℕ). q.minus * q.den * z) inverse in
      (omega (arith, a, b), omega (arith, a, b))

-- ---- what is rounded to a finite double lies between -2^1024 and 2^1024
top_inf : (z : Bool) → rounded binary64 z (two_to (pos 1024)) ≡ inf false
unfolding rounded round
top_inf z = refl

bottom_inf : (z : Bool) → rounded binary64 z (opp (two_to (pos 1024))) ≡ inf true
unfolding rounded round
bottom_inf z = refl

module _ (z : Bool) (q : Fraction) (p : T (finite (rounded binary64 z q))) where
  under_top : q ≺ two_to (pos 1024)
  under_top = elim (≼-or-≻ (two_to (pos 1024)) q) [
    | inl k ↦ absurd (T_not (le (inf false) (rounded binary64 z q)) (not_inf_le (rounded binary64 z q) p) (rw (top_inf z) at (rounded_mono binary64 z z (two_to (pos 1024)) q k)))
    | inr k ↦ k
  ]

  over_bottom : opp (two_to (pos 1024)) ≺ q
  over_bottom = elim (≼-or-≻ q (opp (two_to (pos 1024)))) [
    | inl k ↦ absurd (T_not (le (rounded binary64 z q) (inf true)) (not_le_inf (rounded binary64 z q) p) (rw (bottom_inf z) at (rounded_mono binary64 z z q (opp (two_to (pos 1024))) k)))
    | inr k ↦ k
  ]

-- ---- scaling up loses no bit
scaled_is : (x : Float) (k : ℤ) → T (finite x) → scaled x k ≡ rounded binary64 (unlike (sign x) false) (value x ⊗ power k)
scaled_is x k p = mul_is binary64 x (fin false 1 k) p tt

-- ±m × 2^e with its digits in units of 2^-1074
module _ (m : ℕ) (e : ℤ) (n k i : ℕ) (few : k < 2 ^ 53) (v : m * up e * 2 ^ 1074 ≡ k * 2 ^ i * down e) where
  up_exact : (s : Bool) → m * up e * (1 * 2 ^ n) < 2 ^ 1024 * down e → HasValue (round binary64 s (m * up e * (1 * 2 ^ n)) (down e * 1)) s (m * up e * (1 * 2 ^ n)) (down e * 1)
  up_exact s h =
      round_exact binary64 s (m * up e * (1 * 2 ^ n)) (down e * 1) k (i + n) (omega (arith, down_pos e)) few
      (rw (pow-add 2 i n) (small (m * up e) (down e) (2 ^ n) (2 ^ i) (2 ^ 1074) (2 ^ 1024) (2 ^ 2098) (pow_pos 1074) v h refl))
      (rw (pow-add 2 i n) (same (m * up e) (down e) (2 ^ n) (2 ^ i) (2 ^ 1074) v))
    where
      same : (a d t u w : ℕ) → a * w ≡ k * u * d → a * (1 * t) * w ≡ k * (u * t) * (d * 1)
      same a d t u w e = omega (arith, ap (λ (z : ℕ). z * t) e)

      small : (a d t u w c x : ℕ) → 0 < w → a * w ≡ k * u * d → a * (1 * t) < c * d → c * w ≡ x → k * (u * t) < x
      small a d t u w c x W e h f = lt_of_mul-lt-mul_right d (omega (arith, ap (λ (z : ℕ). z * t) e, ap (λ (z : ℕ). z * d) f, mul-lt-mul_of_pos_right h W))

  positive : 0 < down e * 1
  positive = omega (arith, down_pos e)

  exact_either : (s : Bool) → T (finite (scaled (fin s m e) (pos n))) → value (scaled (fin s m e) (pos n)) ≈ value (fin s m e) ⊗ power (pos n)
  unfolding mul
  exact_either true p =
      let q = value (fin true m e) ⊗ power (pos n) in
      let b = over_bottom true q (rw (scaled_is (fin true m e) (pos n) tt) at p) in
      let w = value_is (scaled (fin true m e) (pos n)) true (m * up e * (1 * 2 ^ n)) (down e * 1) positive (up_exact true (go (m * up e) (down e) (2 ^ n) (2 ^ 1024) b.cross)) in
      ≈-trans w (omega arith, omega arith)
    where
      go : (a d t c : ℕ) → 0 * (d * 1) + (0 * 0 + a * (1 * t)) * 1 < (0 * (1 * t) + a * 0) * 1 + c * (d * 1) → a * (1 * t) < c * d
      go a d t c h = omega (arith, h)
  exact_either false p =
      let q = value (fin false m e) ⊗ power (pos n) in
      let b = under_top false q (rw (scaled_is (fin false m e) (pos n) tt) at p) in
      let w = value_is (scaled (fin false m e) (pos n)) false (m * up e * (1 * 2 ^ n)) (down e * 1) positive (up_exact false (go (m * up e) (down e) (2 ^ n) (2 ^ 1024) b.cross)) in
      ≈-trans w (omega arith, omega arith)
    where
      go : (a d t c : ℕ) → (a * (1 * t) + 0 * 0) * 1 + 0 * (d * 1) < c * (d * 1) + (a * 0 + 0 * (1 * t)) * 1 → a * (1 * t) < c * d
      go a d t c h = omega (arith, h)

scaled_up : (x : Float) (n : ℕ) → T (fits binary64 x) → T (finite x) → T (finite (scaled x (pos n))) → value (scaled x (pos n)) ≈ value x ⊗ power (pos n)
scaled_up nan n f p h = absurd p
scaled_up (inf s) n f p h = absurd p
scaled_up (fin s m e) n f p h = let u = in_units binary64 (fin s m e) f p in exact_either m e n u.0 u.1 u.2 u.3.1 s h

-- ---- `eq` says that two doubles are one number
pub equal→≈ : (x y : Float) → T (finite y) → eq x y ≡ true → T (finite x) × (value x ≈ value y)
unfolding eq
equal→≈ nan y p h = absurd (false≢true h)
equal→≈ (inf s) nan p h = absurd p
equal→≈ (inf s) (inf t) p h = absurd p
equal→≈ (inf s) (fin t n d) p h = absurd (false≢true h)
equal→≈ (fin s m e) nan p h = absurd p
equal→≈ (fin s m e) (inf t) p h = absurd p
equal→≈ (fin s m e) (fin t n d) p h =
    let a = m * up e * down d in
    let b = n * up d * down e in
    let u : T (eqb a b && (beq s t || eqb a 0)) = subst T (sym h) tt in
    (tt, go s t (eqb→eq a b (and_l (eqb a b) (beq s t || eqb a 0) u)) (and_r (eqb a b) (beq s t || eqb a 0) u))
  where
    go : (s t : Bool) → m * up e * down d ≡ n * up d * down e → T (beq s t || eqb (m * up e * down d) 0) → value (fin s m e) ≈ value (fin t n d)
    go true true z u = (omega (arith, z), omega (arith, z))
    go false false z u = (omega (arith, z), omega (arith, z))
    go true false z u = let o = eqb→eq (m * up e * down d) 0 u in (omega (arith, z, o), omega (arith, z, o))
    go false true z u = let o = eqb→eq (m * up e * down d) 0 u in (omega (arith, z, o), omega (arith, z, o))

≈→equal : (x y : Float) → T (finite x) → T (finite y) → value x ≈ value y → eq x y ≡ true
unfolding le
≈→equal x y p q h = go (lt x y) (eq x y) (lt→≺ x y p q) (≼→le x y p q h.0)
  where
    go : (i j : Bool) → (T i → value x ≺ value y) → T (i || j) → j ≡ true
    go true j I t = absurd (≺-not-≼ (I tt) h.1)
    go false true I t = refl
    go false false I t = absurd t

-- ---- where it is kept
-- a quotient by 2^k is a product with 2^-k
quotient_is : (y : Float) (k : ℤ) → T (finite y) → div binary64 y (fin false 1 k) ≡ scaled y (neg_ℤ k)
unfolding div mul
quotient_is nan k p = absurd p
quotient_is (inf s) k p = absurd p
quotient_is (fin s m e) k p = ap₂ (round binary64 (unlike s false)) (go (up_neg k)) (go' (down_neg k))
  where
    go : {u d : ℕ} → u ≡ d → m * up e * d ≡ m * up e * (1 * u)
    go h = rw h (omega arith)

    go' : {u d : ℕ} → d ≡ u → 1 * u * down e ≡ down e * d
    go' h = rw h (omega arith)

kept_is : (x : Float) (k : ℤ) → T (finite (scaled x k)) → kept x k ≡ eq (scaled (scaled x k) (neg_ℤ k)) x
unfolding kept
kept_is x k p = ap (λ (z : Float). eq z x) (quotient_is (scaled x k) k p)

-- where scaling is exact, x is kept ..
pub kept_exact : (x : Float) (k : ℤ) → T (fits binary64 x) → T (finite x) → T (finite (scaled x k)) → value (scaled x k) ≈ value x ⊗ power k → kept x k ≡ true
kept_exact x k f p h e =
    let z = scaled (scaled x k) (neg_ℤ k) in
    let q = value (scaled x k) ⊗ power (neg_ℤ k) in
    let w : q ≈ value x = ≈-trans (times_power (neg_ℤ k) e.0, times_power (neg_ℤ k) e.1) (there_and_back (value x) k) in
    let i = scaled_is (scaled x k) (neg_ℤ k) h in
    let a : T (le x z) = rw i (under_rounded binary64 _ x q p f w.1) in
    let b : T (le z x) = rw i (over_rounded binary64 _ x q p f w.0) in
    let F : T (finite z) = finite_between x z x p p a b in
    kept_is x k h ∙ ≈→equal z x F p (le→≼ z x F p b, le→≼ x z p F a)

-- .. and only there. For a k below 0 the division scales up, so it is exact: what it gives x back from is x × 2^k.
pub scaled_exact : (x : Float) (k : ℤ) → T (fits binary64 x) → T (finite x) → T (finite (scaled x k)) → kept x k ≡ true → value (scaled x k) ≈ value x ⊗ power k
scaled_exact x (pos n) f p h e = scaled_up x n f p h
scaled_exact x (negsuc n) f p h e =
    let k = negsuc n in
    let y = scaled x k in
    let c = equal→≈ (scaled y (neg_ℤ k)) x p (sym (kept_is x k h) ∙ e) in
    let u : value x ≈ value y ⊗ power (neg_ℤ k) = ≈-trans (c.1.1, c.1.0) (scaled_up y (suc n) (mul-fits binary64 x (fin false 1 k)) h c.0) in
    let b = back_and_there (value y) k in
    ≈-trans (b.1, b.0) (times_power k u.1, times_power k u.0)
