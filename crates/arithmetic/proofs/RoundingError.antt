-- The rounding error: a number below 2 ^ (prec + k) of the format's smallest values is rounded by at most half of 2 ^ k of them.
use mathlib.Core.Path.{◌≡◌, sym, ap, subst}
use Prim.Native.Nat.{ℕ, suc, ◌+◌, ◌-◌, ◌*◌, ◌/◌, ◌%◌, ◌^◌, ◌≤◌, ◌<◌, compare, Ordering}
use native.Mathlib.Nat.{zero-lt-suc, le_of_lt, le_trans, le_of_eq, mul-pos, mul-le-mul_right, lt_of_lt_of_le, lt_of_mul-lt-mul_right, div-add-mod', mod-lt, div-lt_iff_lt-mul, pow-suc}
use native.Mathlib.Omega.{arith}
use mathlib.Core.Bool.{Bool, true, false, not}
use lib.IntN.{pos}
use lib.Dec.{T, is_le, compare_is_eq, leb→le, nleb→lt, eqb→eq}
use lib.Pow.{pow_pos, pow_mono}
use lib.Ieee.{Float, fin, Format, prec, emax, low, nearest, round}
use lib.Ieee.Digits.{size-le}
use lib.Ieee.Fits.{round_is}
use lib.Ieee.Exact.{HasValue, units_val}
use lib.Ieee.Nearest.{closest}
use lib.Ieee.Order.{drop, kept}
use lib.Ieee.Scale.{finite, grid, overflow}
use Rattle.arithmetic.specs.Fraction.{Fraction, ◌≺◌, null, Close}
use Rattle.arithmetic.specs.Value.{signed, value}
use Rattle.arithmetic.specs.Rounding.{rounded}
use Rattle.arithmetic.proofs.Fraction.{≼-≺-trans, ◌≈◌, ≈-refl}
use Rattle.arithmetic.proofs.Value.{value_is}
use Rattle.arithmetic.proofs.Exact.{has_value_finite}
use Rattle.arithmetic.proofs.Rounding.{Side, less, same, more, side, rounded_below, rounded_over, rounded_zero}
use Rattle.arithmetic.proofs.Distance.{same_close, close_at, at_most_bound, opposite_at_most_bound}

-- ---- in whole numbers: n = q * u + r is rounded to a multiple of u
nearest_error : (q r u : ℕ) (o : Ordering) → r < u → (T (is_le o) → r * 2 ≤ u) → (T (not (is_le o)) → u < r * 2) → (T (compare_is_eq o) → r * 2 ≡ u)
    → (2 * (nearest q o * u) ≤ 2 * (q * u + r) + u) × (2 * (q * u + r) ≤ 2 * (nearest q o * u) + u)
nearest_error q r u Ordering.lt l h k e = (omega arith, omega (arith, h tt))
nearest_error q r u Ordering.eq l h k e =
    let i : q % 2 * u ≤ 1 * u = mul-le-mul_right u (omega arith) in
    (omega (arith, e tt), omega (arith, e tt))
nearest_error q r u Ordering.gt l h k e = (omega (arith, k tt), omega arith)

closest_error : (n u : ℕ) → 0 < u → (2 * (closest n u * u) ≤ 2 * n + u) × (2 * n ≤ 2 * (closest n u * u) + u)
closest_error n u U =
    subst (λ (m : ℕ). (2 * (closest n u * u) ≤ 2 * m + u) × (2 * m ≤ 2 * (closest n u * u) + u)) (div-add-mod' n u)
    (nearest_error (n / u) (n % u) u (compare (n % u * 2) u) (mod-lt n U) (leb→le (n % u * 2) u) (nleb→lt (n % u * 2) u) (eqb→eq (n % u * 2) u))

-- of n / c the format keeps p digits, and drops at most k
module _ (p n c k : ℕ) (C : 0 < c) (h : n < 2 ^ (p + k) * c) where
  drop_le : drop p n c ≤ k
  drop_le = go (lib.Ieee.size (n / c)) (size-le (n / c) (p + k) ((div-lt_iff_lt-mul C).1 h))
    where
      go : (z : ℕ) → z ≤ p + k → z - p ≤ k
      go z l = omega arith

  kept_error : (2 * (kept p n c * 2 ^ drop p n c * c) ≤ 2 * n + 2 ^ k * c) × (2 * n ≤ 2 * (kept p n c * 2 ^ drop p n c * c) + 2 ^ k * c)
  kept_error =
      let j = drop p n c in
      let e = closest_error n (c * 2 ^ j) (mul-pos C (pow_pos j)) in
      go (kept p n c) (2 ^ j) (2 ^ k) (mul-le-mul_right c (pow_mono drop_le)) e.0 e.1
    where
      go : (g u v : ℕ) → u * c ≤ v * c → 2 * (g * (c * u)) ≤ 2 * n + c * u → 2 * n ≤ 2 * (g * (c * u)) + c * u → (2 * (g * u * c) ≤ 2 * n + v * c) × (2 * n ≤ 2 * (g * u * c) + v * c)
      go g u v l a b = (omega arith, omega arith)

-- ---- in floats
-- 2 ^ (prec + k) and half of 2 ^ k, of the smallest values
abbrev pub limit : Format → ℕ → Fraction
limit f k = record { plus = 2 ^ (prec f + k); minus = 0; den = 2 ^ low f; above = pow_pos (low f) }

abbrev pub half_place : Format → ℕ → Fraction
half_place f k = record { plus = 2 ^ k; minus = 0; den = 2 * 2 ^ low f; above = mul-pos (zero-lt-suc 1) (pow_pos (low f)) }

-- a fraction by its size and its sign
size_under : (p n d l w : ℕ) → n ≤ p → p * l + 0 * d < w * d + n * l → (p - n) * l < w * d
size_under p n d l w i h = go (p - n) (omega arith)
  where
    go : (m : ℕ) → p ≡ n + m → m * l < w * d
    go m e = omega (arith, rw e at h)

nonneg_is : (q : Fraction) → q.minus ≤ q.plus → signed false (q.plus - q.minus) q.den q.above ≈ q
nonneg_is q h = go (q.plus - q.minus) (omega arith)
  where
    go : (m : ℕ) → q.plus ≡ q.minus + m → signed false m q.den q.above ≈ q
    go m e = let i = ap (λ (x : ℕ). x * q.den) e in (omega (arith, i), omega (arith, i))

nonpos_is : (q : Fraction) → q.plus ≤ q.minus → signed true (q.minus - q.plus) q.den q.above ≈ q
nonpos_is q h = go (q.minus - q.plus) (omega arith)
  where
    go : (m : ℕ) → q.minus ≡ q.plus + m → signed true m q.den q.above ≈ q
    go m e = let i = ap (λ (x : ℕ). x * q.den) e in (omega (arith, i), omega (arith, i))

zero_is : (z : Bool) (q : Fraction) → q.minus ≡ q.plus → value (fin z 0 (pos 0)) ≈ q
zero_is true q e = (omega arith, omega arith)
zero_is false q e = (omega arith, omega arith)

module _ (f : Format) (k : ℕ) (reach : suc (prec f + k) ≤ low f + suc (emax f)) where
  round_value : (s : Bool) (a c : ℕ) → grid f a c < overflow f → HasValue (round f s a c) s (grid f a c) (2 ^ low f)
  round_value s a c h = subst (λ (z : Float). HasValue z s (grid f a c) (2 ^ low f)) (sym (round_is f s a c)) (units_val f s (kept (prec f) (a * 2 ^ low f) c) (drop (prec f) (a * 2 ^ low f) c) h)

  grid_under : (a c : ℕ) → 0 < c → a * 2 ^ low f < 2 ^ (prec f + k) * c → grid f a c < overflow f
  grid_under a c C h =
      lt_of_lt_of_le (go (grid f a c) (2 ^ (prec f + k)) (2 ^ k) (pow_mono (omega arith)) h (kept_error (prec f) (a * 2 ^ low f) c k C h).0) (le_trans (le_of_eq (sym (pow-suc 2 (prec f + k)))) (pow_mono reach))
    where
      go : (g w v : ℕ) → v ≤ w → a * 2 ^ low f < w * c → 2 * (g * c) ≤ 2 * (a * 2 ^ low f) + v * c → g < w * 2
      go g w v l h e = lt_of_mul-lt-mul_right c (omega (arith, mul-le-mul_right c l))

  -- ±a / c
  round_error : (s : Bool) (a c : ℕ) (C : 0 < c) → a * 2 ^ low f < 2 ^ (prec f + k) * c → T (finite (round f s a c)) × Close (half_place f k) (value (round f s a c)) (signed s a c C)
  round_error s a c C h =
      let v = round_value s a c (grid_under a c C h) in
      let w = value_is (round f s a c) s (grid f a c) (2 ^ low f) (pow_pos (low f)) v in
      let e = kept_error (prec f) (a * 2 ^ low f) c k C h in
      (has_value_finite (round f s a c) s (grid f a c) (2 ^ low f) v, close_at (w.1, w.0) (≈-refl (signed s a c C)) (go s (grid f a c) (2 ^ low f) (2 ^ k) (pow_pos (low f)) e.0 e.1))
    where
      go : (s : Bool) (g l v : ℕ) (L : 0 < l) → 2 * (g * c) ≤ 2 * (a * l) + v * c → 2 * (a * l) ≤ 2 * (g * c) + v * c
          → Close (record { plus = v; minus = 0; den = 2 * l; above = mul-pos (zero-lt-suc 1) L }) (signed s g l L) (signed s a c C)
      go true g l v L x y = record { low = record { cross = omega (arith, mul-le-mul_right l y) }; high = record { cross = omega (arith, mul-le-mul_right l x) } }
      go false g l v L x y = record { low = record { cross = omega (arith, mul-le-mul_right l x) }; high = record { cross = omega (arith, mul-le-mul_right l y) } }

  -- q, whose size is below the limit
  pub rounded_error : (z : Bool) (q : Fraction) {b : Fraction} → Close b q null → b ≺ limit f k → T (finite (rounded f z q)) × Close (half_place f k) (value (rounded f z q)) q
  rounded_error z q g l = go (side q.plus q.minus)
    where
      Good : Float → Type 0
      Good r = T (finite r) × Close (half_place f k) (value r) q

      to_q : (r : Float) {x y : Fraction} → y ≈ x → T (finite r) × Close (half_place f k) (value r) y → T (finite r) × Close (half_place f k) (value r) x
      to_q r e h = (h.0, close_at (≈-refl (value r)) e h.1)

      go : Side q.plus q.minus → Good (rounded f z q)
      go (less a) =
          let m = q.minus - q.plus in
          let s = size_under q.minus q.plus q.den (2 ^ low f) (2 ^ (prec f + k)) (le_of_lt a) (≼-≺-trans (opposite_at_most_bound g) l).cross in
          subst Good (sym (rounded_below f z q a)) (to_q (round f true m q.den) (nonpos_is q (le_of_lt a)) (round_error true m q.den q.above s))
      go (same a) = subst Good (sym (rounded_zero f z q a)) (tt, same_close (record { cross = omega arith }) (zero_is z q a))
      go (more a) =
          let m = q.plus - q.minus in
          let s = size_under q.plus q.minus q.den (2 ^ low f) (2 ^ (prec f + k)) (le_of_lt a) (≼-≺-trans (at_most_bound g) l).cross in
          subst Good (sym (rounded_over f z q a)) (to_q (round f false m q.den) (nonneg_is q (le_of_lt a)) (round_error false m q.den q.above s))
