-- Doubles that stand for exact numbers, and the error of a sum, a difference and a product of two: what the operands are off, and the rounding error.
use Prim.Native.Nat.{ℕ, suc, ◌+◌}
use mathlib.Core.Path.{◌≡◌, sym, subst}
use mathlib.Core.Bool.{Bool, true, false, ◌&&◌}
use lib.IntN.{ℤ}
use lib.Dec.{T, leb, leb→le}
use lib.Ieee.{Float, binary64, of_int, in_float}
use lib.Ieee.Fits.{and_l, and_r}
use lib.Ieee.Scale.{finite}
use Rattle.arithmetic.specs.Fraction.{Fraction, ◌≺?◌, null, whole, ◌⊕◌, ◌⊖◌, ◌⊗◌, Close}
use Rattle.arithmetic.specs.Value.{value}
use Rattle.arithmetic.specs.Doubles.{checked, strict}
use Rattle.arithmetic.specs.Series.{Bounded}
use Rattle.arithmetic.proofs.Fraction.{≼_refl, was_no, was_yes, ◌≈◌, ≈-refl}
use Rattle.arithmetic.proofs.Enclosure.{Rounds, add_rounds, sub_rounds, mul_rounds}
use Rattle.arithmetic.proofs.Exact.{whole_exact}
use Rattle.arithmetic.proofs.Agreement.{checked_is}
use Rattle.arithmetic.proofs.Distance.{same_close, close_at, close_within, close_trans, close_add, close_opp, close_scale, close_scale_right, bound_times, bound_plus, close?, test_close}
use Rattle.arithmetic.proofs.RoundingError.{limit, half_place, rounded_error}

-- x is finite and at most e off X, and |X| ≤ b
pub record Approximation (e b : Fraction) (x : Float) (X : Fraction) : Type 0 where
  pub number : T (finite x)
  pub close : Close e (value x) X
  pub bound : Close b X null

pub itself : {b : Fraction} {x : Float} → Bounded b x → Approximation null b x (value x)
itself {x = x} h = record { number = h.number; close = same_close (≼_refl null) (≈-refl (value x)); bound = h.bound }

pub of_equal : {e b : Fraction} {x : Float} {X Y : Fraction} → X ≈ Y → Approximation e b x X → Approximation e b x Y
of_equal {x = x} i h = record { number = h.number; close = close_at (≈-refl (value x)) i h.close; bound = close_at i (≈-refl null) h.bound }

-- larger bounds, by computation
pub loosened : (e' b' : Fraction) {e b : Fraction} {x : Float} {X : Fraction} → Approximation e b x X → (e' ≺? e) ≡ false → (b' ≺? b) ≡ false → Approximation e' b' x X
loosened e' b' {e} {b} h p q = record { number = h.number; close = close_within (was_no e' e p) h.close; bound = close_within (was_no b' b q) h.bound }

-- what x is then bounded by
pub bounded : {e b : Fraction} {x : Float} {X : Fraction} (c : Fraction) → Approximation e b x X → (c ≺? e ⊕ b) ≡ false → Bounded c x
bounded {e} {b} c h p = record { number = h.number; bound = close_within (was_no c (e ⊕ b) p) (close_trans h.close h.bound) }

-- a constant, by computation
abbrev pub approximation? : Fraction → Fraction → Float → Fraction → Bool
approximation? e b x X = finite x && (close? e (value x) X && close? b X null)

pub test_approximation : (e b : Fraction) (x : Float) (X : Fraction) → T (approximation? e b x X) → Approximation e b x X
test_approximation e b x X t =
    let p = close? e (value x) X in
    let q = close? b X null in
    let u = and_r (finite x) (p && q) t in
    record { number = and_l (finite x) (p && q) t; close = test_close e (value x) X (and_l p q u); bound = test_close b X null (and_r p q u) }

-- a whole number that a double holds
pub whole_itself : {b : Fraction} (k : ℤ) → T (in_float binary64 k) → Close b (whole k) null → Approximation null b (strict.whole k) (whole k)
whole_itself {b} k f h =
    let w = whole_exact k f in
    subst (λ (x : Float). Approximation null b x (whole k)) (sym (checked_is (of_int binary64 k) w.0)) record { number = w.0; close = same_close (≼_refl null) (w.1, w.2); bound = h }

-- ---- Operations. The double r is q rounded; q is at most e off Q, and |Q| ≤ b. Where e + b is below `limit binary64 k`, which is 2 ^ (k - 1021),
-- the rounding error is at most `half_place binary64 k`, which is 2 ^ (k - 1075). Nothing overflows where k is 2044 at most.
module _ (k : ℕ) (reach : T (leb (suc (53 + k)) 2098)) where
  pub operation : {e b q Q : Fraction} (r : Float) → Rounds binary64 r q → Close e q Q → Close b Q null → (e ⊕ b ≺? limit binary64 k) ≡ true → Approximation (half_place binary64 k ⊕ e) b (checked r) Q
  operation {e} {b} {q} {Q} r (z, i) c B l =
      let h = subst (λ (y : Float). T (finite y) × Close (half_place binary64 k) (value y) q) (sym i) (rounded_error binary64 k (leb→le (suc (53 + k)) 2098 reach) z q (close_trans c B) (was_yes (e ⊕ b) (limit binary64 k) l)) in
      subst (λ (y : Float). Approximation (half_place binary64 k ⊕ e) b y Q) (sym (checked_is r h.0)) record { number = h.0; close = close_trans h.1 c; bound = B }

  module _ {e b e' b' : Fraction} {x y : Float} {X Y : Fraction} (hx : Approximation e b x X) (hy : Approximation e' b' y Y) where
    pub sum : (e ⊕ e' ⊕ (b ⊕ b') ≺? limit binary64 k) ≡ true → Approximation (half_place binary64 k ⊕ (e ⊕ e')) (b ⊕ b') (strict.add x y) (X ⊕ Y)
    sum = operation _ (add_rounds binary64 x y hx.number hy.number) (close_add hx.close hy.close) (bound_plus hx.bound hy.bound)

    pub difference : (e ⊕ e' ⊕ (b ⊕ b') ≺? limit binary64 k) ≡ true → Approximation (half_place binary64 k ⊕ (e ⊕ e')) (b ⊕ b') (strict.sub x y) (X ⊖ Y)
    difference = operation _ (sub_rounds binary64 x y hx.number hy.number) (close_add hx.close (close_opp hy.close)) (bound_plus hx.bound (close_opp hy.bound))

    pub product : ((e ⊕ b) ⊗ e' ⊕ b' ⊗ e ⊕ b ⊗ b' ≺? limit binary64 k) ≡ true → Approximation (half_place binary64 k ⊕ ((e ⊕ b) ⊗ e' ⊕ b' ⊗ e)) (b ⊗ b') (strict.mul x y) (X ⊗ Y)
    product =
        operation _ (mul_rounds binary64 x y hx.number hy.number)
        (close_trans (close_scale (value x) (close_trans hx.close hx.bound) hy.close) (close_scale_right Y hy.bound hx.close)) (bound_times hx.bound hy.bound)
