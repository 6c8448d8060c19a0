-- A formula of over a hundred operations, every operation of the record among them, with a sum over a vector and a sum over pairs:
-- its guarded value, checked, is its strict value. The formula worked in `agreed` is the whole proof.
use Prim.Native.Nat.{ℕ}
use mathlib.Core.Path.{◌≡◌}
use lib.Ieee.{Float}
use Rattle.arithmetic.specs.Constants.{half, one, two}
use Rattle.arithmetic.specs.Arithmetic.{Arithmetic}
use Rattle.arithmetic.specs.Sums.{dot, pairs}
use Rattle.arithmetic.specs.Doubles.{checked, doubles, guarded}
use Rattle.arithmetic.proofs.Agreement.{agreed}

module _ {Value : Type 0} (A : Arithmetic Value) where
  open A use {constant, add as ◌+◌, sub as ◌-◌, mul as ◌*◌, div as ◌/◌, neg as -◌, powi, sqrt, ln, ln1p, exp, powf, tanh, if_below, sum}

  infixl 60 ◌+◌
  infixl 60 ◌-◌
  infixl 70 ◌*◌
  infixl 70 ◌/◌
  infix 80 -◌
  -- 18 operations
  abbrev each : Value → Value → Value
  each x y = if_below (x - y) half (powi x 3 / sqrt (x * y) + (- ln y)) (exp (- x) * tanh y + powf x y * constant half - ln1p x)

  -- 38
  abbrev both_ways : Value → Value → Value
  both_ways x y = each x y * each y x + constant one

  -- 118
  abbrev pair : Value → Value → Value
  pair x y = both_ways x y + both_ways (x + constant one) y / both_ways x (y * constant two)

  abbrev pub mixture : ℕ → (ℕ → Value) → (ℕ → Value) → Value
  mixture n w x = dot A n w x / sum n w + pairs A n (λ i j. w i * w j * pair (x i) (x j))

-- for every n and all inputs, those that are not finite too
agrees : (n : ℕ) (w x : ℕ → Float) → checked (mixture guarded n w x) ≡ mixture doubles n (λ i. checked (w i)) (λ i. checked (x i))
agrees n w x = (mixture agreed n (λ i. agreed.constant (w i)) (λ i. agreed.constant (x i))).holds.is
