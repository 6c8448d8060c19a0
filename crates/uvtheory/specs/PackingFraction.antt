-- The packing fractions, which bh/hard_sphere.rs and wca/hard_sphere.rs have word for word but for tau and the tables.
use Rattle.std.specs.Prelude.{ℕ, Float}
use Rattle.arithmetic.specs.Arithmetic.{Arithmetic}
use Rattle.uvtheory.specs.Literals.{one, six, PI}

module _ {Value : Type 0} (A : Arithmetic Value) where
  open A use {constant, add as ◌+◌, mul as ◌*◌, div as ◌/◌, powi as ◌^◌, sum}

  infixl 60 ◌+◌
  infixl 70 ◌*◌ ◌/◌
  infix 90 ◌^◌
  unfoldable pub packing_fraction : ℕ → (ℕ → Value) → (ℕ → Value) → Value
  packing_fraction n partial_density diameter = sum n (λ i. partial_density i * diameter i ^ 3 * (constant PI / constant six))

  -- a coefficient by its row b of `..ETA_B`, and all by the table B
  unfoldable pub coefficient_b : (ℕ → Float) → Value → Value
  coefficient_b b tau = tau * constant (b 0) + tau * tau * constant (b 1)

  unfoldable pub packing_fraction_b : (ℕ → ℕ → Float) → Value → Value → Value
  packing_fraction_b B eta tau =
      let c : ℕ → Value = λ k. coefficient_b (B k) tau in
      eta + eta * c 0 + eta * eta * c 1 + eta ^ 3 * c 2

  -- a coefficient by its row a of `..ETA_A`, and all by the table T
  unfoldable pub coefficient_a : (ℕ → Float) → Value → Value → Value
  coefficient_a a tau rep_inv = tau * (constant (a 0) + constant (a 1) * rep_inv) + tau * tau * (constant (a 2) + constant (a 3) * rep_inv)

  unfoldable pub packing_fraction_a : (ℕ → ℕ → Float) → Value → Value → Value → Value
  packing_fraction_a T eta tau rep_ij =
      let c : ℕ → Value = λ k. coefficient_a (T k) tau (constant one / rep_ij) in
      eta + eta * c 0 + eta * eta * c 1 + eta ^ 3 * c 2 + eta ^ 4 * c 3
