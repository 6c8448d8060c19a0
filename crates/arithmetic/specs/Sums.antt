-- What the Rust's libraries and loops do, over any arithmetic: the reciprocal, the dot product, and a sum over all pairs.
use Rattle.std.specs.Prelude.{ℕ, ◌*◌ as ◌×ℕ◌, ◌/◌ as ◌/ℕ◌, ◌%◌}
use Rattle.arithmetic.specs.Arithmetic.{Arithmetic}
use Rattle.arithmetic.specs.Constants.{one}

module _ {Value : Type 0} (A : Arithmetic Value) where
  open A use {constant, mul, div, sum}

  -- 1 / v
  abbrev pub recip : Value → Value
  recip v = div (constant one) v

  -- products, added from the left
  abbrev pub dot : ℕ → (ℕ → Value) → (ℕ → Value) → Value
  dot n x y = sum n (λ i. mul (x i) (y i))

  -- f 0 0 + f 0 1 + .. + f (n - 1) (n - 1), one after the other: a loop over i with a loop over j in it
  abbrev pub pairs : ℕ → (ℕ → ℕ → Value) → Value
  pairs n f = sum (n ×ℕ n) (λ k. f (k /ℕ n) (k % n))
