-- The coefficients of `beta_eff`, which bh/attractive_perturbation.rs and wca/attractive_perturbation.rs have word for word but for the table `C2`.
use Rattle.std.specs.Prelude.{ℕ, Float}
use Rattle.arithmetic.specs.Arithmetic.{Arithmetic}

module _ {Value : Type 0} (A : Arithmetic Value) where
  open A use {constant, add as ◌+◌, div as ◌/◌}

  infixl 60 ◌+◌
  infixl 70 ◌/◌
  -- a coefficient by its row c of `C2`
  abbrev pub coefficient_2 : (ℕ → Float) → Value → Value
  coefficient_2 c rep = constant (c 0) + constant (c 1) / rep
