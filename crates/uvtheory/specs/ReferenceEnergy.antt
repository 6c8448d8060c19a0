-- The last line of the three reference perturbations: the energy by the sum a over all pairs and the density.
use Rattle.arithmetic.specs.Arithmetic.{Arithmetic}
use Rattle.uvtheory.specs.Literals.{two, three, PI}

module _ {Value : Type 0} (A : Arithmetic Value) where
  open A use {constant, mul as ◌*◌, div as ◌/◌, neg as -◌, powi as ◌^◌}

  infixl 70 ◌*◌ ◌/◌
  infix 80 -◌
  infix 90 ◌^◌
  unfoldable pub energy : Value → Value → Value
  energy a density = - a * density ^ 2 * constant two / constant three * constant PI
