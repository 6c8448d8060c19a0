-- The contributions of a mixture as sent, on a state in values of the arithmetic: as sent, or with slopes. A name that stays shut, so that proofs about calls do not open the formulas.
use Rattle.arithmetic.specs.Arithmetic.{Arithmetic}
use Rattle.uvtheory.specs.declared.eos.Perturbation.{Perturbation}
use Rattle.uvtheory.specs.declared.parameters.Mixture.{Mixture}
use Rattle.uvtheory.specs.declared.contributions.Contributions.{Contributions}
use Rattle.uvtheory.specs.Eos.{residual_helmholtz_energy_contributions}
use Rattle.uvtheory.specs.Inputs.{parameters}
use Rattle.uvtheory.specs.Parameters.{State}

unfoldable pub contributions : {Value : Type 0} → Arithmetic Value → Perturbation → Mixture → State Value → Contributions Value
contributions A perturbation m s = residual_helmholtz_energy_contributions A perturbation (parameters A m) s
