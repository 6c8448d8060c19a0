-- uvtheory/eos/mod.rs: the contributions of a perturbation.
use Rattle.arithmetic.specs.Arithmetic.{Arithmetic}
use Rattle.uvtheory.specs.declared.eos.Perturbation.{Perturbation}
use Rattle.uvtheory.specs.declared.eos.Perturbation.TheVariants.{BarkerHenderson, WeeksChandlerAndersen, WeeksChandlerAndersenB3}
use Rattle.uvtheory.specs.Parameters.{UVTheoryPars, State}
use Rattle.uvtheory.specs.declared.contributions.Contributions.{Contributions}
use Rattle.uvtheory.specs.Bh as Bh
use Rattle.uvtheory.specs.Wca as Wca

module _ {Value : Type 0} (A : Arithmetic Value) where
  unfoldable pub residual_helmholtz_energy_contributions : Perturbation → UVTheoryPars Value → State Value → Contributions Value
  residual_helmholtz_energy_contributions BarkerHenderson = Bh.residual_helmholtz_energy_contributions A
  residual_helmholtz_energy_contributions WeeksChandlerAndersen = Wca.residual_helmholtz_energy_contributions A
  residual_helmholtz_energy_contributions WeeksChandlerAndersenB3 = Wca.residual_helmholtz_energy_contributions_b3 A
