-- uvtheory/eos/bh/mod.rs: the contributions by Barker-Henderson.
pub mod HardSphere
pub mod ReferencePerturbation
pub mod AttractivePerturbation
use Rattle.arithmetic.specs.Arithmetic.{Arithmetic}
use Rattle.uvtheory.specs.Parameters.{UVTheoryPars, State}
use Rattle.uvtheory.specs.declared.contributions.Contributions.{Contributions}
use Rattle.uvtheory.specs.HardSphere as Spheres
use Rattle.uvtheory.specs.Bh.HardSphere.{diameter_bh}
use Rattle.uvtheory.specs.Bh.ReferencePerturbation as Reference
use Rattle.uvtheory.specs.Bh.AttractivePerturbation as Attractive

module _ {Value : Type 0} (A : Arithmetic Value) where
  abbrev pub residual_helmholtz_energy_contributions : UVTheoryPars Value → State Value → Contributions Value
  residual_helmholtz_energy_contributions p state = record {
    hard_sphere = Spheres.helmholtz_energy_density A p.n (Spheres.spherical A) (diameter_bh A p state.temperature) state;
    reference = Reference.helmholtz_energy_density A p state;
    attractive = Attractive.helmholtz_energy_density A p state;
  }
