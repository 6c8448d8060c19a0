-- uvtheory/eos/wca/mod.rs: the contributions by Weeks, Chandler and Andersen, and those of its B3 form.
pub mod HardSphere
pub mod ReferencePerturbation
pub mod AttractivePerturbation
pub mod AttractivePerturbationUvb3
use Rattle.arithmetic.specs.Arithmetic.{Arithmetic}
use Rattle.uvtheory.specs.Tables.{WCA_CONSTANTS_ETA_A, WCA_CONSTANTS_ETA_B, WCA_CONSTANTS_ETA_A_UVB3, WCA_CONSTANTS_ETA_B_UVB3}
use Rattle.uvtheory.specs.Parameters.{UVTheoryPars, State}
use Rattle.uvtheory.specs.declared.contributions.Contributions.{Contributions}
use Rattle.uvtheory.specs.HardSphere as Spheres
use Rattle.uvtheory.specs.Wca.HardSphere.{diameter_wca}
use Rattle.uvtheory.specs.Wca.ReferencePerturbation as Reference
use Rattle.uvtheory.specs.Wca.AttractivePerturbation as Attractive
use Rattle.uvtheory.specs.Wca.AttractivePerturbationUvb3 as AttractiveB3

module _ {Value : Type 0} (A : Arithmetic Value) where
  abbrev pub residual_helmholtz_energy_contributions : UVTheoryPars Value → State Value → Contributions Value
  residual_helmholtz_energy_contributions p state = record {
    hard_sphere = Spheres.helmholtz_energy_density A p.n (Spheres.spherical A) (diameter_wca A p state.temperature) state;
    reference = Reference.helmholtz_energy_density A WCA_CONSTANTS_ETA_A WCA_CONSTANTS_ETA_B p state;
    attractive = Attractive.helmholtz_energy_density A p state;
  }

  abbrev pub residual_helmholtz_energy_contributions_b3 : UVTheoryPars Value → State Value → Contributions Value
  residual_helmholtz_energy_contributions_b3 p state = record {
    hard_sphere = Spheres.helmholtz_energy_density A p.n (Spheres.spherical A) (diameter_wca A p state.temperature) state;
    reference = Reference.helmholtz_energy_density A WCA_CONSTANTS_ETA_A_UVB3 WCA_CONSTANTS_ETA_B_UVB3 p state;
    attractive = AttractiveB3.helmholtz_energy_density A p state;
  }
