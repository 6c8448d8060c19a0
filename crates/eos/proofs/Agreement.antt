-- The energies of the code, checked, are those of the strict definition.
use mathlib.Core.Path.{◌≡◌}
use lib.Ieee.{Float}
use Rattle.arithmetic.specs.Doubles.{checked, doubles, guarded}
use Rattle.arithmetic.proofs.Agreement.{Same, agreement}
use Rattle.uvtheory.specs.declared.eos.Perturbation.{Perturbation}
use Rattle.uvtheory.specs.declared.parameters.Mixture.{Mixture}
use Rattle.uvtheory.specs.declared.parameters.State.{State}
use Rattle.uvtheory.specs.declared.contributions.Contributions.{Contributions}
use Rattle.uvtheory.specs.Inputs.{state}
use Rattle.eos.specs.Contributions.{contributions}
use Rattle.eos.proofs.Sent.{as_sent}

pub record Agree (g d : Contributions Float) : Type 0 where
  pub hard_sphere_is : checked g.hard_sphere ≡ d.hard_sphere
  pub reference_is : checked g.reference ≡ d.reference
  pub attractive_is : checked g.attractive ≡ d.attractive

pub contributions_agree : (perturbation : Perturbation) (m : Mixture) (s : State Float) → Agree (contributions guarded perturbation m (state guarded s)) (contributions doubles perturbation m (state doubles s))
contributions_agree perturbation m s =
    let kept = as_sent guarded doubles Same agreement m perturbation s in
    record { hard_sphere_is = kept.hard_sphere_is.is; reference_is = kept.reference_is.is; attractive_is = kept.attractive_is.is }
