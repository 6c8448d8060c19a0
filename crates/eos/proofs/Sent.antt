-- Every relation that the operations keep is kept by the contributions of a mixture as sent.
use lib.Ieee.{Float}
use Rattle.arithmetic.specs.Arithmetic.{Arithmetic}
use Rattle.arithmetic.proofs.Both.{Both, both_of, Kept}
use Rattle.uvtheory.specs.declared.eos.Perturbation.{Perturbation}
use Rattle.uvtheory.specs.declared.parameters.Mixture.{Mixture}
use Rattle.uvtheory.specs.declared.parameters.State.{State as HeldState}
use Rattle.uvtheory.specs.Inputs.{sent, held, state}
use Rattle.uvtheory.specs.Parameters.{State, mapped}
use Rattle.uvtheory.proofs.Kept.{Related, contributions_kept}
use Rattle.eos.specs.Contributions.{contributions}

module _ {X Y : Type 0} (A : Arithmetic X) (B : Arithmetic Y) (R : X → Y → Type 0) (K : Kept A B R) (m : Mixture) where
  -- on any two states whose values are related
  pub on_states : (perturbation : Perturbation) (s : State (Both R)) → Related A B R K (contributions A perturbation m (mapped (λ x. x.left) s)) (contributions B perturbation m (mapped (λ x. x.right) s))
  unfolding contributions
  on_states perturbation s = contributions_kept A B R K (sent m) s perturbation

  -- on a state as sent
  pub as_sent : (perturbation : Perturbation) (s : HeldState Float) → Related A B R K (contributions A perturbation m (state A s)) (contributions B perturbation m (state B s))
  as_sent perturbation s = on_states perturbation (mapped (λ (x : Float). both_of R (K.constant x)) (held s))
