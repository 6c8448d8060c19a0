use Rattle.uvtheory.proofs.Sizes.{parameters_fit, state_fits}
use Rattle.uvtheory_wca.proofs.Sizes.{lengths_fit}
use Rattle.uvtheory_wca.proofs.residual_helmholtz_energy_contributions.Goals as goal

pub new-w-requires : goal.new-w-requires
new-w-requires g c =
    let number = g.met.D.DualNum in
    (parameters_fit _ _ number.aligned number.small, (state_fits _ _ number.aligned number.small, lengths_fit _ _ number.aligned number.small))
