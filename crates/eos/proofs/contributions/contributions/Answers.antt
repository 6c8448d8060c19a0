use Rattle.uvtheory.proofs.Sizes.{parameters_fit, state_fits}
use Rattle.eos.proofs.contributions.contributions.Goals as goal

pub new-p-requires : goal.new-p-requires
new-p-requires g c = let number = g.met.D.DualNum in parameters_fit _ _ number.aligned number.small

pub residual_helmholtz_energy_contributions-requires : goal.residual_helmholtz_energy_contributions-requires
residual_helmholtz_energy_contributions-requires g c = let number = g.met.D.DualNum in (parameters_fit _ _ number.aligned number.small, state_fits _ _ number.aligned number.small)

pub residual_helmholtz_energy_contributions-requires-in-WeeksChandlerAndersen : goal.residual_helmholtz_energy_contributions-requires-in-WeeksChandlerAndersen
residual_helmholtz_energy_contributions-requires-in-WeeksChandlerAndersen g c =
    let number = g.met.D.DualNum in
    (parameters_fit _ _ number.aligned number.small, state_fits _ _ number.aligned number.small)

pub residual_helmholtz_energy_contributions_b3-requires : goal.residual_helmholtz_energy_contributions_b3-requires
residual_helmholtz_energy_contributions_b3-requires g c = let number = g.met.D.DualNum in (parameters_fit _ _ number.aligned number.small, state_fits _ _ number.aligned number.small)
