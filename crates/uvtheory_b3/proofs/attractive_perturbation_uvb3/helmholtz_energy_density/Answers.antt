use Rattle.std.proofs.Common.{rules, ◌∙◌, sym, subst}
use Rattle.uvtheory.specs.declared.parameters.Mixture.{Mixture}
use Rattle.uvtheory.specs.Rows.{missing, row, Matrix}
use Rattle.uvtheory.specs.Inputs.{MixtureState, parameters}
use Rattle.uvtheory.specs.Held.{Rows, Matrices}
use Rattle.uvtheory.specs.Wca.HardSphere.{diameter_wca}
use Rattle.uvtheory.specs.Wca.AttractivePerturbationUvb3 as F
use Rattle.uvtheory.proofs.Loops.{adds}
use Rattle.uvtheory.proofs.Sums.{mean_cube_of, virial_sum_of}
use Rattle.uvtheory.proofs.Sizes.{parameters_fit}
use Rattle.uvtheory_b3.proofs.attractive_perturbation_uvb3.helmholtz_energy_density.Goals as goal

pub one_fluid_properties-o-requires : goal.one_fluid_properties-o-requires
one_fluid_properties-o-requires g c = let fits = parameters_fit _ _ g.met.D.DualNum.aligned g.met.D.DualNum.small in search rules

pub returns : goal.returns
unfolding F.helmholtz_energy_density F.residual_virial_coefficient F.residual_third_virial_coefficient
returns g c =
    let A = g.D.DualNum.arithmetic in
    let number = g.met.D.DualNum in
    let left = adds A number.sum_start number.sum_step in
    let none = missing A in
    let w = c.w.inside in
    let s = w.state.now in
    let p = c.p.inside in
    let f = parameters A w.parameters.now in
    let x = row A s.molefracs in
    let rows = subst (λ (m : Mixture). Rows A m p.rep p.att p.sigma p.epsilon_k) c.p.view_is c.p.invariant.0 in
    let matrices = subst (λ (m : Mixture). Matrices A m p.rep_ij p.att_ij p.sigma_ij p.eps_k_ij) c.p.view_is c.p.invariant.1 in
    let diameters = mean_cube_of A left none f.n x w.d (diameter_wca A f s.temperature) c.w.invariant.0.d_are in
    let b2 = subst (λ (s : MixtureState _). Matrix A s.mixture.n c.delta_b2_ij.result (F.delta_b2_ij A (parameters A s.mixture) s.state.temperature)) (sym c.w.view_is) c.delta_b2_ij.ensures in
    let virial = virial_sum_of A left none f.n x p.sigma_ij f.sigma_ij matrices.sigma_are 3 c.delta_b2_ij.result (F.delta_b2_ij A f s.temperature) b2 in
    let d = λ (s : MixtureState _). diameter_wca A (parameters A s.mixture) s.state.temperature in
    let b3 = subst (λ (s : MixtureState _). Matrix A s.mixture.n c.delta_b3_ij.result (F.delta_b3_ij A (parameters A s.mixture) s.state.temperature (d s))) (sym c.w.view_is) c.delta_b3_ij.ensures in
    let third = virial_sum_of A left none f.n x p.sigma_ij f.sigma_ij matrices.sigma_are 6 c.delta_b3_ij.result (F.delta_b3_ij A f s.temperature (diameter_wca A f s.temperature)) b3 in
    rw (← c.w.view_is) (c.energy.ensures
    ∙ rw (c.one_fluid_properties-o.ensures, diameters, number.mul_is _ _ _ c.mul.ensures, c.mean_cube.ensures, c.sum-density.ensures, c.virial_sum-b2bar.ensures, c.virial_sum-b3bar.ensures, c.p.view_is, rows.sigma_are, virial, third))
