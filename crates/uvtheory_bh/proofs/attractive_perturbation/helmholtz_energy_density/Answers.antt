use Rattle.std.proofs.Common.{rules, ◌∙◌, subst}
use Rattle.uvtheory.specs.declared.parameters.Mixture.{Mixture}
use Rattle.uvtheory.specs.Rows.{missing, row}
use Rattle.uvtheory.specs.Inputs.{parameters}
use Rattle.uvtheory.specs.Held.{Rows, Matrices}
use Rattle.uvtheory.specs.Bh.HardSphere.{diameter_bh}
use Rattle.uvtheory.specs.Bh.AttractivePerturbation as F
use Rattle.uvtheory.proofs.Loops.{adds}
use Rattle.uvtheory.proofs.Sums.{mean_cube_of, virial_sum_of}
use Rattle.uvtheory.proofs.Sizes.{parameters_fit}
use Rattle.uvtheory_bh.proofs.attractive_perturbation.helmholtz_energy_density.Goals as goal

pub one_fluid_properties-o-requires : goal.one_fluid_properties-o-requires
one_fluid_properties-o-requires g c = let fits = parameters_fit _ _ g.met.D.DualNum.aligned g.met.D.DualNum.small in search rules

pub delta_b2_ij-b2-requires : goal.delta_b2_ij-b2-requires
delta_b2_ij-b2-requires g c = let fits = parameters_fit _ _ g.met.D.DualNum.aligned g.met.D.DualNum.small in search rules

pub returns : goal.returns
unfolding F.helmholtz_energy_density F.residual_virial_coefficient
returns g c =
    let A = g.D.DualNum.arithmetic in
    let number = g.met.D.DualNum in
    let left = adds A number.sum_start number.sum_step in
    let none = missing A in
    let b = c.b.inside in
    let s = b.state.now in
    let p = c.p.inside in
    let f = parameters A b.parameters.now in
    let x = row A s.molefracs in
    let rows = subst (λ (m : Mixture). Rows A m p.rep p.att p.sigma p.epsilon_k) c.p.view_is c.p.invariant.0 in
    let matrices = subst (λ (m : Mixture). Matrices A m p.rep_ij p.att_ij p.sigma_ij p.eps_k_ij) c.p.view_is c.p.invariant.1 in
    let diameters = mean_cube_of A left none f.n x b.d (diameter_bh A f s.temperature) c.b.invariant in
    let virial = virial_sum_of A left none f.n x p.sigma_ij f.sigma_ij matrices.sigma_are 3 c.delta_b2_ij-b2.result (F.delta_b2_ij A f s.temperature) c.delta_b2_ij-b2.ensures in
    rw (← c.b.view_is) (c.energy.ensures
    ∙ rw (c.one_fluid_properties-o.ensures, diameters, number.mul_is _ _ _ c.mul.ensures, c.mean_cube.ensures, c.sum-density.ensures, c.virial_sum-b2bar.ensures, c.p.view_is, rows.sigma_are, virial))
