use Rattle.std.proofs.Common.{◌∙◌, refl, subst}
use Rattle.uvtheory.specs.Rows.{Row, row}
use Rattle.uvtheory.specs.Inputs.{MixtureState, parameters, state_of}
use Rattle.uvtheory.specs.HardSphere.{spherical}
use Rattle.uvtheory.specs.Bh.HardSphere.{diameter_bh}
use Rattle.uvtheory.proofs.Loops.{adds}
use Rattle.uvtheory.proofs.Sums.{hard_sphere_of}
use Rattle.uvtheory_bh.proofs.residual_helmholtz_energy_contributions.Goals as goal

pub returns : goal.returns
returns g c =
    let A = g.D.DualNum.arithmetic in
    let left = adds A g.met.D.DualNum.sum_start g.met.D.DualNum.sum_step in
    let u = spherical A in
    let d = c.b.inside.d in
    let held = subst (λ (s : MixtureState _). Row A s.mixture.n d (diameter_bh A (parameters A s.mixture) s.state.temperature)) (c.b.view_is ∙ c.new-b.ensures) c.b.invariant in
    let sphere = hard_sphere_of A left c.args.p.now.n u u (λ i _. refl) (row A d) (diameter_bh A (parameters A c.args.p.now) c.args.s.now.temperature) held (state_of A c.args.s.now) in
    rw (c.spherical.ensures, c.p.view_is, sphere, c.helmholtz_energy_density.ensures, c.helmholtz_energy_density-2.ensures, c.new-b.ensures)
