use Rattle.std.proofs.Common.{◌∙◌, refl}
use Rattle.uvtheory.specs.Rows.{row}
use Rattle.uvtheory.specs.Inputs.{parameters, state_of}
use Rattle.uvtheory.specs.HardSphere.{spherical}
use Rattle.uvtheory.specs.Wca.HardSphere as F
use Rattle.uvtheory.proofs.Loops.{adds}
use Rattle.uvtheory.proofs.Sums.{hard_sphere_of}
use Rattle.uvtheory_wca.proofs.weeks_chandler_andersen.WeeksChandlerAndersen.hard_sphere.Goals as goal

pub returns : goal.returns
returns g c =
    let A = g.D.DualNum.arithmetic in
    let left = adds A g.met.D.DualNum.sum_start g.met.D.DualNum.sum_step in
    let u = spherical A in
    let w = c.self.inside in
    let m = w.parameters.now in
    let sphere = hard_sphere_of A left m.n u u (λ i _. refl) (row A w.d) (F.diameter_wca A (parameters A m) w.state.now.temperature) c.self.invariant.0.d_are (state_of A w.state.now) in
    rw (← c.self.view_is) (c.spherical.ensures ∙ rw (c.p.view_is, sphere))
