use Rattle.std.proofs.Common.{◌∙◌, refl}
use Rattle.uvtheory.specs.Rows.{row}
use Rattle.uvtheory.specs.Inputs.{state_of}
use Rattle.uvtheory.specs.HardSphere as F
use Rattle.uvtheory.proofs.Loops.{adds}
use Rattle.uvtheory.proofs.Sums.{hard_sphere_of}
use Rattle.uvtheory.proofs.hard_sphere.spherical.Goals as goal

pub returns : goal.returns
returns g c =
    let A = g.D.DualNum.arithmetic in
    let left = adds A g.met.D.DualNum.sum_start g.met.D.DualNum.sum_step in
    let units = c.each-unit.ensures (F.spherical A) (λ i r _ post. post) in
    let d = row A c.args.diameter.now in
    c.helmholtz_energy_density.ensures ∙ hard_sphere_of A left c.args.n (row A c.each-unit.result) (F.spherical A) units d d (λ i _. refl) (state_of A c.args.s.now)
