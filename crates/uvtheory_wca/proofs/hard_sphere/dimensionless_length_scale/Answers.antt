use Rattle.std.proofs.Common.{◌<◌, ◌∙◌, subst}
use Rattle.uvtheory.specs.declared.parameters.Mixture.{Mixture}
use Rattle.uvtheory.specs.Rows.{Row}
use Rattle.uvtheory.specs.Inputs.{parameters}
use Rattle.uvtheory.specs.Wca.HardSphere as F
use Rattle.uvtheory_wca.proofs.hard_sphere.dimensionless_length_scale.Goals as goal

pub returns : goal.returns
unfolding F.dimensionless_length_scale
returns g c =
    let A = g.D.DualNum.arithmetic in
    let f = F.dimensionless_length_scale A (parameters A c.args.p.now) c.args.temperature in
    subst (λ (m : Mixture). Row A m.n c.each.result f) c.p.view_is
    (c.each.ensures f (λ i r inside post. let l : i < c.args.p.now.n = rw (← c.p.view_is) inside in post ∙ rw (c.requires.minima i l, c.requires.diameters i l)))
