use Rattle.std.proofs.Common.{◌∙◌, subst}
use Rattle.uvtheory.specs.declared.parameters.Mixture.{Mixture}
use Rattle.uvtheory.specs.Rows.{Row}
use Rattle.uvtheory.specs.Inputs.{parameters}
use Rattle.uvtheory.specs.Wca.HardSphere as F
use Rattle.uvtheory_wca.proofs.hard_sphere.diameter_wca.Goals as goal

pub returns : goal.returns
unfolding F.diameter_wca
returns g c =
    let A = g.D.DualNum.arithmetic in
    let n = c.p.inside.mixture.n in
    let f = F.diameter_wca A (parameters A c.args.p.now) c.args.temperature in
    subst (λ (m : Mixture). Row A m.n c.each.result f) c.p.view_is (c.each.ensures f (λ i r inside post. post ∙ rw (c.requires i (rw (← c.p.view_is) inside))))
