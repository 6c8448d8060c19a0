use Rattle.std.proofs.Common.{subst}
use Rattle.uvtheory.specs.declared.parameters.Mixture.{Mixture}
use Rattle.uvtheory.specs.Rows.{Row}
use Rattle.uvtheory.specs.Inputs.{parameters}
use Rattle.uvtheory.specs.Bh.HardSphere as F
use Rattle.uvtheory_bh.proofs.hard_sphere.diameter_bh.Goals as goal

pub returns : goal.returns
returns g c =
    let A = g.D.DualNum.arithmetic in
    let f = F.diameter_bh A (parameters A c.args.p.now) c.args.temperature in
    subst (λ (m : Mixture). Row A m.n c.each.result f) c.p.view_is (c.each.ensures f (λ i r _ post. post))
