use Rattle.std.proofs.Common.{subst}
use Rattle.uvtheory.specs.declared.parameters.Mixture.{Mixture}
use Rattle.uvtheory.specs.Rows.{Row}
use Rattle.uvtheory.specs.Inputs.{parameters}
use Rattle.uvtheory.specs.Wca.HardSphere as F
use Rattle.uvtheory_wca.proofs.hard_sphere.minima.Goals as goal

pub returns : goal.returns
returns g c =
    let A = g.D.DualNum.arithmetic in
    let p = parameters A c.args.p.now in
    let f : _ → _ = λ i. F.rm_of A (p.rep i) (p.att i) in
    subst (λ (m : Mixture). Row A m.n c.each.result f) c.p.view_is (c.each.ensures f (λ i r _ post. post))
