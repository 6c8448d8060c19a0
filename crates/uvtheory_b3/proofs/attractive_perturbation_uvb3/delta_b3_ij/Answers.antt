use Rattle.std.proofs.Common.{◌∙◌, ap, subst, ℕ}
use Rattle.uvtheory.specs.Rows.{Matrix}
use Rattle.uvtheory.specs.Inputs.{MixtureState, parameters}
use Rattle.uvtheory.specs.Wca.HardSphere.{diameter_wca}
use Rattle.uvtheory.specs.Wca.AttractivePerturbationUvb3 as F
use Rattle.uvtheory_b3.proofs.attractive_perturbation_uvb3.delta_b3_ij.Goals as goal

pub returns : goal.returns
returns g c =
    let A = g.D.DualNum.arithmetic in
    let s = c.args.w.now in
    let p = parameters A s.mixture in
    let t = s.state.temperature in
    let f = F.delta_b3_ij A p t (diameter_wca A p t) in
    let n = ap (λ m. m.n) c.p.view_is ∙ ap (λ (s : MixtureState _). s.mixture.n) c.w.view_is in
    subst (λ (n : ℕ). Matrix A n c.matrix.result f) n (c.matrix.ensures f (λ i j r _ _ post. post))
