use Rattle.std.proofs.Common.{◌∙◌, ap, subst, ℕ}
use Rattle.uvtheory.specs.Rows.{Matrix}
use Rattle.uvtheory.specs.Inputs.{MixtureState, parameters}
use Rattle.uvtheory.specs.Wca.AttractivePerturbationUvb3 as F
use Rattle.uvtheory.proofs.Combined.{Flips, flip}
use Rattle.uvtheory_b3.proofs.attractive_perturbation_uvb3.delta_b2_ij.Goals as goal

pub returns : goal.returns
returns g c =
    let A = g.D.DualNum.arithmetic in
    let s = c.args.w.now in
    let p = parameters A s.mixture in
    let f = F.delta_b2_ij A p s.state.temperature in
    let eps : Flips p.eps_k_ij = flip _ _ in
    let rep : Flips p.rep_ij = flip _ _ in
    let att : Flips p.att_ij = flip _ _ in
    let n = ap (λ m. m.n) c.p.view_is ∙ ap (λ (s : MixtureState _). s.mixture.n) c.w.view_is in
    subst (λ (n : ℕ). Matrix A n c.symmetric.result f) n (c.symmetric.ensures f (λ i j r _ _ post. post) (λ i j l. rw (eps i j l, rep i j l, att i j l)))
