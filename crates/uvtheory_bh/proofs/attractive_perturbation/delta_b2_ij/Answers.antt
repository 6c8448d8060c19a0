use Rattle.std.proofs.Common.{subst}
use Rattle.uvtheory.specs.declared.parameters.Mixture.{Mixture}
use Rattle.uvtheory.specs.Rows.{Matrix}
use Rattle.uvtheory.specs.Inputs.{parameters}
use Rattle.uvtheory.specs.Bh.AttractivePerturbation as F
use Rattle.uvtheory.proofs.Combined.{Flips, flip}
use Rattle.uvtheory_bh.proofs.attractive_perturbation.delta_b2_ij.Goals as goal

pub returns : goal.returns
returns g c =
    let A = g.D.DualNum.arithmetic in
    let p = parameters A c.args.p.now in
    let f = F.delta_b2_ij A p c.args.t in
    let eps : Flips p.eps_k_ij = flip _ _ in
    let rep : Flips p.rep_ij = flip _ _ in
    let att : Flips p.att_ij = flip _ _ in
    subst (λ (m : Mixture). Matrix A m.n c.symmetric.result f) c.p.view_is (c.symmetric.ensures f (λ i j r _ _ post. post) (λ i j l. rw (eps i j l, rep i j l, att i j l)))
