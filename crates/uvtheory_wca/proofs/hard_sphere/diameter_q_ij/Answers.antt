use Rattle.std.proofs.Common.{◌<◌, ◌∙◌, ℕ, subst, arith}
use Rattle.uvtheory.specs.declared.parameters.Mixture.{Mixture}
use Rattle.uvtheory.specs.Rows.{missing, Matrix}
use Rattle.uvtheory.specs.Inputs.{parameters}
use Rattle.uvtheory.specs.Wca.HardSphere as F
use Rattle.uvtheory.proofs.Combined.{Flips, flip}
use Rattle.uvtheory.proofs.Pairs.{entry}
use Rattle.uvtheory_wca.proofs.hard_sphere.diameter_q_ij.Goals as goal

pub returns : goal.returns
returns g c =
    let A = g.D.DualNum.arithmetic in
    let m = c.args.p.now in
    let p = parameters A m in
    let f : ℕ → ℕ → _ = λ i j. F.dimensionless_diameter_q_wca A (A.div c.args.t (p.eps_k_ij i j)) (p.rep_ij i j) (p.att_ij i j) in
    let minima : ℕ → ℕ → _ = λ i j. F.rm_of A (p.rep_ij i j) (p.att_ij i j) in
    let eps : Flips p.eps_k_ij = flip _ _ in
    let rep : Flips p.rep_ij = flip _ _ in
    let att : Flips p.att_ij = flip _ _ in
    subst (λ (m : Mixture). Matrix A m.n c.symmetric.result f) c.p.view_is (c.symmetric.ensures f (λ i j r le inside post.
    let l : j < m.n = rw (← c.p.view_is) inside in
    let h : i < m.n = omega arith in
    post ∙ rw (c.p.view_is, entry (missing A) m.n i j c.args.rm_ij.now minima c.requires h l)) (λ i j l. rw (eps i j l, rep i j l, att i j l)))
