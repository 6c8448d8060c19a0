use Rattle.std.proofs.Common.{subst, ℕ}
use Rattle.uvtheory.specs.declared.parameters.Mixture.{Mixture}
use Rattle.uvtheory.specs.Rows.{Matrix}
use Rattle.uvtheory.specs.Inputs.{parameters}
use Rattle.uvtheory.specs.Wca.HardSphere as F
use Rattle.uvtheory.proofs.Combined.{Flips, flip}
use Rattle.uvtheory_wca.proofs.hard_sphere.minima_ij.Goals as goal

pub returns : goal.returns
returns g c =
    let A = g.D.DualNum.arithmetic in
    let p = parameters A c.args.p.now in
    let f : ℕ → ℕ → _ = λ i j. F.rm_of A (p.rep_ij i j) (p.att_ij i j) in
    let rep : Flips p.rep_ij = flip _ _ in
    let att : Flips p.att_ij = flip _ _ in
    subst (λ (m : Mixture). Matrix A m.n c.symmetric.result f) c.p.view_is (c.symmetric.ensures f (λ i j r _ _ post. post) (λ i j l. rw (rep i j l, att i j l)))
