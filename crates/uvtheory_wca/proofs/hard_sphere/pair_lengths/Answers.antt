use Rattle.uvtheory.specs.Rows.{matrix}
use Rattle.uvtheory.specs.Wca.HardSphere as F
use Rattle.uvtheory_wca.proofs.hard_sphere.pair_lengths.Goals as goal

pub returns-clause-minima : goal.returns-clause-minima
returns-clause-minima g c =
    let A = g.D.DualNum.arithmetic in
    let n = c.args.n in
    c.matrix-rm.ensures (λ i j. F.rm_of A (matrix A n c.args.rep_ij.now i j) (matrix A n c.args.att_ij.now i j)) (λ i j r _ _ h. h)
