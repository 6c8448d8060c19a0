use Rattle.std.proofs.Common.{◌≡◌, ◌*◌, ◌/◌, ◌%◌, ◌≤◌}
use Rattle.uvtheory.specs.Rows.{row, matrix}
use Rattle.uvtheory.specs.Bh.ReferencePerturbation as F
use Rattle.uvtheory_bh.proofs.reference_perturbation.pair_sum.Given as goal

abbrev pub invariant-loop-ij : goal.invariant-loop-ij
invariant-loop-ij g l =
    let A = g.D.DualNum.arithmetic in
    (l.ij ≤ l.n * l.n) × (l.a ≡ A.sum l.ij (λ k. F.term_ij A (row A l.x) (row A l.d) (row A l.sigma) (matrix A l.n l.sigma_ij) (matrix A l.n l.rep_ij) l.eta (k / l.n) (k % l.n)))
