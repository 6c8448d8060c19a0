use Rattle.std.proofs.Common.{◌≡◌, ◌*◌, ◌/◌, ◌%◌, ◌≤◌}
use Rattle.uvtheory.specs.Rows.{row, matrix}
use Rattle.uvtheory.proofs.one_fluid.pair_mean.Given as goal

abbrev pub invariant-loop-ij : goal.invariant-loop-ij
invariant-loop-ij g l = let A = g.D.DualNum.arithmetic in (l.ij ≤ l.n * l.n) × (l.sum ≡ A.sum l.ij (λ k. A.mul (A.mul (row A l.x (k / l.n)) (row A l.x (k % l.n))) (A.powi (matrix A l.n l.f (k / l.n) (k % l.n)) l.k)))
