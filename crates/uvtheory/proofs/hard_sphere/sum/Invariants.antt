use Rattle.std.proofs.Common.{◌≡◌, ◌≤◌}
use Rattle.uvtheory.specs.Rows.{row}
use Rattle.uvtheory.proofs.hard_sphere.sum.Given as goal

abbrev pub invariant-loop-value : goal.invariant-loop-value
invariant-loop-value g l = let A = g.D.DualNum.arithmetic in (l.value-index ≤ l.fn.n) × (l.sum ≡ A.sum l.value-index (row A l.x))
