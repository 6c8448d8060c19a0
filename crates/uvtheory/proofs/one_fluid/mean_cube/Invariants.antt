use Rattle.std.proofs.Common.{◌≡◌, ◌≤◌}
use Rattle.uvtheory.specs.Rows.{row}
use Rattle.uvtheory.specs.OneFluid as F
use Rattle.uvtheory.proofs.one_fluid.mean_cube.Given as goal

abbrev pub invariant-loop-i : goal.invariant-loop-i
invariant-loop-i g l = let A = g.D.DualNum.arithmetic in (l.i ≤ l.fn.n) × (l.sum ≡ F.mean_cube A l.i (row A l.x) (row A l.s))
