use Rattle.std.proofs.Common.{◌≡◌, ◌≤◌}
use Rattle.uvtheory.specs.Rows.{row}
use Rattle.uvtheory.specs.HardSphere as F
use Rattle.uvtheory.proofs.hard_sphere.weighted_zeta.Given as goal

abbrev pub invariant-loop-i : goal.invariant-loop-i
invariant-loop-i g l = let A = g.D.DualNum.arithmetic in (l.i ≤ l.fn.n) × (l.zeta ≡ F.weighted_zeta A l.i (row A l.unit) (row A l.diameter) (row A l.weights) l.k)
