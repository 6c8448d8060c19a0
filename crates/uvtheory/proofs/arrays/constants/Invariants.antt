use Rattle.std.proofs.Common.{◌≡◌, ◌≤◌, length}
use Rattle.uvtheory.specs.Rows.{doubles, Row}
use Rattle.uvtheory.proofs.arrays.constants.Given as goal

abbrev pub invariant-loop-i : goal.invariant-loop-i
invariant-loop-i g l = let A = g.D.DualNum.arithmetic in (l.i ≤ 8) × (length l.row ≡ 8) × Row A l.i l.row (λ i. A.constant (doubles l.xs i))
