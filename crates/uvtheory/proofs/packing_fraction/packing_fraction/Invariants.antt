use Rattle.std.proofs.Common.{◌≡◌, ◌≤◌}
use Rattle.uvtheory.specs.Rows.{row}
use Rattle.uvtheory.specs.PackingFraction as F
use Rattle.uvtheory.proofs.packing_fraction.packing_fraction.Given as goal

abbrev pub invariant-loop-i : goal.invariant-loop-i
invariant-loop-i g l = let A = g.D.DualNum.arithmetic in (l.i ≤ l.fn.n) × (l.eta ≡ F.packing_fraction A l.i (row A l.partial_density) (row A l.diameter))
