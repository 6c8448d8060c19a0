use Rattle.std.proofs.Common.{◌≡◌, ◌≤◌, ◌<◌, ℕ, length}
use Rattle.uvtheory.specs.Rows.{Row}
use Rattle.uvtheory.proofs.arrays.each.Given as goal

abbrev pub invariant-loop-i : goal.invariant-loop-i
invariant-loop-i g l = (l.i ≤ l.fn.n) × (length l.row ≡ 8)
    × ((values : ℕ → _) → ((i : ℕ) (r : _) → i < l.fn.n → goal.F-post g l.f i r → r ≡ values i) → Row g.D.DualNum.arithmetic l.i l.row values)
