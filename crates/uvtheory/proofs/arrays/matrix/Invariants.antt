use Rattle.std.proofs.Common.{◌≡◌, ◌*◌, ◌/◌, ◌%◌, ◌≤◌, ◌<◌, ℕ, length}
use Rattle.uvtheory.specs.Rows.{Row}
use Rattle.uvtheory.proofs.arrays.matrix.Given as goal

abbrev pub invariant-loop-k : goal.invariant-loop-k
invariant-loop-k g l = (l.k ≤ l.n * l.n) × (length l.matrix ≡ 64)
    × ((values : ℕ → ℕ → _) → ((i j : ℕ) (r : _) → i < l.n → j < l.n → goal.F-post g l.f i j r → r ≡ values i j) → Row g.D.DualNum.arithmetic l.k l.matrix (λ k. values (k / l.n) (k % l.n)))
