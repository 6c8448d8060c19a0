use Rattle.std.proofs.Common.{◌≡◌, ◌*◌, ◌/◌, ◌%◌, ◌≤◌, ◌<◌, ℕ, length}
use Rattle.uvtheory.specs.Rows.{Row}
use Rattle.uvtheory.proofs.arrays.symmetric.Given as goal

abbrev pub invariant-loop-k : goal.invariant-loop-k
invariant-loop-k g l = (l.k ≤ l.n * l.n) × (length l.matrix ≡ 64)
    × ((values : ℕ → ℕ → _) → ((i j : ℕ) (r : _) → i ≤ j → j < l.n → goal.F-post g l.f i j r → r ≡ values i j) → ((i j : ℕ) → j < i → values i j ≡ values j i)
    → Row g.D.DualNum.arithmetic l.k l.matrix (λ k. values (k / l.n) (k % l.n)))
