-- What stands at (i, j) of a matrix that holds the formulas' values.
use Rattle.std.proofs.Common.{◌≡◌, ℕ, suc, ◌+◌, ◌*◌, ◌<◌, ◌≤◌, List, length, get_or, ◌∙◌, ap₂, sym, subst, arith, le_refl, mul-le-mul, suc-mul}
use Rattle.std.proofs.lemmas.List.{get_or_default}
use Rattle.uvtheory.specs.Rows.{matrix_of, MatrixOf}
use Rattle.uvtheory.proofs.Loops.{pair_row, pair_column}

inside : (n i j : ℕ) → i < n → j < n → i * n + j < n * n
inside n i j h k = let z : suc i * n ≤ n * n = mul-le-mul h (le_refl n) in omega (arith, suc-mul i n, z)

-- within an array of 64
pub fits : (n i j : ℕ) → n ≤ 8 → i < n → j < n → i * n + j < 64
fits n i j few h k = let a = inside n i j h k in let b : n * n ≤ 8 * 8 = mul-le-mul few few in omega (arith, a, b)

pub entry : {X : Type 0} (none : X) (n i j : ℕ) (xs : List X) (f : ℕ → ℕ → X) → MatrixOf none n xs f → i < n → j < n → matrix_of none n xs i j ≡ f i j
entry none n i j xs f held h l = held (i * n + j) (inside n i j h l) ∙ ap₂ f (pair_row n i j l) (pair_column n i j l)

-- at the place k of (i, j), whatever is read past the end
pub at_place : {X : Type 0} (none v : X) (n i j k : ℕ) (xs : List X) (f : ℕ → ℕ → X) → MatrixOf none n xs f → i < n → j < n → k ≡ i * n + j → k < length xs → get_or xs k v ≡ f i j
at_place none v n i j k xs f held h l e inside_xs = get_or_default xs k v none inside_xs ∙ subst (λ (m : ℕ). get_or xs m none ≡ f i j) (sym e) (entry none n i j xs f held h l)
