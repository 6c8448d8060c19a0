-- Arrays of the code as the functions that the formulas take. A mixture's row holds n values, and a matrix of n rows of n values stands row by row.
use Rattle.std.specs.Prelude.{◌≡◌, ℕ, ◌+◌, ◌-◌, ◌*◌, ◌/◌, ◌%◌, ◌<◌, List, slice_index_or, Float}
use Rattle.std.specs.Float.{nan}
use Rattle.arithmetic.specs.Arithmetic.{Arithmetic}

-- of any values; `none` is read past the end
module _ {X : Type 0} (none : X) where
  abbrev pub row_of : List X → ℕ → X
  row_of xs i = slice_index_or xs i none

  abbrev pub matrix_of : ℕ → List X → ℕ → ℕ → X
  matrix_of n xs i j = slice_index_or xs (i * n + j) none

  -- what an array holds
  abbrev pub RowOf : ℕ → List X → (ℕ → X) → Type 0
  RowOf n xs f = (i : ℕ) → i < n → slice_index_or xs i none ≡ f i

  abbrev pub MatrixOf : ℕ → List X → (ℕ → ℕ → X) → Type 0
  MatrixOf n xs f = (k : ℕ) → k < n * n → slice_index_or xs k none ≡ f (k / n) (k % n)

-- of doubles, as sent or in a table
abbrev pub doubles : List Float → ℕ → Float
doubles = row_of nan

-- of values of an arithmetic
module _ {Value : Type 0} (A : Arithmetic Value) where
  abbrev pub missing : Value
  missing = A.constant nan

  abbrev pub row : List Value → ℕ → Value
  row = row_of missing

  abbrev pub matrix : ℕ → List Value → ℕ → ℕ → Value
  matrix = matrix_of missing

  abbrev pub Row : ℕ → List Value → (ℕ → Value) → Type 0
  Row = RowOf missing

  abbrev pub Matrix : ℕ → List Value → (ℕ → ℕ → Value) → Type 0
  Matrix = MatrixOf missing

-- the place of k_ij among those of i below j, row by row
abbrev pub place : ℕ → ℕ → ℕ → ℕ
place n i j = i * (2 * n - i - 1) / 2 + (j - i - 1)
