-- What a loop over components or pairs adds in one turn, and that sums agree whose terms agree.
use Rattle.std.proofs.Common.{◌≡◌, ℕ, zero, suc, ◌+◌, ◌*◌, ◌/◌, ◌%◌, ◌<◌, ◌≤◌, ◌⊎◌, List, length, get_or, set, sym, refl, ◌∙◌, subst, ap, ap₂, inl, inr, le_refl, le_of_suc-le-suc, lt_irrefl, mod-lt, suc-mul, div-lt_iff_lt-mul, add-mul, mul-le-mul, eq-or-lt_of_le, div-add-mod', add_left_cancel, add-one, arith, get_or-set_other, get_or-set_same}
use native.Mathlib.Nat.{div-eq_of_lt-le}
use Rattle.arithmetic.specs.Constants.{zero_d}
use Rattle.arithmetic.specs.Arithmetic.{Arithmetic, sum_by}
use Rattle.uvtheory.specs.Rows.{RowOf}

-- ---- sums, in any arithmetic that adds from the left
abbrev pub Adds : {Value : Type 0} → Arithmetic Value → Type 0
Adds {Value = Value} A = (n : ℕ) (f : ℕ → Value) → A.sum n f ≡ sum_by (A.constant zero_d) A.add n f

module _ {Value : Type 0} (A : Arithmetic Value) where
  -- by the laws of a number type
  pub adds : ((f : ℕ → Value) → A.sum 0 f ≡ A.constant zero_d) → ((n : ℕ) (f : ℕ → Value) → A.sum (n + 1) f ≡ A.add (A.sum n f) (f n)) → Adds A
  unfolding sum_by
  adds start step zero f = start f
  adds start step (suc n) f = subst (λ (k : ℕ). A.sum k f ≡ A.add (sum_by (A.constant zero_d) A.add n f) (f n)) (add-one n) (step n f ∙ ap (λ (v : Value). A.add v (f n)) (adds start step n f))

  -- what one turn of a loop adds
  pub sum_step : Adds A → (f : ℕ → Value) (i : ℕ) → A.sum (i + 1) f ≡ A.add (A.sum i f) (f i)
  unfolding sum_by
  sum_step left f i = rw (left (i + 1) f, add-one i, left i f)

  pub sum_ext : Adds A → (n : ℕ) (f g : ℕ → Value) → ((i : ℕ) → i < n → f i ≡ g i) → A.sum n f ≡ A.sum n g
  unfolding sum_by
  sum_ext left n f g h = left n f ∙ go n h ∙ sym (left n g)
    where
      go : (n : ℕ) → ((i : ℕ) → i < n → f i ≡ g i) → sum_by (A.constant zero_d) A.add n f ≡ sum_by (A.constant zero_d) A.add n g
      go zero h = refl
      go (suc n) h = ap₂ A.add (go n (λ i l. h i (omega arith))) (h n (le_refl (suc n)))

-- ---- the row and the column of the k-th of n × n
pub some_rows : (n k : ℕ) → k < n * n → 0 < n
some_rows zero k h = absurd (omega (arith, h))
some_rows (suc n) k h = omega arith

pub row_of : (n k : ℕ) → k < n * n → k / n < n
row_of n k h = (div-lt_iff_lt-mul (some_rows n k h)).1 h

pub column_of : (n k : ℕ) → k < n * n → k % n < n
column_of n k h = mod-lt k (some_rows n k h)

pub at_pair : (n k : ℕ) → k / n * n + k % n ≡ k
at_pair n k = div-add-mod' k n

pub pair_row : (n i j : ℕ) → j < n → (i * n + j) / n ≡ i
pair_row n i j h = div-eq_of_lt-le n (let z : i * n ≤ i * n + j = omega arith in z) (let z : i * n + j < (i + 1) * n = omega (arith, add-mul i 1 n) in z)

pub pair_column : (n i j : ℕ) → j < n → (i * n + j) % n ≡ j
pair_column n i j h = let e = at_pair n (i * n + j) in let q = pair_row n i j h in add_left_cancel (i * n) (subst (λ (r : ℕ). r * n + (i * n + j) % n ≡ i * n + j) q e)

-- below the diagonal the pair (j, i) stands before the pair (i, j)
mirrored : (n k : ℕ) → k % n < n → k % n < k / n → k / n < n → k % n * n + k / n < k
mirrored n k c h r = let z : suc (k % n) * n ≤ k / n * n = mul-le-mul h (le_refl n) in omega (arith, suc-mul (k % n) n, z, at_pair n k)

pub square_le : (n : ℕ) → n ≤ 8 → n * n ≤ 64
square_le n h = mul-le-mul h h

-- ---- an array that is filled from its start; `none` is read past its end
module _ {X : Type 0} (none : X) where
  pub row_set : (f : ℕ → X) (v : X) (i : ℕ) (xs : List X) → i < length xs → RowOf none i xs f → v ≡ f i → RowOf none (i + 1) (set xs i v) f
  row_set f v i xs l h e j k = go (eq-or-lt_of_le (le_of_suc-le-suc (subst (λ (n : ℕ). j < n) (add-one i) k)))
    where
      go : (j ≡ i) ⊎ (j < i) → get_or (set xs i v) j none ≡ f j
      go (inl p) = subst (λ (n : ℕ). get_or (set xs i v) n none ≡ f n) (sym p) (get_or-set_same xs i v none l ∙ e)
      go (inr q) = get_or-set_other xs i j v none (λ p. lt_irrefl i (subst (λ (n : ℕ). n < i) p q)) ∙ h j q

  -- what stands at (j, i), while an array is filled up to (i, j) below the diagonal
  pub mirror : (f : ℕ → ℕ → X) (n k : ℕ) (xs : List X) → k < n * n → k % n < k / n → RowOf none k xs (λ k. f (k / n) (k % n)) → get_or xs (k % n * n + k / n) none ≡ f (k % n) (k / n)
  mirror f n k xs h l held =
      let r = row_of n k h in
      held (k % n * n + k / n) (mirrored n k (column_of n k h) l r) ∙ ap₂ f (pair_row n (k % n) (k / n) r) (pair_column n (k % n) (k / n) r)

-- it is inside the array
pub mirror_in : {X : Type 0} (n k : ℕ) (xs : List X) → n ≤ 8 → length xs ≡ 64 → k < n * n → k % n < k / n → k % n * n + k / n < length xs
mirror_in n k xs few size h l = let a = mirrored n k (column_of n k h) l (row_of n k h) in let b = square_le n few in omega (arith, size)
