-- A combined matrix is given on the diagonal, worked for i below j, and the same at (i, j) and (j, i).
use Rattle.std.proofs.Common.{◌≡◌, ℕ, ◌<◌, refl, le_of_lt, arith, le-ltb, lt-ltb, eq-eqb, ne_eqb}
use Rattle.uvtheory.specs.Parameters.{combined}

-- the same at (i, j) and (j, i)
abbrev pub Flips : {X : Type 0} → (ℕ → ℕ → X) → Type 0
Flips f = (i j : ℕ) → j < i → f i j ≡ f j i

module _ {X : Type 0} (pure : ℕ → X) (f : ℕ → ℕ → X) where
  pub itself : (i : ℕ) → combined pure f i i ≡ pure i
  itself i = simp (eq-eqb i i refl)

  pub below : (i j : ℕ) → i < j → combined pure f i j ≡ f i j
  below i j h = simp (ne_eqb i j (λ e. omega arith), lt-ltb i j h)

  pub above : (i j : ℕ) → j < i → combined pure f i j ≡ f j i
  above i j h = simp (ne_eqb i j (λ e. omega arith), le-ltb i j (let z : j < i = h in le_of_lt z))

  pub flip : Flips (combined pure f)
  flip i j h = rw (above i j h, below j i h)
