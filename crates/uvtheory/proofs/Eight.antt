-- An array of eight values, as the function that a formula takes; `none` is read past its end.
use Rattle.std.proofs.Common.{◌≡◌, ℕ, zero, suc, ◌≤◌, [], ◌∷◌, arith}
use Rattle.std.proofs.Math.Path.{fun_ext}
use Rattle.uvtheory.specs.Rows.{row_of}

module _ {X : Type 0} (none : X) (x : ℕ → X) (past : (i : ℕ) → 8 ≤ i → none ≡ x i) {a b c d e f g h : X}
    (a_is : a ≡ x 0) (b_is : b ≡ x 1) (c_is : c ≡ x 2) (d_is : d ≡ x 3) (e_is : e ≡ x 4) (f_is : f ≡ x 5) (g_is : g ≡ x 6) (h_is : h ≡ x 7) where
  at : (i : ℕ) → row_of none (a ∷ b ∷ c ∷ d ∷ e ∷ f ∷ g ∷ h ∷ []) i ≡ x i
  at zero = a_is
  at (suc zero) = b_is
  at (suc (suc zero)) = c_is
  at (suc (suc (suc zero))) = d_is
  at (suc (suc (suc (suc zero)))) = e_is
  at (suc (suc (suc (suc (suc zero))))) = f_is
  at (suc (suc (suc (suc (suc (suc zero)))))) = g_is
  at (suc (suc (suc (suc (suc (suc (suc zero))))))) = h_is
  at (suc (suc (suc (suc (suc (suc (suc (suc i)))))))) = past (suc (suc (suc (suc (suc (suc (suc (suc i)))))))) (omega arith)

  pub eight : row_of none (a ∷ b ∷ c ∷ d ∷ e ∷ f ∷ g ∷ h ∷ []) ≡ x
  eight = fun_ext at
