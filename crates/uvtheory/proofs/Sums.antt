-- The sums over arrays that hold the formulas' values are the formulas' sums.
use Rattle.std.proofs.Common.{◌≡◌, ℕ, ◌*◌, ◌/◌, ◌%◌, ◌<◌, List, get_or, ap, ◌∙◌, ap₂}
use Rattle.arithmetic.specs.Arithmetic.{Arithmetic}
use Rattle.uvtheory.specs.Parameters.{State}
use Rattle.uvtheory.specs.Rows.{row_of, matrix_of, RowOf, MatrixOf}
use Rattle.uvtheory.specs.OneFluid as O
use Rattle.uvtheory.specs.HardSphere as S
use Rattle.uvtheory.specs.PackingFraction as P
use Rattle.uvtheory.proofs.Loops.{Adds, sum_ext, at_pair}

pub matrix_at : {X : Type 0} (none : X) (n : ℕ) (xs : List X) (f : ℕ → ℕ → X) → MatrixOf none n xs f → (k : ℕ) → k < n * n → matrix_of none n xs (k / n) (k % n) ≡ f (k / n) (k % n)
matrix_at none n xs f h k l = ap (λ (i : ℕ). get_or xs i none) (at_pair n k) ∙ h k l

-- ---- in any arithmetic that adds from the left
module _ {Value : Type 0} (A : Arithmetic Value) (adds : Adds A) where
  -- over the components, by an array; `none` is read past its end
  module _ (none : Value) (n : ℕ) (w : ℕ → Value) (xs : List Value) (f : ℕ → Value) (h : RowOf none n xs f) where
    pub mean_cube_of : O.mean_cube A n w (row_of none xs) ≡ O.mean_cube A n w f
    unfolding O.mean_cube
    mean_cube_of = sum_ext A adds n _ _ (λ i l. ap (λ (v : Value). A.mul (w i) (A.powi v 3)) (h i l))

    pub packing_fraction_of : P.packing_fraction A n w (row_of none xs) ≡ P.packing_fraction A n w f
    unfolding P.packing_fraction
    packing_fraction_of = sum_ext A adds n _ _ (λ i l. rw (h i l))

  -- by units and diameters, of which the first n count
  module _ (n : ℕ) (u v : ℕ → Value) (units : (i : ℕ) → i < n → u i ≡ v i) (f g : ℕ → Value) (diameters : (i : ℕ) → i < n → f i ≡ g i) where
    pub weighted_zeta_of : (w : ℕ → Value) (k : ℕ) → S.weighted_zeta A n u f w k ≡ S.weighted_zeta A n v g w k
    unfolding S.weighted_zeta
    weighted_zeta_of w k = sum_ext A adds n _ _ (λ i l. rw (diameters i l, units i l))

    pub hard_sphere_of : (s : State Value) → S.helmholtz_energy_density A n u f s ≡ S.helmholtz_energy_density A n v g s
    unfolding S.helmholtz_energy_density
    hard_sphere_of s = let z = weighted_zeta_of s.molefracs in rw (z 0, z 1, z 2, z 3)

  -- over the pairs
  module _ (n : ℕ) (x : ℕ → Value) where
    pub pair_mean_of : (f g : ℕ → ℕ → Value) → ((k : ℕ) → k < n * n → f (k / n) (k % n) ≡ g (k / n) (k % n)) → O.pair_mean A n x f ≡ O.pair_mean A n x g
    unfolding O.pair_mean
    pair_mean_of f g h = sum_ext A adds (n * n) _ _ (λ k l. ap (λ (v : Value). A.mul (A.mul (x (k / n)) (x (k % n))) v) (h k l))

    pub weighted_pairs_of : (s t f g : ℕ → ℕ → Value) → ((k : ℕ) → k < n * n → s (k / n) (k % n) ≡ t (k / n) (k % n)) → ((k : ℕ) → k < n * n → f (k / n) (k % n) ≡ g (k / n) (k % n)) → O.weighted_pairs A n x s f ≡ O.weighted_pairs A n x t g
    unfolding O.weighted_pairs
    weighted_pairs_of s t f g h e = sum_ext A adds (n * n) _ _ (λ k l. ap₂ (λ (u v : Value). A.mul (A.mul (A.mul (x (k / n)) (x (k % n))) u) v) (h k l) (e k l))

  -- over the pairs, by matrices; `none` is read past their ends
  module _ (none : Value) (n : ℕ) (x : ℕ → Value) where
    powers : (sigmas : List Value) (sigma_ij : ℕ → ℕ → Value) → MatrixOf none n sigmas sigma_ij → (e k : ℕ) → k < n * n → A.powi (matrix_of none n sigmas (k / n) (k % n)) e ≡ A.powi (sigma_ij (k / n) (k % n)) e
    powers sigmas sigma_ij h e k l = ap (λ (v : Value). A.powi v e) (matrix_at none n sigmas sigma_ij h k l)

    pub virial_sum_of : (sigmas : List Value) (sigma_ij : ℕ → ℕ → Value) → MatrixOf none n sigmas sigma_ij → (e : ℕ) (xs : List Value) (f : ℕ → ℕ → Value) → MatrixOf none n xs f
        → O.virial_sum A n x (matrix_of none n sigmas) e (matrix_of none n xs) ≡ O.virial_sum A n x sigma_ij e f
    virial_sum_of sigmas sigma_ij s e xs f h = weighted_pairs_of n x _ _ _ _ (powers sigmas sigma_ij s e) (matrix_at none n xs f h)

    pub one_fluid_is : (reps atts sigmas epss ds : List Value) (rep_ij att_ij sigma_ij eps_k_ij : ℕ → ℕ → Value) (sigma d : ℕ → Value)
        → MatrixOf none n reps rep_ij → MatrixOf none n atts att_ij → MatrixOf none n sigmas sigma_ij → MatrixOf none n epss eps_k_ij → RowOf none n ds d
        → O.one_fluid_of A n (matrix_of none n reps) (matrix_of none n atts) (matrix_of none n sigmas) (matrix_of none n epss) sigma x (row_of none ds) ≡ O.one_fluid_of A n rep_ij att_ij sigma_ij eps_k_ij sigma x d
    one_fluid_is reps atts sigmas epss ds rep_ij att_ij sigma_ij eps_k_ij sigma d rep_are att_are sigma_are epsilon_are d_are =
        let rep = pair_mean_of n x (matrix_of none n reps) rep_ij (matrix_at none n reps rep_ij rep_are) in
        let att = pair_mean_of n x (matrix_of none n atts) att_ij (matrix_at none n atts att_ij att_are) in
        let cubes = pair_mean_of n x (λ i j. A.powi (matrix_of none n sigmas i j) 3) (λ i j. A.powi (sigma_ij i j) 3) (powers sigmas sigma_ij sigma_are 3) in
        let eps = virial_sum_of sigmas sigma_ij sigma_are 3 epss eps_k_ij epsilon_are in
        rw (rep, att, cubes, eps, mean_cube_of none n x ds d d_are)
