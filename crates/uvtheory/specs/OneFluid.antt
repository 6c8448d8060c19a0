-- `one_fluid_properties`, which bh/attractive_perturbation.rs and wca/attractive_perturbation.rs have word for word, for the diameters of each; and the sums over pairs of
-- their virial coefficients.
use Rattle.std.specs.Prelude.{ℕ}
use Rattle.arithmetic.specs.Arithmetic.{Arithmetic}
use Rattle.arithmetic.specs.Sums.{dot, pairs}
use Rattle.uvtheory.specs.Literals.{one, three}
use Rattle.uvtheory.specs.declared.one_fluid.OneFluid.{OneFluid}
use Rattle.uvtheory.specs.Parameters.{UVTheoryPars}

module _ {Value : Type 0} (A : Arithmetic Value) where
  open A use {constant, mul as ◌*◌, div as ◌/◌, powi as ◌^◌, powf}

  infixl 70 ◌*◌ ◌/◌
  infix 90 ◌^◌
  -- `x.dot(&p.sigma.map(|v| v.powi(3)))`, and the same of the diameters
  unfoldable pub mean_cube : ℕ → (ℕ → Value) → (ℕ → Value) → Value
  mean_cube n x s = dot A n x (λ i. s i ^ 3)

  -- x_i x_j s_ij f_ij, over all pairs, and the same with a power of sigma_ij
  unfoldable pub weighted_pairs : ℕ → (ℕ → Value) → (ℕ → ℕ → Value) → (ℕ → ℕ → Value) → Value
  weighted_pairs n x s f = pairs A n (λ i j. x i * x j * s i j * f i j)

  abbrev pub virial_sum : ℕ → (ℕ → Value) → (ℕ → ℕ → Value) → ℕ → (ℕ → ℕ → Value) → Value
  virial_sum n x sigma_ij k f = weighted_pairs n x (λ i j. sigma_ij i j ^ k) f

  unfoldable pub pair_mean : ℕ → (ℕ → Value) → (ℕ → ℕ → Value) → Value
  pair_mean n x f = pairs A n (λ i j. x i * x j * f i j)

  -- the cube root of a mean of cubes
  unfoldable pub cube_root : Value → Value
  cube_root v = powf v (constant one / constant three)

  -- by the matrices, the sigma and the diameters d
  abbrev pub one_fluid_of : ℕ → (ℕ → ℕ → Value) → (ℕ → ℕ → Value) → (ℕ → ℕ → Value) → (ℕ → ℕ → Value) → (ℕ → Value) → (ℕ → Value) → (ℕ → Value) → OneFluid Value
  one_fluid_of n rep_ij att_ij sigma_ij eps_k_ij sigma x d =
      let weighted_sigma3_ij = pair_mean n x (λ i j. sigma_ij i j ^ 3) in
      let sigma_x = cube_root (mean_cube n x sigma) in
      record {
        rep = pair_mean n x rep_ij;
        att = pair_mean n x att_ij;
        sigma = sigma_x;
        weighted_sigma3_ij = weighted_sigma3_ij;
        epsilon_k = virial_sum n x sigma_ij 3 eps_k_ij / weighted_sigma3_ij;
        d = cube_root (mean_cube n x d) / sigma_x;
      }

  abbrev pub one_fluid_properties : UVTheoryPars Value → (ℕ → Value) → (ℕ → Value) → OneFluid Value
  one_fluid_properties p x d = one_fluid_of p.n p.rep_ij p.att_ij p.sigma_ij p.eps_k_ij p.sigma x d
