-- uvtheory/eos/wca/attractive_perturbation_uvb3.rs: the attractive perturbation of WCA-B3. `C_WCA`, `delta_b12u`, `correlation_integral_wca` and `coefficients_wca` are
-- those of attractive_perturbation.rs, word for word; `u_fraction_wca` and `delta_b2` are its own.
use Rattle.std.specs.Prelude.{ℕ, zero, suc, ◌+◌ as ◌+ℕ◌, ◌*◌ as ◌×ℕ◌, Float}
use Rattle.arithmetic.specs.Arithmetic.{Arithmetic}
use Rattle.arithmetic.specs.Sums.{recip}
use Rattle.uvtheory.specs.Literals as N
use Rattle.uvtheory.specs.Tables.{C_WCA, C_B2_RSAP, K_LJ_B3, P_B3, L_B3, M_B3, CU_WCA_UVB3, WCA_CONSTANTS_ETA_A_UVB3, WCA_CONSTANTS_ETA_B_UVB3}
use Rattle.uvtheory.specs.Factorials.{factorial, whole}
use Rattle.uvtheory.specs.Parameters.{UVTheoryPars, State, mie_prefactor, mean_field_constant}
use Rattle.uvtheory.specs.declared.one_fluid.OneFluid.{OneFluid}
use Rattle.uvtheory.specs.OneFluid.{one_fluid_properties, virial_sum, mean_cube}
use Rattle.uvtheory.specs.PackingFraction.{coefficient_b}
use Rattle.uvtheory.specs.Wca.HardSphere.{rm_of, diameter_wca, dimensionless_diameter_q_wca}
use Rattle.uvtheory.specs.Wca.AttractivePerturbation.{delta_b12u, delta_a1u_of}

module _ {Value : Type 0} (A : Arithmetic Value) where
  open A use {constant, add as ◌+◌, sub as ◌-◌, mul as ◌*◌, div as ◌/◌, neg as -◌, powi as ◌^◌, exp, powf, tanh, if_below, sum}

  infixl 60 ◌+◌ ◌-◌
  infixl 70 ◌*◌ ◌/◌
  infix 80 -◌
  infix 90 ◌^◌
  abbrev one : Value
  one = constant N.one

  -- the low temperature correction; the test is strict, and e is the exponential of both cases
  unfoldable pub omega : Value → Value → Value
  omega t_x e = if_below t_x N.limit175 (e * (recip A (tanh (t_x * constant (CU_WCA_UVB3 7))) - one) ^ 2) (e * constant N.zero)

  unfoldable pub u_fraction_wca : Value → Value → Value → Value
  u_fraction_wca rep_x rho t_x =
      let c : ℕ → Value = λ i. constant (CU_WCA_UVB3 i) in
      - exp (- (rho ^ 2 * (recip A (rep_x + c 4) * c 3 + c 2) + omega t_x (exp (- t_x * c 5 * (rho - c 6) ^ 2)))) + one

  -- a coefficient of the residual second virial coefficient (RSAP), by its row c of `C_B2_RSAP` and the reciprocals of rep and its powers
  unfoldable pub coefficient_rsap_of : (ℕ → Float) → Value → Value → Value → Value
  coefficient_rsap_of c r1 r2 r3 = r1 * constant (c 1) + r2 * constant (c 2) + r3 * constant (c 3) + constant (c 0)

  abbrev pub coefficient_rsap : (ℕ → Float) → Value → Value
  coefficient_rsap c rep = coefficient_rsap_of c (recip A rep) (recip A (rep ^ 2)) (recip A (rep ^ 3))

  -- beta + beta^2 / (2! × 2) + .., of m terms after the first
  unfoldable pub sum_beta : ℕ → Value → Value
  sum_beta zero beta = beta
  sum_beta (suc m) beta = sum_beta m beta + beta ^ suc (suc m) / (constant (factorial m) * constant (whole m))

  -- by the place rm of the minimum
  unfoldable pub delta_b2_of : Value → Value → Value → Value → Value
  delta_b2_of reduced_temperature rep q rm =
      let beta = recip A reduced_temperature in
      let b20 = q ^ 3 * constant N.two / constant N.three * constant N.PI in
      let y = exp beta - one in
      (b20 - rm ^ 3 * constant N.two / constant N.three * constant N.PI - coefficient_rsap (C_B2_RSAP 0) rep) * y
      - sum_beta 14 beta * coefficient_rsap (C_B2_RSAP 1) rep
      - beta * coefficient_rsap (C_B2_RSAP 2) rep
      - beta ^ 2 * coefficient_rsap (C_B2_RSAP 3) rep

  abbrev pub delta_b2 : Value → Value → Value → Value → Value
  delta_b2 reduced_temperature rep att q = delta_b2_of reduced_temperature rep q (rm_of A rep att)

  -- of the pair (i, j)
  abbrev pub delta_b2_ij : UVTheoryPars Value → Value → ℕ → ℕ → Value
  delta_b2_ij p t i j =
      let t_ij = t / p.eps_k_ij i j in
      delta_b2 t_ij (p.rep_ij i j) (p.att_ij i j) (dimensionless_diameter_q_wca A t_ij (p.rep_ij i j) (p.att_ij i j))

  unfoldable pub residual_virial_coefficient : UVTheoryPars Value → (ℕ → Value) → Value → Value
  residual_virial_coefficient p x t = virial_sum A p.n x p.sigma_ij 3 (delta_b2_ij p t)

  -- k1 by the first row c of `C_WCA` and the reciprocals of nu and its square
  unfoldable pub k1_of : (ℕ → Float) → Value → Value → Value → Value
  k1_of c r1 r2 tau = r1 * constant (c 1) + r2 * constant (c 2) + constant (c 0) + (r1 * constant (c 4) + r2 * constant (c 5) + constant (c 3)) * tau

  -- by the prefactor c of nu and att
  unfoldable pub delta_b31u_of : Value → Value → Value → Value → Value → Value → Value
  delta_b31u_of t_x weighted_sigma3_ij rm_x nu c d_x =
      let k1 = k1_of (C_WCA 0) (recip A nu) (recip A (nu ^ 2)) (rm_x - d_x) in
      recip A t_x * constant N.four * c * constant N.PI * k1 * weighted_sigma3_ij ^ 2

  -- b31 to b34, for i from 0: by four entries of `K_LJ_B3` and one of each other table
  unfoldable pub b3_term : ℕ → Value → Value → Value
  b3_term i t_x rep_x =
      let k : ℕ → Value = λ j. constant (K_LJ_B3 (4 ×ℕ i +ℕ j)) in
      let r = rep_x - constant N.twelve in
      recip A (powf (t_x + k 2) ((r / (rep_x - constant N.six) * constant (M_B3 i) + one) * k 3)) * k 1 * (r / (rep_x - constant (L_B3 i)) * constant (P_B3 i) + one) + constant (K_LJ_B3 (4 ×ℕ i))

  -- ten times the square of the volume of a sphere
  unfoldable pub ten_volumes : Value → Value
  ten_volumes d = (d ^ 3 * constant N.PI / constant N.six) ^ 2 * constant N.ten

  -- by the first row a of `WCA_CONSTANTS_ETA_A_UVB3`. Its sums stand the other way round than in `packing_fraction_a_uvb3`.
  unfoldable pub c1_eta_a : (ℕ → Float) → Value → Value → Value
  c1_eta_a a tau rep_inv = tau * (rep_inv * constant (a 1) + constant (a 0)) + tau * tau * (rep_inv * constant (a 3) + constant (a 2))

  unfoldable pub b30_uv : Value → Value → Value → Value → Value
  b30_uv rm_x rep_x d_x q_x =
      let tau = - d_x + rm_x in
      ten_volumes d_x
      - d_x ^ 3 * constant N.five / constant N.nine * constant N.PI ^ 2
      * ((- q_x ^ 3 + rm_x ^ 3) * (c1_eta_a (WCA_CONSTANTS_ETA_A_UVB3 0) tau (recip A rep_x) + one) - (- d_x ^ 3 + rm_x ^ 3) * (coefficient_b A (WCA_CONSTANTS_ETA_B_UVB3 0) tau + one))

  unfoldable pub delta_b3 : Value → Value → Value → Value → Value → Value
  delta_b3 t_x rm_x rep_x d_x q_x =
      let beta = recip A t_x in
      ten_volumes q_x
      + b3_term 0 t_x rep_x * beta
      + b3_term 1 t_x rep_x * beta ^ 2
      + b3_term 2 t_x rep_x * beta ^ 3
      + b3_term 3 t_x rep_x * beta ^ 4
      - b30_uv rm_x rep_x d_x q_x

  -- of the pair (i, j)
  abbrev pub delta_b3_ij : UVTheoryPars Value → Value → (ℕ → Value) → ℕ → ℕ → Value
  delta_b3_ij p t d i j =
      let t_ij = t / p.eps_k_ij i j in
      delta_b3 t_ij (rm_of A (p.rep_ij i j) (p.att_ij i j)) (p.rep_ij i j) ((d i / p.sigma i + d j / p.sigma j) * constant N.half)
      (dimensionless_diameter_q_wca A t_ij (p.rep_ij i j) (p.att_ij i j))

  unfoldable pub residual_third_virial_coefficient : UVTheoryPars Value → (ℕ → Value) → Value → (ℕ → Value) → Value
  residual_third_virial_coefficient p x t d = virial_sum A p.n x p.sigma_ij 6 (delta_b3_ij p t d)

  unfoldable pub alpha : Value → Value → Value → Value
  alpha rho_x rep_x t_x = exp (- rho_x * recip A rep_x * constant (CU_WCA_UVB3 0) * (recip A (t_x ^ 2) * constant (CU_WCA_UVB3 1) + one))

  unfoldable pub energy : OneFluid Value → Value → Value → Value → Value → Value → Value
  energy o t density rho b2bar b3bar =
      let t_x = t / o.epsilon_k in
      let rm_x = rm_of A o.rep o.att in
      let c = mie_prefactor A o.rep o.att in
      let mean_field_constant_x = mean_field_constant A o.rep o.att rm_x in
      let q_vdw = dimensionless_diameter_q_wca A t_x o.rep o.att in
      let delta_a1u = delta_a1u_of A o t_x density mean_field_constant_x c q_vdw rm_x in
      let b21u = delta_b12u A t_x mean_field_constant_x o.weighted_sigma3_ij q_vdw rm_x in
      let db31u = delta_b31u_of t_x o.weighted_sigma3_ij rm_x o.rep c o.d in
      density
      * (delta_a1u
      + (- u_fraction_wca o.rep rho t_x + one)
      * ((b2bar - b21u) * density + density ^ 2 * alpha (density * o.sigma ^ 3) o.rep t_x * (b3bar - db31u) * constant N.half))

  unfoldable pub helmholtz_energy_density : UVTheoryPars Value → State Value → Value
  helmholtz_energy_density p state =
      let x = state.molefracs in
      let t = state.temperature in
      let density = sum p.n state.partial_density in
      let d = diameter_wca A p t in
      energy (one_fluid_properties A p x d) t density (density * mean_cube A p.n x p.sigma) (residual_virial_coefficient p x t) (residual_third_virial_coefficient p x t d)
