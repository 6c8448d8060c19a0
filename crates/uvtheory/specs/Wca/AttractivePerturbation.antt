-- uvtheory/eos/wca/attractive_perturbation.rs: the attractive perturbation by Weeks, Chandler and Andersen, eq. 52.
use Rattle.std.specs.Prelude.{ℕ, Float}
use Rattle.arithmetic.specs.Arithmetic.{Arithmetic}
use Rattle.arithmetic.specs.Sums.{recip}
use Rattle.uvtheory.specs.Literals.{zero, one, two, three, five, y_exponent_a, y_exponent_b, PI}
use Rattle.uvtheory.specs.Tables.{C_WCA, CU_WCA, C2_WCA}
use Rattle.uvtheory.specs.Parameters.{UVTheoryPars, State, mie_prefactor, mean_field_of, mean_field_constant}
use Rattle.uvtheory.specs.declared.one_fluid.OneFluid.{OneFluid}
use Rattle.uvtheory.specs.OneFluid.{one_fluid_properties, virial_sum, mean_cube}
use Rattle.uvtheory.specs.BetaEff.{coefficient_2}
use Rattle.uvtheory.specs.Wca.HardSphere.{rm_of, diameter_wca, dimensionless_diameter_q_wca}

module _ {Value : Type 0} (A : Arithmetic Value) where
  open A use {constant, add as ◌+◌, sub as ◌-◌, mul as ◌*◌, div as ◌/◌, neg as -◌, powi as ◌^◌, exp, powf, tanh, sum}

  infixl 60 ◌+◌ ◌-◌
  infixl 70 ◌*◌ ◌/◌
  infix 80 -◌
  infix 90 ◌^◌
  -- (S43) and (S53)
  unfoldable pub delta_b12u : Value → Value → Value → Value → Value → Value
  delta_b12u t_x mean_field_constant_x weighted_sigma3_ij q_x rm_x =
      (- mean_field_constant_x - (rm_x ^ 3 - q_x ^ 3) * constant one / constant three) / t_x * constant two * constant PI * weighted_sigma3_ij

  -- a coefficient of I_WCA, eq. (S55), by its row c of `C_WCA`
  unfoldable pub coefficient : (ℕ → Float) → Value → Value → Value
  coefficient c rep_inv tau_x =
      rep_inv ^ 2 * constant (c 2)
      + constant (c 0)
      + rep_inv * constant (c 1)
      + (rep_inv ^ 2 * constant (c 5) + rep_inv * constant (c 4) + constant (c 3)) * tau_x

  -- by the prefactor c
  unfoldable pub correlation_quotient : Value → Value → Value → Value → Value
  correlation_quotient c rho_x rep_inv tau_x =
      let k : ℕ → Value = λ i. coefficient (C_WCA i) rep_inv tau_x in
      c * (k 0 * rho_x + k 1 * rho_x ^ 2 + k 2 * rho_x ^ 3) / (k 3 * rho_x + k 4 * rho_x ^ 2 + k 5 * rho_x ^ 3 + constant one)

  -- by the prefactor c and the place rm-x of the minimum, which `coefficients_wca` calls `rs_x`
  unfoldable pub correlation_integral_of : Value → Value → Value → Value → Value → Value → Value → Value
  correlation_integral_of rho_x mean_field_constant_x c rep_x d_x q_x rm_x =
      (q_x ^ 3 - rm_x ^ 3) * constant one / constant three - mean_field_constant_x + correlation_quotient c rho_x (recip A rep_x) (- d_x + rm_x)

  unfoldable pub u_fraction_wca : Value → Value → Value
  u_fraction_wca rep_x rho = tanh (rho * constant (CU_WCA 0) + rho ^ 2 * (recip A rep_x * constant (CU_WCA 2) + constant (CU_WCA 1)))

  unfoldable pub beta_eff : Value → Value → Value → Value
  beta_eff beta rep c0 =
      let c : ℕ → Value = λ k. coefficient_2 A (C2_WCA k) rep in
      beta * (- recip A (powf beta (constant y_exponent_a) * c 0 + powf beta (constant y_exponent_b) * c 1 + powf beta (constant zero) * c 2 + constant one) * c0 + constant one)

  -- by the mean-field constants at the minimum rs and at the cutoff, a-rs and alpha
  unfoldable pub y_eff_of : Value → Value → Value → Value → Value → Value
  y_eff_of beta rep rs a_rs alpha = exp (beta_eff beta rep (constant one - constant three * (a_rs - alpha) / (constant five ^ 3 - rs ^ 3))) - constant one

  -- by the prefactor c and the place rm of the minimum, which `y_eff` calls `rs`
  unfoldable pub delta_b2_of : Value → Value → Value → Value → Value → Value → Value
  delta_b2_of reduced_temperature rep att q c rm =
      let rc = constant five in
      let alpha = mean_field_of A c rep att rc in
      let beta = recip A reduced_temperature in
      let y = exp beta - constant one in
      let yeff = y_eff_of beta rep rm (mean_field_of A c rep att rm) alpha in
      - (yeff * (rc ^ 3 - rm ^ 3) / constant three + y * (- q ^ 3 + rm ^ 3) / constant three + beta * alpha) * constant two * constant PI

  abbrev pub delta_b2 : Value → Value → Value → Value → Value
  delta_b2 reduced_temperature rep att q = delta_b2_of reduced_temperature rep att q (mie_prefactor A rep att) (rm_of A rep att)

  -- of the pair (i, j)
  abbrev pub delta_b2_ij : UVTheoryPars Value → Value → ℕ → ℕ → Value
  delta_b2_ij p t i j =
      let t_ij = t / p.eps_k_ij i j in
      delta_b2 t_ij (p.rep_ij i j) (p.att_ij i j) (dimensionless_diameter_q_wca A t_ij (p.rep_ij i j) (p.att_ij i j))

  unfoldable pub residual_virial_coefficient : UVTheoryPars Value → (ℕ → Value) → Value → Value
  residual_virial_coefficient p x t = virial_sum A p.n x p.sigma_ij 3 (delta_b2_ij p t)

  -- `delta_a1u` of the properties of the one fluid, by its prefactor c
  unfoldable pub delta_a1u_of : OneFluid Value → Value → Value → Value → Value → Value → Value → Value
  delta_a1u_of o t_x density mean_field_constant_x c q_vdw rm_x =
      density / t_x * correlation_integral_of (density * o.sigma ^ 3) mean_field_constant_x c o.rep o.d q_vdw rm_x * constant two * constant PI * o.weighted_sigma3_ij

  unfoldable pub energy : OneFluid Value → Value → Value → Value → Value → Value
  energy o t density rho b2bar =
      let t_x = t / o.epsilon_k in
      let rm_x = rm_of A o.rep o.att in
      let mean_field_constant_x = mean_field_constant A o.rep o.att rm_x in
      let q_vdw = dimensionless_diameter_q_wca A t_x o.rep o.att in
      let delta_a1u = delta_a1u_of o t_x density mean_field_constant_x (mie_prefactor A o.rep o.att) q_vdw rm_x in
      let b21u = delta_b12u t_x mean_field_constant_x o.weighted_sigma3_ij q_vdw rm_x in
      density * (delta_a1u + (- u_fraction_wca o.rep rho + constant one) * (b2bar - b21u) * density)

  unfoldable pub helmholtz_energy_density : UVTheoryPars Value → State Value → Value
  helmholtz_energy_density p state =
      let x = state.molefracs in
      let t = state.temperature in
      let density = sum p.n state.partial_density in
      energy (one_fluid_properties A p x (diameter_wca A p t)) t density (density * mean_cube A p.n x p.sigma) (residual_virial_coefficient p x t)
