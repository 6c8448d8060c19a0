-- uvtheory/eos/bh/attractive_perturbation.rs: the attractive perturbation by Barker-Henderson, eq. 52.
use Rattle.std.specs.Prelude.{ℕ, Float}
use Rattle.arithmetic.specs.Arithmetic.{Arithmetic}
use Rattle.arithmetic.specs.Sums.{recip}
use Rattle.uvtheory.specs.Literals.{one, two, three, four, five, six, eight, sixteen, twenty_four, minus_three_quarters, u_exponent_a, u_exponent_b, PI, FRAC_PI_3}
use Rattle.uvtheory.specs.Tables.{C_BH, CU_BH, C2_BH}
use Rattle.uvtheory.specs.Parameters.{UVTheoryPars, State, mie_prefactor, mean_field_constant}
use Rattle.uvtheory.specs.Bh.HardSphere.{diameter_bh}
use Rattle.uvtheory.specs.declared.one_fluid.OneFluid.{OneFluid}
use Rattle.uvtheory.specs.OneFluid.{one_fluid_properties, virial_sum, mean_cube}
use Rattle.uvtheory.specs.BetaEff.{coefficient_2}

module _ {Value : Type 0} (A : Arithmetic Value) where
  open A use {constant, add as ◌+◌, sub as ◌-◌, mul as ◌*◌, div as ◌/◌, neg as -◌, powi as ◌^◌, sqrt, ln, exp, powf, tanh, sum}

  infixl 60 ◌+◌ ◌-◌
  infixl 70 ◌*◌ ◌/◌
  infix 80 -◌
  infix 90 ◌^◌
  unfoldable pub delta_b12u : Value → Value → Value → Value
  delta_b12u t_x mean_field_constant_x weighted_sigma3_ij = - mean_field_constant_x / t_x * constant two * constant PI * weighted_sigma3_ij

  unfoldable pub beta_eff : Value → Value → Value → Value
  beta_eff beta rep c0 =
      let c : ℕ → Value = λ k. coefficient_2 A (C2_BH k) rep in
      beta * (- recip A (beta * (beta * c 1 + beta ^ 3 * c 2 + c 0) + constant one) * c0 + constant one)

  -- by the mean-field constants at rs = 1 and at the cutoff, a-rs and alpha
  unfoldable pub y_eff_of : Value → Value → Value → Value → Value
  y_eff_of beta rep a_rs alpha = exp (beta_eff beta rep (constant one - constant three * (a_rs - alpha) / (constant five ^ 3 - constant one ^ 3))) - constant one

  unfoldable pub delta_b2 : Value → Value → Value → Value
  delta_b2 reduced_temperature rep att =
      let rc = constant five in
      let alpha = mean_field_constant A rep att rc in
      let beta = recip A reduced_temperature in
      let yeff = y_eff_of beta rep (mean_field_constant A rep att (constant one)) alpha in
      - (yeff * (rc ^ 3 - constant one) / constant three + beta * alpha) * constant two * constant PI

  -- of the pair (i, j)
  abbrev pub delta_b2_ij : UVTheoryPars Value → Value → ℕ → ℕ → Value
  delta_b2_ij p t i j = delta_b2 (t / p.eps_k_ij i j) (p.rep_ij i j) (p.att_ij i j)

  unfoldable pub residual_virial_coefficient : UVTheoryPars Value → (ℕ → Value) → Value → Value
  residual_virial_coefficient p x t = virial_sum A p.n x p.sigma_ij 3 (delta_b2_ij p t)

  -- The first of `coefficients_bh`, by the power d-rep of d that two of its parts have. The literal 6 is the Rust's; only the last power has att.
  unfoldable pub c11 : Value → Value → Value → Value
  c11 rep d d_rep =
      d_rep * (powf (constant one * constant two) (- rep + constant three) - powf d (rep - constant three)) / (- rep + constant three)
      + (- d ^ 3 * constant eight + constant one) / constant twenty_four

  unfoldable pub c12 : Value → Value → Value → Value
  c12 rep d d_rep =
      (d_rep * (powf (constant one * constant two) (- rep + constant four) - powf d (rep - constant four)) / (- rep + constant four)
      + (- d ^ 2 * constant four + constant one) / constant eight)
      * constant minus_three_quarters

  unfoldable pub c13 : Value → Value → Value → Value
  c13 rep att d =
      ((powf (d * constant two) (- rep + constant six) - constant one) / (- rep + constant six) - ln (d * constant two) * powf d (- att + constant six)) / constant sixteen

  unfoldable pub coefficient_1 : Value → Value → Value → Value
  coefficient_1 rep att d =
      let d_rep = powf d (- rep + constant six) in
      (c11 rep d d_rep + c12 rep d d_rep + c13 rep att d) * constant FRAC_PI_3 * constant four

  -- the second and the third coefficient, by their row c of `C_BH`
  unfoldable pub coefficient : (ℕ → Float) → Value → Value → Value
  coefficient c rep_inv d = rep_inv * constant (c 1) + constant (c 0) - (rep_inv * constant (c 3) + constant (c 2)) * (- d + constant one)

  -- by the prefactor c
  unfoldable pub correlation_integral_of : Value → Value → Value → Value → Value → Value → Value
  correlation_integral_of rho_x mean_field_constant_x c rep_x att_x d_x =
      let rep_inv = recip A rep_x in
      - mean_field_constant_x
      + c * (coefficient_1 rep_x att_x d_x * rho_x + coefficient (C_BH 0) rep_inv d_x * rho_x ^ 2) / (coefficient (C_BH 1) rep_inv d_x * rho_x + constant one) ^ 2

  unfoldable pub activation : Value → Value → Value
  activation c one_fluid_beta = one_fluid_beta * sqrt c / sqrt (one_fluid_beta ^ 2 * c + constant one)

  -- a coefficient of `u_fraction_bh`, by its row c of `CU_BH`
  abbrev pub coefficient_u : (ℕ → Float) → Value → Value
  coefficient_u c inv_rep = inv_rep * constant (c 1) + constant (c 0)

  unfoldable pub u_fraction_bh : Value → Value → Value → Value
  u_fraction_bh rep_x rho one_fluid_beta =
      let inv_rep = recip A rep_x in
      let c : ℕ → Value = λ i. coefficient_u (CU_BH i) inv_rep in
      (activation (c 1) one_fluid_beta * (- c 0 + constant one) + c 0)
      * tanh (powf rho (constant u_exponent_a) * c 2 + powf rho (constant u_exponent_b) * c 3)

  -- of the properties of the one fluid
  unfoldable pub energy : OneFluid Value → Value → Value → Value → Value → Value
  energy o t density rho b2bar =
      let t_x = t / o.epsilon_k in
      let rho_x = density * o.sigma ^ 3 in
      let mean_field_constant_x = mean_field_constant A o.rep o.att (constant one) in
      let i_bh = correlation_integral_of rho_x mean_field_constant_x (mie_prefactor A o.rep o.att) o.rep o.att o.d in
      let delta_a1u = density / t_x * i_bh * constant two * constant PI * o.weighted_sigma3_ij in
      let u_fraction = u_fraction_bh o.rep rho (recip A t_x) in
      let b21u = delta_b12u t_x mean_field_constant_x o.weighted_sigma3_ij in
      density * (delta_a1u + (- u_fraction + constant one) * (b2bar - b21u) * density)

  unfoldable pub helmholtz_energy_density : UVTheoryPars Value → State Value → Value
  helmholtz_energy_density p state =
      let x = state.molefracs in
      let t = state.temperature in
      let density = sum p.n state.partial_density in
      energy (one_fluid_properties A p x (diameter_bh A p t)) t density (density * mean_cube A p.n x p.sigma) (residual_virial_coefficient p x t)
