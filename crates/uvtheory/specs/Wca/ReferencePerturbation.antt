-- uvtheory/eos/wca/reference_perturbation.rs and reference_perturbation_uvb3.rs: the reference perturbation (Mayer-f), eq. 29.
-- The two have the same text but for the packing tables, which are parameters here: WCA has its own, and B3 has its own.
use Rattle.std.specs.Prelude.{ℕ, Float}
use Rattle.arithmetic.specs.Arithmetic.{Arithmetic}
use Rattle.arithmetic.specs.Sums.{pairs}
use Rattle.uvtheory.specs.Literals.{half, one}
use Rattle.uvtheory.specs.Parameters.{UVTheoryPars, State}
use Rattle.uvtheory.specs.PackingFraction.{packing_fraction, packing_fraction_a, packing_fraction_b}
use Rattle.uvtheory.specs.ReferenceEnergy.{energy}
use Rattle.uvtheory.specs.Wca.HardSphere.{rm_of, diameter_wca, dimensionless_diameter_q_wca, dimensionless_length_scale, tau}

module _ {Value : Type 0} (A : Arithmetic Value) where
  open A use {constant, add as ◌+◌, sub as ◌-◌, mul as ◌*◌, div as ◌/◌, neg as -◌, powi as ◌^◌, sum}

  infixl 60 ◌+◌ ◌-◌
  infixl 70 ◌*◌ ◌/◌
  infix 80 -◌
  infix 90 ◌^◌
  -- of a pair of components
  unfoldable pub term : Value → Value → Value → Value → Value → Value → Value → Value → Value
  term xi xj eta_a eta_b rs_ij d_ij q_ij sigma_ij =
      xi * xj
      * ((- eta_a * constant half + constant one) / (- eta_a + constant one) ^ 3 * (- q_ij ^ 3 + (rs_ij * sigma_ij) ^ 3)
      - (- eta_b * constant half + constant one) / (- eta_b + constant one) ^ 3 * (- d_ij ^ 3 + (rs_ij * sigma_ij) ^ 3))

  module _ (TA TB : ℕ → ℕ → Float) where
    -- by the values of the two components: fraction, place of the minimum, diameter and length; and by those of the pair
    unfoldable pub term_of : Value → Value → Value → Value → Value → Value → Value → Value → Value → Value → Value → Value → Value
    term_of xi xj rmi rmj di dj li lj q sigma_ij rep_ij eta =
        let t = tau A li lj sigma_ij in
        term xi xj (packing_fraction_a A TA eta t rep_ij) (packing_fraction_b A TB eta t)
        ((rmi + rmj) * constant half) ((di + dj) * constant half) (q * sigma_ij) sigma_ij

    abbrev pub term_ij : (ℕ → Value) → (ℕ → Value) → (ℕ → Value) → (ℕ → Value) → (ℕ → ℕ → Value) → (ℕ → ℕ → Value) → (ℕ → ℕ → Value) → Value → ℕ → ℕ → Value
    term_ij x rm d l q sigma_ij rep_ij eta i j = term_of (x i) (x j) (rm i) (rm j) (d i) (d j) (l i) (l j) (q i j) (sigma_ij i j) (rep_ij i j) eta

    unfoldable pub helmholtz_energy_density : UVTheoryPars Value → State Value → Value
    helmholtz_energy_density p state =
        let t = state.temperature in
        let d = diameter_wca A p t in
        let eta = packing_fraction A p.n state.partial_density d in
        let rm : ℕ → Value = λ i. rm_of A (p.rep i) (p.att i) in
        let q : ℕ → ℕ → Value = λ i j. dimensionless_diameter_q_wca A (t / p.eps_k_ij i j) (p.rep_ij i j) (p.att_ij i j) in
        energy A (pairs A p.n (term_ij state.molefracs rm d (dimensionless_length_scale A p t) q p.sigma_ij p.rep_ij eta)) (sum p.n state.partial_density)
