-- uvtheory/eos/bh/reference_perturbation.rs: the reference perturbation (Mayer-f) by Barker-Henderson, eq. 29.
use Rattle.std.specs.Prelude.{ℕ}
use Rattle.arithmetic.specs.Arithmetic.{Arithmetic}
use Rattle.arithmetic.specs.Sums.{pairs}
use Rattle.uvtheory.specs.Literals.{half, one}
use Rattle.uvtheory.specs.Parameters.{UVTheoryPars, State}
use Rattle.uvtheory.specs.Tables.{BH_CONSTANTS_ETA_A, BH_CONSTANTS_ETA_B}
use Rattle.uvtheory.specs.PackingFraction.{packing_fraction, packing_fraction_a, packing_fraction_b}
use Rattle.uvtheory.specs.ReferenceEnergy.{energy}
use Rattle.uvtheory.specs.Bh.HardSphere.{diameter_bh, tau}

module _ {Value : Type 0} (A : Arithmetic Value) where
  open A use {constant, add as ◌+◌, sub as ◌-◌, mul as ◌*◌, div as ◌/◌, neg as -◌, powi as ◌^◌, sum}

  infixl 60 ◌+◌ ◌-◌
  infixl 70 ◌*◌ ◌/◌
  infix 80 -◌
  infix 90 ◌^◌
  -- of a pair of components
  unfoldable pub term : Value → Value → Value → Value → Value → Value → Value → Value
  term xi xj eta_a eta_b di dj sigma_ij =
      let d_ij = (di + dj) * constant half in
      xi * xj * ((- eta_a * constant half + constant one) / (- eta_a + constant one) ^ 3 - (- eta_b * constant half + constant one) / (- eta_b + constant one) ^ 3)
      * (- d_ij ^ 3 + sigma_ij ^ 3)

  -- by the values of the two components: fraction, diameter and sigma; and by those of the pair
  unfoldable pub term_of : Value → Value → Value → Value → Value → Value → Value → Value → Value → Value
  term_of xi xj di dj si sj sigma_ij rep_ij eta =
      let t = tau A di si dj sj in
      term xi xj (packing_fraction_a A BH_CONSTANTS_ETA_A eta t rep_ij) (packing_fraction_b A BH_CONSTANTS_ETA_B eta t) di dj sigma_ij

  abbrev pub term_ij : (ℕ → Value) → (ℕ → Value) → (ℕ → Value) → (ℕ → ℕ → Value) → (ℕ → ℕ → Value) → Value → ℕ → ℕ → Value
  term_ij x d sigma sigma_ij rep_ij eta i j = term_of (x i) (x j) (d i) (d j) (sigma i) (sigma j) (sigma_ij i j) (rep_ij i j) eta

  unfoldable pub helmholtz_energy_density : UVTheoryPars Value → State Value → Value
  helmholtz_energy_density p state =
      let d = diameter_bh A p state.temperature in
      let eta = packing_fraction A p.n state.partial_density d in
      energy A (pairs A p.n (term_ij state.molefracs d p.sigma p.sigma_ij p.rep_ij eta)) (sum p.n state.partial_density)
