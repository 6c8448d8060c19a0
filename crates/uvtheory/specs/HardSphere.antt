-- hard_sphere/mod.rs: the hard-sphere term (Boublík; Mansoori et al.).
use Rattle.std.specs.Prelude.{ℕ}
use Rattle.arithmetic.specs.Arithmetic.{Arithmetic}
use Rattle.arithmetic.specs.Sums.{recip}
use Rattle.uvtheory.specs.Literals.{one, three, FRAC_PI_6}
use Rattle.uvtheory.specs.Parameters.{State}

module _ {Value : Type 0} (A : Arithmetic Value) where
  open A use {constant, add as ◌+◌, sub as ◌-◌, mul as ◌*◌, div as ◌/◌, neg as -◌, powi as ◌^◌, ln1p, sum}

  infixl 60 ◌+◌ ◌-◌
  infixl 70 ◌*◌ ◌/◌
  infix 80 -◌
  infix 90 ◌^◌
  -- `MonomerShape::Spherical`: the unit of each component
  abbrev pub spherical : ℕ → Value
  spherical i = constant FRAC_PI_6

  unfoldable pub weighted_zeta : ℕ → (ℕ → Value) → (ℕ → Value) → (ℕ → Value) → ℕ → Value
  weighted_zeta n unit diameter weights k = sum n (λ i. weights i * diameter i ^ k * unit i)

  -- of the four zeta of the fractions, and the density
  unfoldable pub bmcsl : Value → Value → Value → Value → Value → Value
  bmcsl z0 z1 z2 z3 density =
      let zeta_23 = z2 / z3 in
      let zeta0 = z0 * density in
      let zeta1 = z1 * density in
      let zeta2 = z2 * density in
      let zeta3 = z3 * density in
      let frac_1mz3 = - recip A (zeta3 - constant one) in
      (zeta1 * zeta2 * frac_1mz3 * constant three + zeta2 ^ 2 * frac_1mz3 ^ 2 * zeta_23 + (zeta2 * zeta_23 ^ 2 - zeta0) * ln1p (- zeta3)) / constant FRAC_PI_6

  unfoldable pub helmholtz_energy_density : ℕ → (ℕ → Value) → (ℕ → Value) → State Value → Value
  helmholtz_energy_density n unit diameter state =
      let zeta = weighted_zeta n unit diameter state.molefracs in
      bmcsl (zeta 0) (zeta 1) (zeta 2) (zeta 3) (sum n state.partial_density)
