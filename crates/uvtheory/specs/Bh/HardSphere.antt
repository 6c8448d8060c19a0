-- uvtheory/eos/bh/hard_sphere.rs: diameters by Barker-Henderson, and the tau of its packing fractions.
use Rattle.std.specs.Prelude.{ℕ}
use Rattle.arithmetic.specs.Arithmetic.{Arithmetic}
use Rattle.uvtheory.specs.Literals.{quarter, half, three_quarters, one, five_quarters, minus_half}
use Rattle.uvtheory.specs.Parameters.{UVTheoryPars}

module _ {Value : Type 0} (A : Arithmetic Value) where
  open A use {constant, add as ◌+◌, mul as ◌*◌, div as ◌/◌, neg as -◌, powi as ◌^◌, ln, powf}

  infixl 60 ◌+◌
  infixl 70 ◌*◌ ◌/◌
  infix 80 -◌
  infix 90 ◌^◌
  -- of one component, by its reduced temperature t and coefficients c
  unfoldable pub quarter_powers : Value → Value → Value → Value → Value
  quarter_powers t c1 c2 c3 = powf t (constant quarter) * c1 + powf t (constant three_quarters) * c2 + powf t (constant five_quarters) * c3

  unfoldable pub diameter_by : Value → Value → Value → Value → Value → Value → Value
  diameter_by t d c0 c4 rep sigma = powf (t * c0 + d * ln (t + constant one) + t ^ 2 * c4 + constant one) (constant minus_half / rep) * sigma

  abbrev pub diameter_of : Value → Value → Value → Value → Value → Value → Value → Value → Value
  diameter_of t c0 c1 c2 c3 c4 rep sigma = diameter_by t (quarter_powers t c1 c2 c3) c0 c4 rep sigma

  unfoldable pub diameter_bh : UVTheoryPars Value → Value → ℕ → Value
  diameter_bh p temperature i =
      let c = p.cd_bh_pure i in
      diameter_of (temperature / p.epsilon_k i) (c 0) (c 1) (c 2) (c 3) (c 4) (p.rep i) (p.sigma i)

  -- the dimensionless tau of a pair
  unfoldable pub tau : Value → Value → Value → Value → Value
  tau di si dj sj = - (di / si + dj / sj) * constant half + constant one
