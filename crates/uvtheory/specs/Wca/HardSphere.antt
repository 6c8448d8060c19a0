-- uvtheory/eos/wca/hard_sphere.rs: diameters and lengths by Weeks, Chandler and Andersen.
use Rattle.std.specs.Prelude.{ℕ, Float}
use Rattle.arithmetic.specs.Arithmetic.{Arithmetic}
use Rattle.arithmetic.specs.Sums.{recip}
use Rattle.uvtheory.specs.Literals.{half, one, two, three, six, seven, twelve, PI}
use Rattle.uvtheory.specs.Tables.{WCA_CONSTANTS_Q}
use Rattle.uvtheory.specs.Parameters.{UVTheoryPars}

module _ {Value : Type 0} (A : Arithmetic Value) where
  open A use {constant, add as ◌+◌, sub as ◌-◌, mul as ◌*◌, div as ◌/◌, neg as -◌, powi as ◌^◌, sqrt, powf}

  infixl 60 ◌+◌ ◌-◌
  infixl 70 ◌*◌ ◌/◌
  infix 80 -◌
  infix 90 ◌^◌
  -- the place of the potential's minimum: `rm`, and `rs` elsewhere in the Rust
  unfoldable pub rm_of : Value → Value → Value
  rm_of rep att = powf (rep / att) (constant one / (rep - att))

  -- of one component, by its reduced temperature t; the literal 6 is the Rust's
  unfoldable pub diameter_of : Value → Value → Value → Value → Value
  diameter_of t rep rm sigma =
      let c = powf (rep / constant six) (- rep / (constant twelve - constant two * rep)) - constant one in
      recip A (powf (sqrt t * c + constant one) (constant two / rep)) * rm * sigma

  unfoldable pub diameter_wca : UVTheoryPars Value → Value → ℕ → Value
  diameter_wca p temperature i = diameter_of (temperature / p.epsilon_k i) (p.rep i) (rm_of (p.rep i) (p.att i)) (p.sigma i)

  -- the coefficients 2 and 3, by their row c of `WCA_CONSTANTS_Q`
  unfoldable pub coefficient_q : (ℕ → Float) → Value → Value
  coefficient_q c nu =
      (nu - constant seven) * constant (c 1) + (nu - constant seven) ^ 2 * constant (c 2) + (nu - constant seven) ^ 3 * constant (c 3) + constant (c 0)

  unfoldable pub polynomial_q : Value → Value → Value → Value
  polynomial_q t_x nu n =
      powf t_x (constant two) * coefficient_q (WCA_CONSTANTS_Q 2) nu
      + powf t_x (constant three / constant two) * coefficient_q (WCA_CONSTANTS_Q 1) nu
      + t_x * ((nu - constant seven) * constant (WCA_CONSTANTS_Q 0 1) + constant (WCA_CONSTANTS_Q 0 0))
      + powf t_x (constant one / constant two) * sqrt (nu * constant two * constant PI / n)
      + constant one

  -- by the place rs of the minimum
  unfoldable pub q_of : Value → Value → Value → Value → Value
  q_of t_x nu n rs = powf (polynomial_q t_x nu n) (- recip A (nu * constant two)) * rs

  abbrev pub dimensionless_diameter_q_wca : Value → Value → Value → Value
  dimensionless_diameter_q_wca t_x nu n = q_of t_x nu n (rm_of nu n)

  unfoldable pub dimensionless_length_scale : UVTheoryPars Value → Value → ℕ → Value
  dimensionless_length_scale p temperature i = - diameter_wca p temperature i + rm_of (p.rep i) (p.att i) * p.sigma i

  -- the dimensionless tau of a pair
  unfoldable pub tau : Value → Value → Value → Value
  tau li lj sigma_ij = (li + lj) / sigma_ij * constant half
