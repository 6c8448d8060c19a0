-- uvtheory/parameters.rs: the parameters of a mixture, as sent and combined, and `mie_prefactor`, `mean_field_constant` and `bh_coefficients`.
use Rattle.std.specs.Prelude.{ℕ, zero, suc, cond, ◌==◌, nat_lt, Float}
use Rattle.std.specs.Float.Ieee.{eq}
use Rattle.arithmetic.specs.Arithmetic.{Arithmetic}
use Rattle.arithmetic.specs.Constants.{zero_d}
use Rattle.uvtheory.specs.Literals.{half, one, three, six, seven, minus_two}
use Rattle.uvtheory.specs.Tables.{CD_BH}

-- `UVTheoryParameters`: what is sent of a mixture. Doubles in every arithmetic, since parameters are taken as sent; `k_ij` and `l_ij` are read for i below j.
pub record UVTheoryParameters : Type 0 where
  pub n : ℕ
  pub rep : ℕ → Float
  pub att : ℕ → Float
  pub sigma : ℕ → Float
  pub epsilon_k : ℕ → Float
  pub k_ij : ℕ → ℕ → Float
  pub l_ij : ℕ → ℕ → Float

-- `UVTheoryPars`: functions of the component's number stand for vectors and matrices. `cd_bh_binary` is left out, since no energy reads it.
pub record UVTheoryPars (X : Type 0) : Type 0 where
  pub n : ℕ
  pub rep : ℕ → X
  pub att : ℕ → X
  pub sigma : ℕ → X
  pub epsilon_k : ℕ → X
  pub rep_ij : ℕ → ℕ → X
  pub att_ij : ℕ → ℕ → X
  pub sigma_ij : ℕ → ℕ → X
  pub eps_k_ij : ℕ → ℕ → X
  pub cd_bh_pure : ℕ → ℕ → X

-- feos_core's `StateHD`
pub record State (X : Type 0) : Type 0 where
  pub temperature : X
  pub partial_density : ℕ → X
  pub molefracs : ℕ → X

-- with f of each of its values: so a state of doubles enters an arithmetic
abbrev pub mapped : {X Y : Type 0} → (X → Y) → State X → State Y
mapped f s = record { temperature = f s.temperature; partial_density = λ i. f (s.partial_density i); molefracs = λ i. f (s.molefracs i) }

-- A matrix whose diagonal is given, and that is worked for i below j and copied.
abbrev pub combined : {X : Type 0} → (ℕ → X) → (ℕ → ℕ → X) → ℕ → ℕ → X
combined pure f i j = cond (i == j) (pure i) (cond (nat_lt i j) (f i j) (f j i))

module _ {Value : Type 0} (A : Arithmetic Value) where
  open A use {constant, add as ◌+◌, sub as ◌-◌, mul as ◌*◌, div as ◌/◌, neg as -◌, sqrt, powf}

  infixl 60 ◌+◌ ◌-◌
  infixl 70 ◌*◌ ◌/◌
  infix 80 -◌
  unfoldable pub mie_prefactor : Value → Value → Value
  mie_prefactor rep att = rep / (rep - att) * powf (rep / att) (att / (rep - att))

  -- by the prefactor c
  unfoldable pub mean_field_of : Value → Value → Value → Value → Value
  mean_field_of c rep att x = c * (powf x (- att + constant three) / (att - constant three) - powf x (- rep + constant three) / (rep - constant three))

  abbrev pub mean_field_constant : Value → Value → Value → Value
  mean_field_constant rep att x = mean_field_of (mie_prefactor rep att) rep att x

  -- a row c of `CD_BH` times the vector (1, alpha, alpha²)
  abbrev pub cd_bh_times : (ℕ → Float) → Value → Value
  cd_bh_times c alpha = constant (c 0) * constant one + constant (c 1) * alpha + constant (c 2) * (alpha * alpha)

  -- of rep 7, and of the att that the Rust gives, which is 6
  abbrev pub inv_a76 : Value → Value
  inv_a76 att = constant one / mean_field_constant (constant seven) att (constant one)

  -- by the prefactor c of rep and att, and alpha
  unfoldable pub bh_coefficient : Value → Value → Value → Value → ℕ → Value
  bh_coefficient c alpha rep att zero = constant minus_two * rep / ((att - rep) * c)
  bh_coefficient c alpha rep att (suc k) = cd_bh_times (CD_BH k) alpha

  abbrev pub bh_coefficients : Value → Value → ℕ → Value
  bh_coefficients rep att =
      let am6 = mean_field_constant rep att (constant one) in
      bh_coefficient (mie_prefactor rep att) (constant one / am6 - inv_a76 att) rep att

  -- M-104: "sigma_ij is (1 − l_ij) × (0.5 × (sigma_i + sigma_j))", and "a pair whose l_ij is 0 keeps its sigma_ij": so by the double that is sent
  unfoldable pub with_l_ij : Float → Value → Value
  with_l_ij l_ij sigma_ij = cond (eq l_ij zero_d) sigma_ij ((constant one - constant l_ij) * sigma_ij)

  -- `UVTheoryPars::new`
  abbrev pub new : UVTheoryParameters → UVTheoryPars Value
  new p =
      let rep : ℕ → Value = λ i. constant (p.rep i) in
      let att : ℕ → Value = λ i. constant (p.att i) in
      let sigma : ℕ → Value = λ i. constant (p.sigma i) in
      let epsilon_k : ℕ → Value = λ i. constant (p.epsilon_k i) in
      record {
        n = p.n;
        rep = rep;
        att = att;
        sigma = sigma;
        epsilon_k = epsilon_k;
        rep_ij = combined rep (λ i j. sqrt (rep i * rep j));
        att_ij = combined att (λ i j. sqrt (att i * att j));
        sigma_ij = combined sigma (λ i j. with_l_ij (p.l_ij i j) (constant half * (sigma i + sigma j)));
        eps_k_ij = combined epsilon_k (λ i j. (constant one - constant (p.k_ij i j)) * sqrt (epsilon_k i * epsilon_k j));
        cd_bh_pure = λ i. bh_coefficients (rep i) (constant six);
      }
