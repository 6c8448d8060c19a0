-- What the code holds of a mixture, by the formulas: the rows of its values, and the matrices of the combined values.
use Rattle.std.specs.Prelude.{◌≡◌, List}
use Rattle.arithmetic.specs.Arithmetic.{Arithmetic}
use Rattle.uvtheory.specs.declared.parameters.Mixture.{Mixture}
use Rattle.uvtheory.specs.Rows.{row, Matrix}
use Rattle.uvtheory.specs.Inputs.{parameters}

module _ {Value : Type 0} (A : Arithmetic Value) (m : Mixture) where
  pub record Rows (rep att sigma epsilon_k : List Value) : Type 0 where
    pub rep_are : row A rep ≡ (parameters A m).rep
    pub att_are : row A att ≡ (parameters A m).att
    pub sigma_are : row A sigma ≡ (parameters A m).sigma
    pub epsilon_are : row A epsilon_k ≡ (parameters A m).epsilon_k

  pub record Matrices (rep_ij att_ij sigma_ij eps_k_ij : List Value) : Type 0 where
    pub rep_are : Matrix A m.n rep_ij (parameters A m).rep_ij
    pub att_are : Matrix A m.n att_ij (parameters A m).att_ij
    pub sigma_are : Matrix A m.n sigma_ij (parameters A m).sigma_ij
    pub epsilon_are : Matrix A m.n eps_k_ij (parameters A m).eps_k_ij
