-- M-104: "A pair whose l_ij is 0 keeps its sigma_ij, in ranges too, so this changes no version 1 record's answer.": where no l_ij is sent but 0, the parameters are those of the definition
-- before, in any arithmetic.
use Rattle.std.proofs.Common.{◌≡◌, ℕ, true}
use Rattle.std.specs.Prelude.{Float}
use Rattle.std.specs.Float.Ieee.{eq}
use Rattle.arithmetic.specs.Arithmetic.{Arithmetic}
use Rattle.arithmetic.specs.Constants.{zero_d}
use Rattle.uvtheory.specs.Literals.{half}
use Rattle.uvtheory.specs.Parameters.{UVTheoryParameters, UVTheoryPars, combined, new, with_l_ij}

module _ {Value : Type 0} (A : Arithmetic Value) where
  -- the definition before M-104
  abbrev pub new_without_l_ij : UVTheoryParameters → UVTheoryPars Value
  new_without_l_ij p = record (new A p) { sigma_ij = combined (λ i. A.constant (p.sigma i)) (λ i j. A.mul (A.constant half) (A.add (A.constant (p.sigma i)) (A.constant (p.sigma j)))) }

  -- the test is of the double that is sent, so −0 is as +0
  pub keeps : (l : Float) (sigma : Value) → eq l zero_d ≡ true → with_l_ij A l sigma ≡ sigma
  unfolding with_l_ij
  keeps l sigma h = rw h

  pub without_l_ij : (p : UVTheoryParameters) → ((i j : ℕ) → eq (p.l_ij i j) zero_d ≡ true) → new A p ≡ new_without_l_ij p
  without_l_ij p none = λ t. record (new A p) { sigma_ij = combined (λ i. A.constant (p.sigma i)) (λ i j. keeps (p.l_ij i j) (A.mul (A.constant half) (A.add (A.constant (p.sigma i)) (A.constant (p.sigma j)))) (none i j) t) }
