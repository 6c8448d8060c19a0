-- The formula of arithmetic's example, of over a hundred operations and every operation of the record among them: its ends enclose its value.
-- The formula worked in `certifying` is the whole proof.
use Prim.Native.Nat.{ℕ}
use lib.Ieee.{Float}
use Rattle.arithmetic.specs.Doubles.{doubles}
use Rattle.arithmetic.proofs.Example.{mixture}
use Rattle.range.specs.Rules.{ranges}
use Rattle.range.specs.Exact.{exact}
use Rattle.range.specs.Enclosed.{Ok, Enclosed}
use Rattle.range.proofs.Certified.{certifying, enclosed}

-- for every n and all inputs for which the ranges do not fail
encloses : (n : ℕ) (w x : ℕ → Float) → Ok (mixture ranges n (λ i. ranges.constant (w i)) (λ i. ranges.constant (x i)))
    → Enclosed (mixture doubles n (λ i. doubles.constant (w i)) (λ i. doubles.constant (x i))) (mixture exact n (λ i. exact.constant (w i)) (λ i. exact.constant (x i)))
encloses n w x = enclosed (mixture certifying n (λ i. certifying.constant (w i)) (λ i. certifying.constant (x i))).holds
