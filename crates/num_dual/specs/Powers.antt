-- A power is a product from the left. For squares and fourth powers an arithmetic may have a rule of its own, as that of ranges has (range/specs/Rules.antt:powi).
-- The law is a definition of its own, so that only proofs that name it try it.
use Rattle.std.specs.Prelude.{◌≡◌, ℕ}
use Rattle.std.proofs.Common.{◌∙◌, arith}
use Rattle.arithmetic.specs.Arithmetic.{Arithmetic, power_by}
use Rattle.arithmetic.specs.Constants.{one}
use Rattle.arithmetic.proofs.Repeated.{single_factor}

unfoldable pub PowersFromLeft : {V : Type 0} → Arithmetic V → Type 0
PowersFromLeft {V = V} A = (a : V) (k : ℕ) → (k ≡ 2 → ⊥) → (k ≡ 4 → ⊥) → A.powi a k ≡ power_by (A.constant one) A.mul a k

-- for where it does not unfold
pub from_left : {V : Type 0} (A : Arithmetic V) → ((a : V) (k : ℕ) → (k ≡ 2 → ⊥) → (k ≡ 4 → ⊥) → A.powi a k ≡ power_by (A.constant one) A.mul a k) → PowersFromLeft A
unfolding PowersFromLeft
from_left A law = law

pub first_power : {V : Type 0} (A : Arithmetic V) → PowersFromLeft A → (a : V) → A.powi a 1 ≡ a
unfolding PowersFromLeft
first_power A law a = law a 1 (λ e. omega (arith, e)) (λ e. omega (arith, e)) ∙ single_factor (A.constant one) A.mul a
