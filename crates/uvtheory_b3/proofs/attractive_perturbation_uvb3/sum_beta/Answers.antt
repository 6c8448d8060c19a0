-- The next product, and the term of its power.
use Rattle.std.proofs.Common.{◌≡◌, ◌∙◌, ◌+◌, ℕ, suc, sym, ap, ap₂, add-one, arith}
use Rattle.arithmetic.specs.Arithmetic.{Arithmetic, power_by}
use Rattle.arithmetic.specs.Constants.{one}
use Rattle.arithmetic.proofs.Repeated.{longer_power}
use Rattle.uvtheory.specs.Wca.AttractivePerturbationUvb3 as F
use Rattle.uvtheory_b3.proofs.attractive_perturbation_uvb3.sum_beta.Goals as goal

next_product : {V : Type 0} (A : Arithmetic V) (v p q : V) (m : ℕ) → q ≡ A.mul p v → p ≡ power_by (A.constant one) A.mul v (m + 1) → q ≡ power_by (A.constant one) A.mul v (m + 1 + 1)
next_product A v p q m e f = e ∙ ap (λ r. A.mul r v) f ∙ sym (longer_power (A.constant one) A.mul v (m + 1) (omega arith))

-- it has as many factors as its power, two more than there are turns before
two_more : (m : ℕ) → (m + 1 + 1 ≡ m + 2) × (m + 2 ≡ suc (suc m))
two_more m = (omega arith, omega arith)

pub power_from-requires : goal.power_from-requires
power_from-requires g c =
    let A = g.D.DualNum.arithmetic in
    next_product A c.args.beta c.loop-m.product c.mul-product.result c.loop-m.m (g.met.D.DualNum.mul_is _ _ _ c.mul-product.ensures) c.loop-m.invariant.2
    ∙ ap (power_by (A.constant one) A.mul c.args.beta) (two_more c.loop-m.m).0

pub loop-m-preserved : goal.loop-m-preserved
unfolding F.sum_beta
loop-m-preserved g c =
    let A = g.D.DualNum.arithmetic in
    let number = g.met.D.DualNum in
    let product = next_product A c.args.beta c.loop-m.product c.mul-product.result c.loop-m.m (number.mul_is _ _ _ c.mul-product.ensures) c.loop-m.invariant.2 in
    let power = c.power_from.ensures ∙ ap (A.powi c.args.beta) (two_more c.loop-m.m).1 in
    let divisor = number.mul_is _ _ _ c.mul.ensures ∙ ap₂ A.mul (number.from_is _ _ c.from.ensures) (number.from_is _ _ c.from-in-loop-m.ensures) in
    let term = number.div_is _ _ _ c.div.ensures ∙ ap₂ A.div power divisor in
    (omega (arith, c.loop-m-test.true), rw add-one (number.add_is _ _ _ c.add-sum.ensures ∙ ap₂ A.add c.loop-m.invariant.1 term), product)
