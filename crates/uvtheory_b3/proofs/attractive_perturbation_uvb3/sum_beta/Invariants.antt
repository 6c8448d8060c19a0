-- After m turns the sum has m terms after the first, and the product has m + 1 factors.
use Rattle.std.proofs.Common.{◌≡◌, ◌+◌, ◌≤◌}
use Rattle.arithmetic.specs.Arithmetic.{power_by}
use Rattle.arithmetic.specs.Constants.{one}
use Rattle.uvtheory.specs.Wca.AttractivePerturbationUvb3 as F
use Rattle.uvtheory_b3.proofs.attractive_perturbation_uvb3.sum_beta.Given as goal

abbrev pub invariant-loop-m : goal.invariant-loop-m
invariant-loop-m g l = let A = g.D.DualNum.arithmetic in (l.m ≤ 14) × (l.sum ≡ F.sum_beta A l.m l.beta) × (l.product ≡ power_by (A.constant one) A.mul l.beta (l.m + 1))
