use Rattle.std.proofs.Common.{T, ℤ, sym, subst, w64}
use lib.Ieee.{binary64, in_float}
use mir.ValLaws.{to_z-of_z}
use Rattle.arithmetic.specs.Recipes as R
use Rattle.elementary.proofs.Floor.{normal_float}
use Rattle.elementary.proofs.exponential.exp_of.Goals as goal

pub int_to_float-w : goal.int_to_float-w
int_to_float-w c = subst (λ (z : ℤ). T (in_float binary64 z)) (sym (to_z-of_z w64 c.args.k c.ranges.k)) (normal_float c.args.k c.requires)

pub returns : goal.returns
unfolding R.exp_of
returns c = rw (c.power_of_two.ensures, c.polynomial.ensures, to_z-of_z w64 c.args.k c.ranges.k)
