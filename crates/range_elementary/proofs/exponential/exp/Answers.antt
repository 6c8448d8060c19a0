use mathlib.Core.Path.{sym, ◌∙◌}
use lib.Ieee.{of_bits, neg}
use Rattle.arithmetic.specs.Basic.{below, above}
use Rattle.arithmetic.specs.Constants as K
use Rattle.arithmetic.specs.Recipes as R
use Rattle.arithmetic.proofs.Tests.{below_is, above_is}
use Rattle.elementary.proofs.Place.{constants}
use Rattle.range.specs.Rules.{failed, zero}
use Rattle.range.proofs.Corners.{lower_finite}
use Rattle.range.proofs.Testing.{has_ends, test_else}
use Rattle.range.proofs.Constants.{zero_constant}
use Rattle.range_elementary.proofs.exponential.exp.Goals as goal

pub if_above-upper-requires : goal.if_above-upper-requires
unfolding of_bits
if_above-upper-requires c = tt

pub if_below-requires : goal.if_below-requires
unfolding of_bits neg
if_below-requires c = tt

pub returns : goal.returns
unfolding R.exp
returns c =
    let v = c.args.v in
    rw (c.if_below.ensures, c.if_above-upper.ensures, c.failed.ensures, zero_constant)
    (test_else (below K.minus_seven_hundred) v zero _ _
    (λ k p. test_else (above K.seven_hundred) v failed _ _
    (λ k' q. c.exp_between.ensures k (sym (below_is v.lower K.minus_seven_hundred (lower_finite v (has_ends v k)) constants.3) ∙ p) (sym (above_is v.lower K.seven_hundred (lower_finite v (has_ends v k)) constants.2) ∙ q))))
