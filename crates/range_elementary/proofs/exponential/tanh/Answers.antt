use lib.Ieee.{of_bits, neg}
use Rattle.range_elementary.proofs.exponential.tanh.Goals as goal

pub if_below-lower-requires : goal.if_below-lower-requires
unfolding of_bits neg
if_below-lower-requires c = tt

pub if_above-requires : goal.if_above-requires
unfolding of_bits neg
if_above-requires c = tt
