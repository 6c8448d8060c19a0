use lib.Ieee.{of_bits, neg}
use Rattle.range_elementary.proofs.logarithm.ln_1p.Goals as goal

pub if_above-below-requires : goal.if_above-below-requires
unfolding of_bits neg
if_above-below-requires c = tt

pub if_above-within-requires : goal.if_above-within-requires
unfolding of_bits neg
if_above-within-requires c = tt

pub if_below-requires : goal.if_below-requires
unfolding of_bits neg
if_below-requires c = tt
