-- By the four tests.
use lib.Ieee.{ne}
use Rattle.std.proofs.Common.{arith}
use Rattle.std.proofs.lemmas.Grind.{common_steps}
use Rattle.range_elementary.proofs.exponential.is_moderate.Goals as goal

pub returns-then-b-3 : goal.returns-then-b-3
unfolding ne
returns-then-b-3 c = grind (arith, common_steps)
