use Rattle.std.proofs.Common.{◌∙◌, ap}
use Rattle.arithmetic.specs.Doubles.{guarded}
use Rattle.checks.proofs.vector_sum.Goals as goal

pub returns : goal.returns
returns c = c.into.ensures ∙ c.sum.ensures ∙ ap (guarded.sum c.args.n) c.constants.ensures
