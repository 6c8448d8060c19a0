use Rattle.arithmetic.proofs.Tests.{finite_is}
use Rattle.operations.proofs.basic.is_finite.Goals as goal

pub returns : goal.returns
returns c = finite_is c.args.x
