use Rattle.std.proofs.Common.{rules}
use Rattle.arithmetic.specs.Doubles.{plain}
use Rattle.elementary.proofs.series.horner.Goals as goal

pub returns : goal.returns
returns c = c.horner_by.ensures plain.constant (λ p k. plain.add (plain.mul p c.args.z) k) (λ x r h. h) (λ p x r h. search rules)
