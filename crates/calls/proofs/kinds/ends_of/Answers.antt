-- The energies' refusal, or behind it the ranges.
use Rattle.std.proofs.Common.{rules, ◌≡◌, ◌∙◌}
use Rattle.std.specs.Prelude.{Err}
use Rattle.calls.proofs.Answers.{ends_worked}
use Rattle.calls.proofs.kinds.ends_of.Goals as goal

pub returns-in_err-energies_of : goal.returns-in_err-energies_of
returns-in_err-energies_of c =
    let refused : c.from_residual.result ≡ Err c.in_err-energies_of.field-0.0 = search rules in
    refused ∙ (rw (← c.energies_of.ensures, c.in_err-energies_of.was) at (ends_worked c.args.c.now))

pub returns : goal.returns
returns c = c.ranges_of.ensures ∙ (rw (← c.energies_of.ensures, c.in_ok-energies_of.was) at (ends_worked c.args.c.now))
