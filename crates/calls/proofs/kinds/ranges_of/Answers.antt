-- By what the test of the three ranges says.
use Rattle.std.proofs.Common.{rules, ◌≡◌, ◌∙◌, ap}
use Rattle.std.specs.Prelude.{Err, ◌&&◌}
use Rattle.range.specs.Rules.{ranges}
use Rattle.eos.specs.Contributions.{contributions}
use Rattle.calls.proofs.Answers.{ranges_worked}
use Rattle.calls.proofs.kinds.ranges_of.Goals as goal

pub returns-in_err-require : goal.returns-in_err-require
returns-in_err-require c =
    let k = c.args.c.now in
    let e = c.contributions-e.ensures ∙ ap (contributions ranges k.perturbation k.mixture) c.sent.ensures in
    let refused : c.from_residual.result ≡ Err c.in_err-require.field-0.0 = search rules in
    refused
    ∙ (rw (← c.require.ensures, c.in_err-require.was) at (ranges_worked k e {b = c.is_ok.result && c.is_ok-2.result && c.is_ok-3.result} (rw (c.is_ok.ensures, c.is_ok-2.ensures, c.is_ok-3.ensures))))

pub returns : goal.returns
returns c =
    let k = c.args.c.now in
    let e = c.contributions-e.ensures ∙ ap (contributions ranges k.perturbation k.mixture) c.sent.ensures in
    rw (← c.require.ensures, c.in_ok-require.was) at (ranges_worked k e {b = c.is_ok.result && c.is_ok-2.result && c.is_ok-3.result} (rw (c.is_ok.ensures, c.is_ok-2.ensures, c.is_ok-3.ensures)))
