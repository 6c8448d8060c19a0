-- By what the test of the three energies says.
use Rattle.std.proofs.Common.{rules, ◌≡◌, ◌∙◌, ap}
use Rattle.std.specs.Prelude.{Err}
use Rattle.arithmetic.specs.Doubles.{guarded}
use Rattle.eos.specs.Contributions.{contributions}
use Rattle.calls.proofs.Answers.{energies_worked}
use Rattle.calls.proofs.kinds.energies_of.Goals as goal

pub returns-in_err-require : goal.returns-in_err-require
returns-in_err-require c =
    let k = c.args.c.now in
    let e = c.contributions-e.ensures ∙ ap (contributions guarded k.perturbation k.mixture) c.sent.ensures in
    let refused : c.from_residual.result ≡ Err c.in_err-require.field-0.0 = search rules in
    refused
    ∙ (rw (← c.require.ensures, c.in_err-require.was) at (energies_worked k e {b = c.are_finite.result} (rw (c.are_finite.ensures, c.from-x.ensures, c.from-y.ensures, c.from-z.ensures))))

pub returns : goal.returns
returns c =
    let k = c.args.c.now in
    let e = c.contributions-e.ensures ∙ ap (contributions guarded k.perturbation k.mixture) c.sent.ensures in
    rw (c.from-x.ensures, c.from-y.ensures, c.from-z.ensures)
    (rw (← c.require.ensures, c.in_ok-require.was) at (energies_worked k e {b = c.are_finite.result} (rw (c.are_finite.ensures, c.from-x.ensures, c.from-y.ensures, c.from-z.ensures))))
