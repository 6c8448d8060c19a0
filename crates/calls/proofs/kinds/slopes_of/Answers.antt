-- By what the tests of the values, and of both halves, say.
use Rattle.std.proofs.Common.{rules, ◌≡◌, ◌∙◌, ap, refl}
use Rattle.std.specs.Prelude.{Err, ◌&&◌}
use Rattle.dual.specs.Rules.{guarded_slopes}
use Rattle.eos.specs.Contributions.{contributions}
use Rattle.calls.proofs.Answers.{slopes_worked}
use Rattle.calls.proofs.kinds.slopes_of.Goals as goal

pub returns-in_err-require : goal.returns-in_err-require
returns-in_err-require c =
    let k = c.args.c.now in
    let e = c.contributions-e.ensures ∙ ap (contributions guarded_slopes k.perturbation k.mixture) c.started.ensures in
    let refused : c.from_residual.result ≡ Err c.in_err-require.field-0.0 = search rules in
    let w = (slopes_worked k e refl c.are_finite.ensures) in
    refused ∙ (rw (← c.require.ensures, c.in_err-require.was) at w)

pub returns-in_err-require-2 : goal.returns-in_err-require-2
returns-in_err-require-2 c =
    let k = c.args.c.now in
    let e = c.contributions-e.ensures ∙ ap (contributions guarded_slopes k.perturbation k.mixture) c.started.ensures in
    let refused : c.from_residual-in_err-require-2.result ≡ Err c.in_err-require-2.field-0.0 = search rules in
    refused
    ∙ (rw (← c.require.ensures, c.in_ok-require.was, ← c.require-2.ensures, c.in_err-require-2.was) at (slopes_worked k e {b = c.is_ok.result && c.is_ok-2.result && c.is_ok-3.result} (rw (c.is_ok.ensures, c.is_ok-2.ensures, c.is_ok-3.ensures)) c.are_finite.ensures))

pub returns : goal.returns
returns c =
    let k = c.args.c.now in
    let e = c.contributions-e.ensures ∙ ap (contributions guarded_slopes k.perturbation k.mixture) c.started.ensures in
    rw (← c.require.ensures, c.in_ok-require.was, ← c.require-2.ensures, c.in_ok-require-2.was) at (slopes_worked k e {b = c.is_ok.result && c.is_ok-2.result && c.is_ok-3.result} (rw (c.is_ok.ensures, c.is_ok-2.ensures, c.is_ok-3.ensures)) c.are_finite.ensures)
