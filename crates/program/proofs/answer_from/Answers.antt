-- The answer buffer has room for an answer, so that a run which stops for space has read a record.
use native.Mathlib.Omega.{arith}
use borrow.Author.Rules.{rules}
use Rattle.noddyfir.specs.Call.{answer_to, room_of}
use Rattle.noddyfir.proofs.Running.{progress}
use Rattle.noddyfir.proofs.Sizes.{small_room}
use Rattle.program.proofs.answer_from.Goals as goal

pub returns : goal.returns
returns g c =
    let e = c.args.kind in
    (search rules, λ h. progress (room_of e) (answer_to e) _ _ _ c.run_records-run.ensures.value.0 h (omega (arith, small_room e)))
