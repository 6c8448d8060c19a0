-- The answer fits where there is room.
use Prim.Native.Nat.{ℕ, ◌≤◌}
use mathlib.Core.Path.{subst}
use native.Mathlib.Omega.{arith}
use lib.ListN.{length}
use Rattle.noddyfir.proofs.Sizes.{answers_fit}
use Rattle.noddyfir.proofs.call.answer_to.Goals as goal

pub write_answer-requires : goal.write_answer-requires
write_answer-requires c =
    let s = c.args in
    rw c.answer_of.ensures (let f = answers_fit s.kind s.«record».now in let r = subst (λ (n : ℕ). n ≤ length c.args.answer.now) c.room_of.ensures c.if-answer-room_of.false in omega arith)
