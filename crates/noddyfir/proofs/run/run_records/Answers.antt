use Prim.Native.Nat.{ℕ, ◌-◌, ◌≤◌}
use mathlib.Core.Path.{◌≡◌, ap, ◌∙◌}
use mathlib.Core.List.{List}
use native.Mathlib.Omega.{arith}
use lib.ListN.{length, drop, take, length-drop}
use Rattle.noddyfir.specs.Call.{answer_to, code_to, room_of}
use Rattle.noddyfir.specs.Run.{Broken, UsedUp, Whole, next_of, size_of}
use Rattle.noddyfir.proofs.Sizes.{answers_fit, answers_sized}
use Rattle.noddyfir.proofs.Running.{again, at_broken, at_end, at_full, finish, nonempty, turns_left, whole_size}
use Rattle.noddyfir.proofs.run.run_records.Goals as goal

-- a whole record lies within the bytes left
bounds : (s : List ℕ) (at n : ℕ) → next_of (drop at s) ≡ Whole n → (2 ≤ n) × (n ≤ length (drop at s)) × (length (drop at s) ≡ length s - at)
bounds s at n e = let w = whole_size (drop at s) e in (w.0, w.1, simp length-drop)

-- the three ends of a run
pub returns-in-None-clause-value : goal.returns-in-None-clause-value
returns-in-None-clause-value c =
    let w = c.args.kind in
    let e : next_of (drop c.loop-record.run.read c.args.records.now) ≡ UsedUp = rw (c.new.ensures.0, c.new.ensures.1) at c.in-None.ensures in
    rw c.stopped.ensures (finish (room_of w) (answer_to w) c.loop-record.invariant 0 (at_end (room_of w) (answer_to w) _ _ _ e))

pub returns-in-Some-Err-clause-value : goal.returns-in-Some-Err-clause-value
returns-in-Some-Err-clause-value c =
    let w = c.args.kind in
    let g = c.loop-record.invariant in
    let left = drop c.loop-record.run.read c.args.records.now in
    let e : next_of left ≡ Broken = rw (c.in-Some-Err.field-0-is, c.new.ensures.0, c.new.ensures.1) at c.in-Some-Err.ensures in
    rw c.stopped-in-Some-Err.ensures (finish (room_of w) (answer_to w) g 2 (at_broken (room_of w) (answer_to w) _ _ _ e (turns_left (room_of w) (answer_to w) g (nonempty left e))))

pub returns-then-answers-run-clause-value : goal.returns-then-answers-run-clause-value
returns-then-answers-run-clause-value c =
    let w = c.args.kind in
    let g = c.loop-record.invariant in
    let left = drop c.loop-record.run.read c.args.records.now in
    let (e, own) : (next_of left ≡ Whole (length c.in-Some-Ok.record.now)) × (c.in-Some-Ok.record.now ≡ take (length c.in-Some-Ok.record.now) left) =
    rw (c.in-Some-Ok.field-0-is, c.new.ensures.0, c.new.ensures.1) at c.in-Some-Ok.ensures in
    let i = bounds c.args.records.now c.loop-record.run.read _ e in
    rw c.stopped-then-answers-run.ensures
    (finish (room_of w) (answer_to w) g 1 (at_full (room_of w) (answer_to w) _ _ _ e (simp length-drop (omega (arith, c.room_of-room.ensures))) (turns_left (room_of w) (answer_to w) g (omega arith))))

-- one more record
pub loop-record-preserved : goal.loop-record-preserved
loop-record-preserved c =
    let w = c.args.kind in
    let left = drop c.loop-record.run.read c.args.records.now in
    let (e, own) : (next_of left ≡ Whole (length c.in-Some-Ok.record.now)) × (c.in-Some-Ok.record.now ≡ take (length c.in-Some-Ok.record.now) left) =
    rw (c.in-Some-Ok.field-0-is, c.new.ensures.0, c.new.ensures.1) at c.in-Some-Ok.ensures in
    again (room_of w) (answer_to w) (answers_fit w) c.loop-record.invariant e (simp length-drop (omega (arith, c.if-answers-run.false, c.room_of-room.ensures))) _ own (code_to w) (answers_sized w) _ _ _
    c.answer_to-code.ensures (c.answer_size.ensures.0 ∙ ap (λ (n : ℕ). size_of n c.answer_to-code.result) c.room_of-room.ensures)
