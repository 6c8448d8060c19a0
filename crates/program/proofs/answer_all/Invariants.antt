-- The input's bytes that are left get fewer with each run.
use Prim.Native.Nat.{◌-◌, ◌≤◌}
use lib.ListN.{length}
use Rattle.program.proofs.answer_all.Given as goal

abbrev pub invariant-loop-run : goal.invariant-loop-run
invariant-loop-run g l = l.at ≤ length l.input

abbrev pub decreases-loop-run : goal.decreases-loop-run
decreases-loop-run g l = length l.input - l.at
