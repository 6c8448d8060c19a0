-- The loop's invariant: the run is what was done, and behind it the run of the bytes that are left.
use Prim.Native.Nat.{◌-◌}
use lib.ListN.{length}
use Rattle.noddyfir.specs.Call.{answer_to, room_of}
use Rattle.noddyfir.proofs.Running.{Going}
use Rattle.noddyfir.proofs.run.run_records.Given as goal

abbrev pub invariant-loop-record : goal.invariant-loop-record
invariant-loop-record l = Going (room_of l.kind) (answer_to l.kind) l.records l.initial.answers l.run.records l.run.read l.run.written l.answers

abbrev pub decreases-loop-record : goal.decreases-loop-record
decreases-loop-record l = length l.records - l.run.read
