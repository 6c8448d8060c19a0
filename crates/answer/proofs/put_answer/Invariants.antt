-- The loop's invariant: behind the header stand the first k doubles.
use Prim.Native.Nat.{◌-◌, ◌≤◌}
use mathlib.Core.Path.{◌≡◌}
use mathlib.Core.List.{◌++◌}
use lib.ListN.{length, take}
use Rattle.big_endian.specs.Bytes.{doubles_bytes, written}
use Rattle.answer.proofs.put_answer.Given as goal

abbrev pub invariant-loop-k : goal.invariant-loop-k
invariant-loop-k l = (l.k ≤ length l.doubles)
    × (l.answer ≡ written l.initial.answer (take 4 l.initial.answer ++ doubles_bytes (take l.k l.doubles)))
    × (length l.answer ≡ length l.initial.answer)

abbrev pub decreases-loop-k : goal.decreases-loop-k
decreases-loop-k l = length l.doubles - l.k
