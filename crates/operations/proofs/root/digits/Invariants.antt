-- The loop keeps what proofs/RootDigits.antt of crate arithmetic says of the rounds, and its test tells whether the square of the digits found is the whole radicand.
use Prim.Native.Nat.{◌-◌}
use Rattle.arithmetic.proofs.RootDigits.{Found, Onward}
use Rattle.operations.proofs.root.digits.Given as goal

abbrev pub invariant-loop-s : goal.invariant-loop-s
invariant-loop-s l = Found l.a l.rounds l.s.radicand l.s.root l.s.remainder × Onward l.a l.rounds

abbrev pub decreases-loop-s : goal.decreases-loop-s
decreases-loop-s l = 54 - l.rounds
