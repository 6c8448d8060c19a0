-- The loop's invariant: r is the product of i factors.
use Rattle.std.proofs.Common.{◌≡◌, ◌≤◌}
use Rattle.arithmetic.specs.Arithmetic.{power_by}
use Rattle.operations.proofs.basic.power.Given as goal

abbrev pub invariant-loop-i : goal.invariant-loop-i
invariant-loop-i g l =
    let V = g.row.V.Denot in
    (1 ≤ l.i) × (l.i ≤ l.k) × ((times : V → V → V) → ((a b r : V) → g.V.Mul.mul_gives a b r → r ≡ times a b) → l.r ≡ power_by l.fn.one times l.v l.i)
