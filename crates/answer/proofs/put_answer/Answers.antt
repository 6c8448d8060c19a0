use Prim.Native.Nat.{◌≤◌}
use mathlib.Core.Path.{◌≡◌}
use native.Mathlib.Omega.{arith}
use lib.ListN.{length}
use Rattle.answer.proofs.Writing.{double_more, whole_answer}
use Rattle.answer.proofs.put_answer.Goals as goal

pub loop-k-preserved : goal.loop-k-preserved
loop-k-preserved c =
    let l = c.put_header.new.answer in
    let h : 4 ≤ length l = omega arith in
    (omega arith, double_more l _ h c.loop-k.k (omega arith) c.loop-k.invariant.1 c.put_double.ensures, omega arith)

pub returns : goal.returns
returns c =
    let a = c.args in
    let e : c.loop-k.k ≡ length a.doubles.now = omega arith in
    whole_answer a.answer.now a.code a.doubles.now (omega arith) c.put_header.ensures (rw e at c.loop-k.invariant.1)
