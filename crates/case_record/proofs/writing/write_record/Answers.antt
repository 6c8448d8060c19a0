use native.Mathlib.Omega.{arith}
use Rattle.case_record.specs.Writing.{double_of}
use Rattle.case_record.proofs.Pieces.{double_more}
use Rattle.case_record.proofs.writing.write_record.Goals as goal

pub loop-k-preserved : goal.loop-k-preserved
loop-k-preserved c =
    let a = c.args.c.now in
    double_more c.put_header.new.out (double_of a.header a.mixture a.state) c.loop-k.k c.double_of.result _ _ c.loop-k.invariant c.double_of.ensures (omega arith) c.put_double.ensures
