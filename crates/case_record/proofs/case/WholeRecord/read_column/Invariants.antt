-- The loop's invariant: the first i places are filled.
use Rattle.std.proofs.Common.{◌≡◌, ◌++◌, drop}
use Rattle.case_record.specs.Record.{column, values}
use Rattle.case_record.proofs.case.WholeRecord.read_column.Given as goal

abbrev pub invariant-loop-i : goal.invariant-loop-i
invariant-loop-i l = l.out ≡ values l.i (column l.self.bytes.now l.first l.step) ++ drop l.i l.initial.out
