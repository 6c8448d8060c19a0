-- The loop's invariant: behind the header stand the first k doubles.
use Rattle.std.proofs.Common.{◌≡◌, ◌++◌, take}
use Rattle.big_endian.specs.Bytes.{doubles_bytes, written}
use Rattle.case_record.specs.Record.{values}
use Rattle.case_record.specs.Writing.{double_of}
use Rattle.case_record.proofs.writing.write_record.Given as goal

abbrev pub invariant-loop-k : goal.invariant-loop-k
invariant-loop-k l = l.out ≡ written l.initial.out (take 5 l.initial.out ++ doubles_bytes (values l.k (double_of l.c.header l.c.mixture l.c.state)))
