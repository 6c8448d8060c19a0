-- The buffer has room for the answer of each variant.
use native.Mathlib.Omega.{arith}
use Rattle.answer.proofs.Writing.{room}
use Rattle.answer.proofs.write_answer.Goals as goal

pub put_answer-requires : goal.put_answer-requires
put_answer-requires c = (omega arith, room c.in-Energies.is c.requires)

pub put_answer-requires-in-Ends : goal.put_answer-requires-in-Ends
put_answer-requires-in-Ends c = (omega arith, room c.in-Ends.is c.requires)

pub put_answer-requires-in-Slopes : goal.put_answer-requires-in-Slopes
put_answer-requires-in-Slopes c = (omega arith, room c.in-Slopes.is c.requires)

pub put_answer-requires-in-Refused : goal.put_answer-requires-in-Refused
put_answer-requires-in-Refused c = (omega arith, room c.in-Refused.is c.requires)
