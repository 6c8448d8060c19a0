-- The call on one record and an answer buffer, by its kind: its code, and the whole content of the buffer after it.
use Rattle.std.specs.Prelude.{ℕ, List, cond, length, ltb}
use Rattle.big_endian.specs.Bytes.{written}
use Rattle.answer.specs.Answer.{answer_bytes, code_of}
use Rattle.calls.specs.declared.kinds.Kind.{Kind}
use Rattle.calls.specs.declared.kinds.Kind.TheVariants.{Energies as ForEnergies, Ends as ForEnds, Slopes as ForSlopes}
use Rattle.calls.specs.Answers.{answer_of}

-- the room that an answer may need
abbrev pub room_of : Kind → ℕ
room_of ForEnergies = 28
room_of ForEnds = 52
room_of ForSlopes = 52

-- the bytes of the answer, and its code
abbrev pub answer_to : Kind → List ℕ → List ℕ
answer_to kind s = answer_bytes (answer_of kind s)

abbrev pub code_to : Kind → List ℕ → ℕ
code_to kind s = code_of (answer_of kind s)

abbrev pub energies_answer : List ℕ → List ℕ
energies_answer s = answer_to ForEnergies s

abbrev pub ends_answer : List ℕ → List ℕ
ends_answer s = answer_to ForEnds s

abbrev pub slopes_answer : List ℕ → List ℕ
slopes_answer s = answer_to ForSlopes s

-- ---- The answer buffer. `room` is what it must have.
-- "under 28 bytes (energies) or 52 (ends); nothing is written", and M-100: "code 1 below that"; else the code is that of the answer
abbrev pub call_code : ℕ → ℕ → List ℕ → ℕ
call_code room code buffer = cond (ltb (length buffer) room) 1 code

-- the answer's bytes, and past them the buffer as it was
abbrev pub call_buffer : ℕ → List ℕ → List ℕ → List ℕ
call_buffer room answer buffer = cond (ltb (length buffer) room) buffer (written buffer answer)
