-- The run of document 01: what it does with the bytes of records and an answer buffer. `room` is what one answer may need, 28 bytes for energies
-- and 52 for ends and slopes, and `answer` gives a record's answer.
use Rattle.std.specs.Prelude.{ℕ, zero, suc, ◌+◌, List, ◌++◌, cond, ◌&&◌, length, take, drop, ltb, leb, eqb}
use Rattle.big_endian.specs.Bytes.{big_endian}
use Rattle.noddyfir.specs.declared.run.Run.{Run}
use Rattle.noddyfir.specs.declared.run.Stop.{Stop}

-- ---- the input: "one whole record at a time"
-- What stands at the front of the bytes left: "0 input used up; 2 broken tail (under 2 bytes left, or length past the end)", or else a whole record,
-- which has 2 bytes more than its length says.
pub data Next : Type 0 where
  UsedUp : Next
  Broken : Next
  Whole : ℕ → Next

abbrev pub next_of : List ℕ → Next
next_of s =
    let size = 2 + big_endian s 0 2 in
    cond (eqb (length s) 0) UsedUp (cond (leb 2 (length s) && leb size (length s)) (Whole size) Broken)

-- the same at a position
abbrev pub next_at : List ℕ → ℕ → Next
next_at s at = next_of (drop at s)

-- ---- the run
-- "0 input used up; 2 broken tail (..); 1 under 28 (or 52) answer bytes left"
abbrev pub reason_of : Stop → ℕ
reason_of Stop.UsedUp = 0
reason_of Stop.NoRoom = 1
reason_of Stop.BrokenTail = 2

-- "It returns records done, bytes read, bytes written, reason", and leaves the answer buffer.
pub record Outcome : Type 0 where
  pub run : Run
  pub answers : List ℕ

abbrev pub stopped : ℕ → List ℕ → Outcome
stopped reason buffer = record { run = record { records = 0; read = 0; written = 0; reason = reason }; answers = buffer }

-- an outcome behind `records` records of `read` bytes, which were answered by `bytes`
abbrev pub after : ℕ → ℕ → List ℕ → Outcome → Outcome
after records read bytes o =
    record {
      run =
          record {
            records = records + o.run.records;
            read = read + o.run.read;
            written = length bytes + o.run.written;
            reason = o.run.reason;
          };
      answers = bytes ++ o.answers;
    }

abbrev pub by_next : Next → Outcome → Outcome → (ℕ → Outcome) → Outcome
by_next UsedUp a b c = a
by_next Broken a b c = b
by_next (Whole size) a b c = c size

-- "It stops, tested in this order: 0 input used up; 2 broken tail (..); 1 under 28 (or 52) answer bytes left."
-- "each answer is written where the one before it ended": the rest of the records is answered behind it. At most `turns` records are worked.
unfoldable pub run_from : ℕ → (List ℕ → List ℕ) → ℕ → List ℕ → List ℕ → Outcome
run_from room answer zero s buffer = stopped 0 buffer
run_from room answer (suc turns) s buffer =
    by_next (next_of s) (stopped 0 buffer) (stopped 2 buffer) (λ size.
    let bytes = answer (take size s) in
    cond (ltb (length buffer) room)
    (stopped 1 buffer)
    (after 1 size bytes (run_from room answer turns (drop size s) (drop (length bytes) buffer))))

-- a record has at least 2 bytes, so that there are fewer records than bytes
abbrev pub run_of : ℕ → (List ℕ → List ℕ) → List ℕ → List ℕ → Outcome
run_of room answer s buffer = run_from room answer (length s) s buffer

-- how many bytes an answer with this code has: at code 0 all of `room`, and "A refused record takes its four bytes and the run goes on."
abbrev pub size_of : ℕ → ℕ → ℕ
size_of room code = cond (eqb code 0) room 4
