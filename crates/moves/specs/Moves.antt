-- M-104: moves of a case record between version 1 and version 2: what is written, and why a move is refused.
use Rattle.std.specs.Prelude.{ℕ, ◌+◌, List, [], ◌∷◌, ◌++◌, length, leb, Result, Ok, Err}
use Rattle.big_endian.specs.Bytes.{written}
use Rattle.case_record.specs.declared.layout.Header.{Header}
use Rattle.case_record.specs.Layout.{header_of, length_of}
use Rattle.case_record.specs.Record.{case_of, mixture_of, state_of}
use Rattle.case_record.specs.Writing.{record_bytes}
use Rattle.refusal.specs.declared.Refusal.{Refusal}
use Rattle.refusal.specs.declared.Refusal.TheVariants as Due
use Rattle.refusal.specs.Code.{code}
use Rattle.checks.specs.Checks.{Checks, envelope, substances, state, pair_constants, first_failing}

abbrev pub header_in : ℕ → Header → Header
header_in version h = record h { version = version }

-- The record in another version: of the same mixture and state. "Records of version 1 move to version 2 with +0", which is what version 1 is read with.
unfoldable pub moved_to : ℕ → List ℕ → List ℕ
moved_to version s = let h = header_of s in record_bytes (header_in version h) (mixture_of s h) (state_of s h)

-- how many bytes it has
abbrev pub moved_size : ℕ → List ℕ → ℕ
moved_size version s = 2 + length_of (header_in version (header_of s))

-- "An output buffer shorter than the moved record is 1, tested after 6, when that length is known; a record not of the version that a move starts from is 3." "13, the move back met
-- another l_ij, tested after 8 and 12": in version 1 every l_ij is read as +0, so only the move back meets it. `size` is that of the buffer.
abbrev pub order : ℕ → ℕ → ℕ → List ℕ → Checks
order from to size s =
    let c = case_of s in
    envelope from from s ++ ((Due.AnswerBuffer, leb (moved_size to s) size) ∷ []) ++ (substances c ++ state c) ++ pair_constants c

-- ---- by the first test that fails, if one does: the code, and the whole buffer. "A refused move writes nothing."
abbrev pub code_by : Result (Unit {0}) Refusal → ℕ
code_by (Ok t) = 0
code_by (Err refusal) = code refusal

abbrev pub buffer_by : Result (Unit {0}) Refusal → List ℕ → List ℕ → List ℕ
buffer_by (Ok t) bytes out = written out bytes
buffer_by (Err refusal) bytes out = out

unfoldable pub tested : ℕ → ℕ → ℕ → List ℕ → Result (Unit {0}) Refusal
tested from to size s = first_failing (order from to size s)

abbrev pub move_code : ℕ → ℕ → List ℕ → List ℕ → ℕ
move_code from to s out = code_by (tested from to (length out) s)

abbrev pub move_buffer : ℕ → ℕ → List ℕ → List ℕ → List ℕ
move_buffer from to s out = buffer_by (tested from to (length out) s) (moved_to to s) out
