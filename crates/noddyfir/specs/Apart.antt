-- What "One record's answer depends on its own bytes alone" says of a run, for any input and any answer buffer: also where records are refused, the tail is broken or the run stops for space.
use Rattle.std.specs.Prelude.{ℕ, ◌+◌, ◌≤◌, ◌≡◌, List, [], ◌∷◌, ◌++◌, map, length, take, drop}
use Rattle.big_endian.specs.Bytes.{big_endian, written}
use Rattle.noddyfir.specs.Call.{call_buffer}
use Rattle.noddyfir.specs.Run.{Outcome}

-- lists one after the other
abbrev pub joined : List (List ℕ) → List ℕ
joined [] = []
joined (r ∷ rs) = r ++ joined rs

-- a record whose length is its bytes less 2
abbrev pub Record : List ℕ → Type 0
Record r = (2 ≤ length r) × (2 + big_endian r 0 2 ≡ length r)

abbrev pub Records : List (List ℕ) → Type 0
Records [] = Unit {0}
Records (r ∷ rs) = Record r × Records rs

-- where the answer of a record stands that was read behind others
abbrev pub place_after : (List ℕ → List ℕ) → List (List ℕ) → ℕ
place_after answer before = length (joined (map answer before))

-- of a run with this outcome over the bytes s and a buffer: the records that it read, whole ones from the front of s, and the bytes that it left unread; its counts are theirs; and the buffer
-- holds their answers one after the other, each `answer` of that record's own bytes, and behind them what it held before
pub record Answered (answer : List ℕ → List ℕ) (s buffer : List ℕ) (o : Outcome) : Type 0 where
  pub records : List (List ℕ)
  pub unread : List ℕ
  pub whole : Records records
  pub input : s ≡ joined records ++ unread
  pub done : o.run.records ≡ length records
  pub read : o.run.read ≡ length (joined records)
  pub filled : o.run.written ≡ length (joined (map answer records))
  pub answers : o.answers ≡ written buffer (joined (map answer records))

-- and the bytes at a record's place are those that the single call writes for it alone, into any buffer with room, whatever stands around it in the run
pub record Apart (room : ℕ) (answer : List ℕ → List ℕ) (s buffer : List ℕ) (o : Outcome) : Type 0 where
  pub answered : Answered answer s buffer o
  pub own : (before after : List (List ℕ)) (r : List ℕ) → answered.records ≡ before ++ r ∷ after → (alone : List ℕ) → room ≤ length alone
      → take (length (answer r)) (drop (place_after answer before) o.answers) ≡ take (length (answer r)) (call_buffer room (answer r) alone)
