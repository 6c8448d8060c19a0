-- What a move that no test refuses says of its record, and the other way round; and so what it may read and write.
use Prim.Native.Nat.{ℕ, ◌≤◌}
use mathlib.Core.Path.{◌≡◌, refl}
use mathlib.Core.List.{List, [], ◌∷◌, ◌++◌}
use lib.Dec.{leb}
use borrow.Author.Tests.{leb-true, le-leb}
use Rattle.std.specs.Prelude.{Ok}
use Rattle.case_record.specs.Layout.{header_of}
use Rattle.case_record.specs.Record.{Whole, case_of}
use Rattle.refusal.specs.declared.Refusal.TheVariants as Due
use Rattle.checks.specs.Checks.{Checks, envelope, substances, state, pair_constants, first_failing}
use Rattle.checks.proofs.Accepted.{all_passed, in_front, joined, whole}
use Rattle.moves.specs.Moves.{moved_size, tested}
use Rattle.moves.specs.Promise.{Passes}

pub record Moves (from to size : ℕ) (s : List ℕ) : Type 0 where
  pub of_envelope : first_failing (envelope from from s) ≡ Ok tt
  pub room : moved_size to s ≤ size
  pub of_substances : first_failing (substances (case_of s)) ≡ Ok tt
  pub of_state : first_failing (state (case_of s)) ≡ Ok tt
  pub of_pairs : first_failing (pair_constants (case_of s)) ≡ Ok tt

abbrev room_for : ℕ → ℕ → List ℕ → Checks
room_for to size s = (Due.AnswerBuffer, leb (moved_size to s) size) ∷ []

pub moves : (from to size : ℕ) (s : List ℕ) → tested from to size s ≡ Ok tt → Moves from to size s
unfolding tested
moves from to size s e =
    let c = case_of s in
    let (of_envelope, e₁) = in_front (envelope from from s) (room_for to size s ++ (substances c ++ state c) ++ pair_constants c) e in
    let (of_room, e₂) = in_front (room_for to size s) ((substances c ++ state c) ++ pair_constants c) e₁ in
    let (of_case, of_pairs) = in_front (substances c ++ state c) (pair_constants c) e₂ in
    let (of_substances, of_state) = in_front (substances c) (state c) of_case in
    record { of_envelope = of_envelope; room = leb-true (moved_size to s) size (all_passed (room_for to size s) of_room).0; of_substances = of_substances; of_state = of_state; of_pairs = of_pairs }

pub is_moved : (from to size : ℕ) (s : List ℕ) → Moves from to size s → tested from to size s ≡ Ok tt
unfolding tested
is_moved from to size s e =
    let c = case_of s in
    let of_room : first_failing (room_for to size s) ≡ Ok tt = rw (le-leb (moved_size to s) size e.room) refl in
    joined (envelope from from s) (room_for to size s ++ (substances c ++ state c) ++ pair_constants c) e.of_envelope
    (joined (room_for to size s) ((substances c ++ state c) ++ pair_constants c) of_room (joined (substances c ++ state c) (pair_constants c) (joined (substances c) (state c) e.of_substances e.of_state) e.of_pairs))

pub passes_of : (from to size : ℕ) (s : List ℕ) → Moves from to size s → Passes from s
passes_of from to size s e =
    let c = case_of s in
    joined (envelope from from s) (substances c ++ state c) e.of_envelope (joined (substances c) (state c) e.of_substances e.of_state)

-- the record can be read, and the moved one has room
pub passed : (from to size : ℕ) (s : List ℕ) → tested from to size s ≡ Ok tt → Whole s (header_of s) × (moved_size to s ≤ size)
passed from to size s e = let m = moves from to size s e in (whole from from s m.of_envelope, m.room)
