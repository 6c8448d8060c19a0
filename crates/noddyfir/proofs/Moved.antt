-- M-104: the answers to a record that was moved are those to the record itself, of every call.
use Prim.Native.Nat.{ℕ, ◌≤◌, ◌<◌}
use mathlib.Core.Path.{◌≡◌, ap, ◌∙◌, subst, sym}
use mathlib.Core.List.{List, ◌++◌}
use native.Mathlib.Nat.{le_trans, le_refl}
use native.Mathlib.Omega.{arith}
use lib.ListN.{get_or}
use Rattle.std.specs.Prelude.{Result, Ok}
use Rattle.std.specs.Result.{result_and}
use Rattle.refusal.specs.declared.Refusal.{Refusal}
use Rattle.case_record.specs.declared.case.Case.{Case}
use Rattle.case_record.specs.Record.{case_of}
use Rattle.checks.specs.Checks.{envelope, substances, state, first_failing}
use Rattle.checks.proofs.Accepted.{enveloped, passes}
use Rattle.answer.specs.declared.Answer.{Answer}
use Rattle.calls.specs.declared.kinds.Kind.{Kind}
use Rattle.calls.specs.Answers.{answer_of, answered, arithmetic, beyond, result_of, tested}
use Rattle.calls.proofs.Answers.{in_stages}
use Rattle.moves.specs.Moves.{moved_size, moved_to}
use Rattle.moves.specs.Promise.{Passes, inserted}
use Rattle.moves.proofs.Moves.{Moves}
use Rattle.moves.proofs.Back.{moved_case, moved_envelope}
use Rattle.moves.proofs.Inserted.{inserts}
use Rattle.moves.proofs.ToVersion2.{moves_to_2}

-- a call reads both versions
read_by_calls : (version : ℕ) (s : List ℕ) → 1 ≤ version → version ≤ 2 → first_failing (envelope version version s) ≡ Ok tt → first_failing (envelope 1 2 s) ≡ Ok tt
read_by_calls version s from to p =
    let e = enveloped version version s p in
    passes 1 2 s record {
      long = e.long;
      counted = e.counted;
      not_older = le_trans from e.not_older;
      not_newer = le_trans e.not_newer to;
      perturbation = e.perturbation;
      some = e.some;
      few = e.few;
      sized = e.sized;
    }

-- behind the envelope an answer goes by the case
abbrev of_case : Kind → Case → Answer
of_case kind c = answered (tested ((substances c ++ state c) ++ arithmetic c ++ beyond kind c) (result_of kind c))

by_case : (kind : Kind) (s : List ℕ) → first_failing (envelope 1 2 s) ≡ Ok tt → answer_of kind s ≡ of_case kind (case_of s)
unfolding answer_of
by_case kind s e =
    let c = case_of s in
    let others = (substances c ++ state c) ++ arithmetic c ++ beyond kind c in
    let x = result_of kind c in
    let behind : tested (envelope 1 2 s ++ others) x ≡ tested others x = in_stages (envelope 1 2 s) others x ∙ ap (λ (r : Result (Unit {0}) Refusal). result_and r (tested others x)) e in
    ap answered behind

pub answers_stay : (kind : Kind) (from to size : ℕ) (s : List ℕ) → 1 ≤ from → from ≤ 2 → 1 ≤ to → to ≤ 2 → Moves from to size s → answer_of kind (moved_to to s) ≡ answer_of kind s
answers_stay kind from to size s a b c d e =
    by_case kind (moved_to to s) (read_by_calls to (moved_to to s) c d (moved_envelope from to size s e))
    ∙ ap (of_case kind) (moved_case from to size s e)
    ∙ sym (by_case kind s (read_by_calls from s a b e.of_envelope))

-- of a record of version 1 that passes the checks, moved to version 2
pub same_answers : (kind : Kind) (s : List ℕ) → ((i : ℕ) → get_or s i 0 < 256) → Passes 1 s → answer_of kind (inserted s) ≡ answer_of kind s
same_answers kind s are_bytes p =
    let m = moves_to_2 s p (moved_size 2 s) (le_refl (moved_size 2 s)) in
    subst (λ (r : List ℕ). answer_of kind r ≡ answer_of kind s) (inserts s are_bytes p) (answers_stay kind 1 2 (moved_size 2 s) s (omega arith) (omega arith) (omega arith) (omega arith) m)
