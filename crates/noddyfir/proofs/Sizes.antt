-- An answer has as many bytes as its code says, and fits the room of its kind.
use Prim.Native.Nat.{ℕ, ◌≤◌}
use native.Mathlib.Omega.{arith}
use mathlib.Core.Path.{◌≡◌, refl, sym, ap, subst⁻¹}
use mathlib.Core.List.{List}
use lib.ListN.{length}
use lib.Dec.{eqb}
use mathlib.Core.Bool.{Bool, true, false, cond}
use Rattle.big_endian.specs.Bytes.{bytes_of, double_bytes}
use Rattle.case_record.specs.declared.case.Case.{Case}
use Rattle.case_record.specs.Record.{case_of}
use Rattle.checks.specs.Checks.{first_failing}
use Rattle.answer.specs.declared.Answer.{Answer}
use Rattle.answer.specs.declared.Answer.TheVariants.{Refused}
use Rattle.answer.specs.Answer.{answer_bytes, code_of}
use Rattle.calls.specs.declared.kinds.Kind.{Kind}
use Rattle.calls.specs.declared.kinds.Kind.TheVariants.{Energies as ForEnergies, Ends as ForEnds, Slopes as ForSlopes}
use Rattle.std.specs.Prelude.{Result, Ok, Err}
use Rattle.std.specs.Result.{result_and}
use Rattle.refusal.specs.declared.Refusal.{Refusal}
use Rattle.refusal.specs.declared.Refusal.TheVariants as Due
use Rattle.refusal.specs.Code.{code}
use Rattle.calls.specs.Answers.{answer_of, answered, order, result_of, tested}
use Rattle.noddyfir.specs.Call.{answer_to, code_to, room_of}
use Rattle.noddyfir.specs.Run.{size_of}

pub record Sized (room : ℕ) (a : Answer) : Type 0 where
  pub bytes : length (answer_bytes a) ≡ size_of room (code_of a)

sized_result : (kind : Kind) (c : Case) → Sized (room_of kind) (result_of kind c)
unfolding double_bytes bytes_of
sized_result ForEnergies c = record { bytes = refl }
sized_result ForEnds c = record { bytes = refl }
sized_result ForSlopes c = record { bytes = refl }

-- a refusal's four bytes, whose code is not 0
sized_refusal : (room : ℕ) (refusal : Refusal) → Sized room (Refused refusal)
unfolding bytes_of
sized_refusal room refusal = record { bytes = sym (ap (λ (b : Bool). cond b room 4) (not_zero refusal)) }
  where
    not_zero : (refusal : Refusal) → eqb (code refusal) 0 ≡ false
    not_zero Due.AnswerBuffer = refl
    not_zero Due.Envelope = refl
    not_zero Due.Version = refl
    not_zero Due.Perturbation = refl
    not_zero Due.Components = refl
    not_zero Due.Size = refl
    not_zero Due.Substances = refl
    not_zero Due.State = refl
    not_zero Due.Arithmetic = refl
    not_zero Due.Ends = refl
    not_zero Due.Slopes = refl
    not_zero Due.Attraction = refl
    not_zero Due.PairConstant = refl

-- or those of the answer behind the tests
sized_tested : {room : ℕ} {a : Answer} (r : Result (Unit {0}) Refusal) → Sized room a → Sized room (answered (result_and r (Ok a)))
sized_tested (Ok t) h = h
sized_tested {room} (Err refusal) h = sized_refusal room refusal

pub answers_sized : (kind : Kind) (s : List ℕ) → length (answer_to kind s) ≡ size_of (room_of kind) (code_to kind s)
unfolding answer_of tested
answers_sized kind s = (sized_tested (first_failing (order kind s)) (sized_result kind (case_of s))).bytes

size_fits : (room code : ℕ) → 4 ≤ room → size_of room code ≤ room
size_fits room code h = go (eqb code 0)
  where
    go : (f : Bool) → cond f room 4 ≤ room
    go true = omega arith
    go false = omega arith

pub some_room : (kind : Kind) → 4 ≤ room_of kind
some_room ForEnergies = omega arith
some_room ForEnds = omega arith
some_room ForSlopes = omega arith

pub small_room : (kind : Kind) → room_of kind ≤ 52
small_room ForEnergies = omega arith
small_room ForEnds = omega arith
small_room ForSlopes = omega arith

pub answers_fit : (kind : Kind) (s : List ℕ) → length (answer_to kind s) ≤ room_of kind
answers_fit kind s = subst⁻¹ (λ (n : ℕ). n ≤ room_of kind) (answers_sized kind s) (size_fits (room_of kind) (code_to kind s) (some_room kind))
