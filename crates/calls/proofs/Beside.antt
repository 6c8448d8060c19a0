-- The slopes call beside the energies call, on every record of bytes.
use Prim.Native.Nat.{ℕ}
use mathlib.Core.Path.{refl, sym}
use mathlib.Core.Logic.{inl, inr}
use mathlib.Core.Bool.{Bool, true, false}
use mathlib.Core.List.{List, [], ◌∷◌}
use lib.Ieee.{Float}
use lib.Ieee.Scale.{finite}
use Rattle.dual.specs.declared.basic.Dual.{Dual}
use Rattle.dual.specs.Rules as Dual
use Rattle.uvtheory.specs.declared.contributions.Contributions.{Contributions}
use Rattle.eos.proofs.Sloped.{ValuesAre, values_are}
use Rattle.case_record.specs.declared.case.Case.{Case}
use Rattle.case_record.specs.Record.{case_of}
use Rattle.checks.specs.Checks.{envelope, substances, state, first_failing}
use Rattle.answer.specs.declared.Answer.{Answer}
use Rattle.answer.specs.declared.Answer.TheVariants.{Energies, Slopes}
use Rattle.calls.specs.declared.kinds.Kind.TheVariants.{Energies as ForEnergies, Slopes as ForSlopes}
use Rattle.calls.specs.Answers.{all, answer_of, answered, energies_of, slopes_of, tested, worked_of}
use Rattle.std.specs.Prelude.{Result, Ok, Err}
use Rattle.std.specs.Result.{result_and}
use Rattle.refusal.specs.declared.Refusal.{Refusal}
use Rattle.refusal.specs.declared.Refusal.TheVariants as Due
use Rattle.calls.specs.Beside.{Beside}
use Rattle.calls.proofs.Answers.{stages}

-- behind the same tests
behind : (r : Result (Unit {0}) Refusal) (a b : Result Answer Refusal) → Beside (answered a) (answered b) → Beside (answered (result_and r a)) (answered (result_and r b))
behind (Ok t) a b h = h
behind (Err refusal) a b h = refl

-- of any three energies, and the same three with slopes, by what the tests of both say
three_beside : (d : Contributions Float) (e : Contributions Dual) → ValuesAre e d → (p q : Bool) →
    Beside (answered (tested ((Due.Arithmetic, p) ∷ []) (Energies d.hard_sphere d.reference d.attractive)))
    (answered (tested ((Due.Arithmetic, p) ∷ (Due.Slopes, q) ∷ []) (Slopes e.hard_sphere e.reference e.attractive)))
unfolding tested
three_beside d e v true true =
    inl record {
      hard_sphere = e.hard_sphere.slope;
      reference = e.reference.slope;
      attractive = e.attractive.slope;
      are = rw (sym v.hard_sphere_is, sym v.reference_is, sym v.attractive_is);
    }
three_beside d e v true false = inr refl
three_beside d e v false q = refl

of_case : (c : Case) → Beside (answered (worked_of ForEnergies c)) (answered (worked_of ForSlopes c))
unfolding worked_of
of_case c = three_beside (energies_of c) (slopes_of c) (values_are c.perturbation c.mixture c.state) (all finite (energies_of c)) (all Dual.ok (slopes_of c))

pub slopes_beside : (s : List ℕ) → Beside (answer_of ForEnergies s) (answer_of ForSlopes s)
unfolding answer_of
slopes_beside s =
    let c = case_of s in
    let energies = worked_of ForEnergies c in
    let sloped = worked_of ForSlopes c in
    let of_state = result_and (first_failing (state c)) in
    let of_substances = result_and (first_failing (substances c)) in
    rw (sym (stages ForEnergies s), sym (stages ForSlopes s))
    (behind (first_failing (envelope 1 2 s)) (of_substances (of_state energies)) (of_substances (of_state sloped))
    (behind (first_failing (substances c)) (of_state energies) (of_state sloped) (behind (first_failing (state c)) energies sloped (of_case c))))
