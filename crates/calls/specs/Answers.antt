-- What a call answers to a record, by its kind: the codes in their order, and the answer behind them.
use Rattle.std.specs.Prelude.{ℕ, List, [], ◌∷◌, ◌++◌, Bool, ◌&&◌, Float, Result, Ok, Err}
use Rattle.std.specs.Result.{result_and}
use Rattle.std.specs.Float.Ieee.Scale.{finite}
use Rattle.arithmetic.specs.Doubles.{doubles}
use Rattle.range.specs.declared.basic.Range.{Range}
use Rattle.range.specs.Rules.{ranges}
use Rattle.range.specs.Rules as Range
use Rattle.dual.specs.declared.basic.Dual.{Dual}
use Rattle.dual.specs.Rules.{strict, slopes}
use Rattle.dual.specs.Rules as Dual
use Rattle.uvtheory.specs.declared.contributions.Contributions.{Contributions}
use Rattle.uvtheory.specs.Inputs as Inputs
use Rattle.eos.specs.Contributions.{contributions}
use Rattle.eos.specs.Slopes.{started}
use Rattle.case_record.specs.declared.case.Case.{Case}
use Rattle.case_record.specs.Record.{case_of}
use Rattle.refusal.specs.declared.Refusal.{Refusal}
use Rattle.refusal.specs.declared.Refusal.TheVariants as Due
use Rattle.checks.specs.Checks.{Checks, envelope, substances, state, first_failing}
use Rattle.answer.specs.declared.Answer.{Answer}
use Rattle.answer.specs.declared.Answer.TheVariants.{Energies, Ends, Slopes, Refused}
use Rattle.calls.specs.declared.kinds.Kind.{Kind}
use Rattle.calls.specs.declared.kinds.Kind.TheVariants.{Energies as ForEnergies, Ends as ForEnds, Slopes as ForSlopes}

-- ---- what is worked of a case: "hard sphere, reference, attractive, in that order"
abbrev pub energies_of : Case → Contributions Float
energies_of c = contributions doubles c.perturbation c.mixture (Inputs.state doubles c.state)

-- "Ends are added by design. They cover the same three terms."
abbrev pub ends_of : Case → Contributions Range
ends_of c = contributions ranges c.perturbation c.mixture (Inputs.state ranges c.state)

-- M-100: "the slope of each energy along total density"
abbrev pub slopes_of : Case → Contributions Dual
slopes_of c = contributions slopes c.perturbation c.mixture (started strict c.state)

-- of all three
abbrev pub all : {X : Type 0} → (X → Bool) → Contributions X → Bool
all p e = p e.hard_sphere && p e.reference && p e.attractive

-- ---- "Place, in order": the codes behind 1, which is about the answer buffer
-- Code 9: "a value on the chosen path is not finite, or an elementary function has no rule for its argument".
-- In the arithmetic `doubles` such a value is NaN, and so is what is worked from it: one of the three is NaN.
abbrev pub arithmetic : Case → Checks
arithmetic c = (Due.Arithmetic, all finite (energies_of c)) ∷ []

-- Code 10: "a range rule below fails; only the ends call". In the arithmetic `ranges` such a rule gives a range that is not ok, and so is what is worked from it.
-- Code 11: "a slope on the path is not finite, tested after 9". In the arithmetic `slopes` such a slope is NaN, and so is that of what is worked from it.
abbrev pub beyond : Kind → Case → Checks
beyond ForEnergies c = []
beyond ForEnds c = (Due.Ends, all Range.ok (ends_of c)) ∷ []
beyond ForSlopes c = (Due.Slopes, all Dual.ok (slopes_of c)) ∷ []

abbrev pub order : Kind → List ℕ → Checks
order kind s = let c = case_of s in envelope 1 2 s ++ (substances c ++ state c) ++ arithmetic c ++ beyond kind c

-- ---- "The answer of a case is either the three energies or one number of refusal."
abbrev pub result_of : Kind → Case → Answer
result_of ForEnergies c = let e = energies_of c in Energies e.hard_sphere e.reference e.attractive
result_of ForEnds c = let e = ends_of c in Ends e.hard_sphere e.reference e.attractive
result_of ForSlopes c = let e = slopes_of c in Slopes e.hard_sphere e.reference e.attractive

-- where no test fails the answer, else why it is refused
unfoldable pub tested : Checks → Answer → Result Answer Refusal
tested tests a = result_and (first_failing tests) (Ok a)

-- of a case that the checks of its record pass
unfoldable pub worked_of : Kind → Case → Result Answer Refusal
worked_of kind c = tested (arithmetic c ++ beyond kind c) (result_of kind c)

-- the same as an answer
abbrev pub answered : Result Answer Refusal → Answer
answered (Ok a) = a
answered (Err refusal) = Refused refusal

unfoldable pub answer_of : Kind → List ℕ → Answer
answer_of kind s = answered (tested (order kind s) (result_of kind (case_of s)))

-- ---- the same stage by stage: of the record, of its case, and of what is worked (crate's proofs, `stages`)
abbrev pub staged : Kind → List ℕ → Result Answer Refusal
staged kind s =
    let c = case_of s in
    result_and (first_failing (envelope 1 2 s)) (result_and (first_failing (substances c)) (result_and (first_failing (state c)) (worked_of kind c)))
