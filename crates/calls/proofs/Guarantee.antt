-- The theorem on records: whatever the bytes, where the ends call has a result its ends hold.
-- The operations keep what ends enclose (crate range, `certified`), so the formulas of the three perturbations do (crate eos, `as_sent`).
use Prim.Native.Nat.{ℕ}
use mathlib.Core.Path.{◌≡◌, refl, sym, subst}
use mathlib.Core.Bool.{true, false}
use mathlib.Core.List.{List, [], ◌∷◌, ◌++◌}
use native.Mathlib.Omega.{arith}
use lib.Ieee.{Float}
use Rattle.arithmetic.specs.Doubles.{doubles}
use Rattle.arithmetic.specs.Value.{value, Within}
use Rattle.arithmetic.proofs.Distance.{both_within}
use Rattle.range.specs.declared.basic.Range.{Range}
use Rattle.range.specs.Rules.{ok, ranges}
use Rattle.range.specs.Exact.{Reading, exact}
use Rattle.range.specs.Enclosed.{Ok, Enclosed}
use Rattle.range.proofs.Certified.{Holds, certified, enclosed}
use Rattle.range.proofs.Carried.{Carries, carried}
use Rattle.eos.proofs.Sent.{as_sent}
use Rattle.case_record.specs.Record.{case_of}
use Rattle.std.specs.Prelude.{Ok as Passes}
use Rattle.refusal.specs.declared.Refusal.{Refusal}
use Rattle.checks.specs.Checks.{Checks, envelope, substances, state, first_failing}
use Rattle.checks.proofs.Accepted.{all_passed, in_front, joined}
use Rattle.answer.specs.declared.Answer.{Answer}
use Rattle.answer.specs.declared.Answer.TheVariants.{Ends, Refused}
use Rattle.calls.specs.declared.kinds.Kind.TheVariants.{Energies as ForEnergies, Ends as ForEnds}
use Rattle.calls.specs.Answers.{all, answer_of, answered, arithmetic, beyond, ends_of, energies_of, order, result_of, tested}
use Rattle.calls.specs.Guarantee.{reading_of, EnergyHeld, EndsHold}
use Rattle.calls.proofs.Answers.{each_true}

-- ---- one energy: its range r is ok
module _ {r : Range} {d : Float} {x : Reading} (holds : Holds d x) (carries : Carries r x) (ok_r : Ok r) where
  encloses : Enclosed d x
  encloses = enclosed holds (subst Ok carries.is ok_r)

  held : EnergyHeld r d x
  held =
      let e = encloses in
      let near : Within r.lower r.upper (value d) = subst (λ (s : Range). Within s.lower s.upper (value d)) (sym carries.is) e.between in
      record {
        between = near;
        every_reading = λ c.
            let q = e.reads c in
            let between : Within r.lower r.upper q.result = subst (λ (s : Range). Within s.lower s.upper q.result) (sym carries.is) q.between in
            record { q = q.result; has_result = q.is; between = between; close = both_within near.low near.high between.low between.high };
      }

-- ---- what an answer with ends says
no_ends : {X : Type 0} {refusal : Refusal} {h r a : Range} → Refused refusal ≡ Ends h r a → X
no_ends e = let z : ◌≡◌ {A = ℕ} 0 1 = cc in absurd (omega arith)

three_ends : {x y z h r a : Range} → Ends x y z ≡ Ends h r a → (x ≡ h) × (y ≡ r) × (z ≡ a)
three_ends e = (cc, cc, cc)

-- no check refuses the record or its case, the energies are finite, and the ends are the case's
pub record HasEnds (s : List ℕ) (h r a : Range) : Type 0 where
  pub has_energies : answer_of ForEnergies s ≡ result_of ForEnergies (case_of s)
  pub of_record : first_failing (envelope 1 2 s) ≡ Passes tt
  pub are_ok : all ok (ends_of (case_of s)) ≡ true
  pub are : result_of ForEnds (case_of s) ≡ Ends h r a

-- what is answered behind tests is with ends where all of them pass
passed_all : (tests : Checks) (x : Answer) {h r a : Range} → answered (tested tests x) ≡ Ends h r a → (first_failing tests ≡ Passes tt) × (x ≡ Ends h r a)
unfolding tested
passed_all [] x e = (refl, e)
passed_all ((refusal, true) ∷ rest) x e = passed_all rest x e
passed_all ((refusal, false) ∷ rest) x e = no_ends e

energies_behind : (s : List ℕ) → first_failing (envelope 1 2 s) ≡ Passes tt → first_failing (substances (case_of s) ++ state (case_of s)) ≡ Passes tt → first_failing (arithmetic (case_of s)) ≡ Passes tt
    → answer_of ForEnergies s ≡ result_of ForEnergies (case_of s)
unfolding answer_of tested
energies_behind s i j k =
    let c = case_of s in
    let e : first_failing (order ForEnergies s) ≡ Passes tt =
    joined (envelope 1 2 s) ((substances c ++ state c) ++ arithmetic c ++ []) i (joined (substances c ++ state c) (arithmetic c ++ []) j (joined (arithmetic c) [] k refl)) in
    rw e

has_ends : (s : List ℕ) {h r a : Range} → answer_of ForEnds s ≡ Ends h r a → HasEnds s h r a
unfolding answer_of
has_ends s e =
    let c = case_of s in
    let (all_pass, are) = passed_all (order ForEnds s) (result_of ForEnds c) e in
    let (of_record, behind) = in_front (envelope 1 2 s) ((substances c ++ state c) ++ arithmetic c ++ beyond ForEnds c) all_pass in
    let (of_case, of_worked) = in_front (substances c ++ state c) (arithmetic c ++ beyond ForEnds c) behind in
    let (_, (are_ok, _)) = all_passed (arithmetic c ++ beyond ForEnds c) of_worked in
    record {
      has_energies = energies_behind s of_record of_case (in_front (arithmetic c) (beyond ForEnds c) of_worked).0;
      of_record = of_record;
      are_ok = are_ok;
      are = are;
    }

-- ---- the theorem
pub ends_hold : (s : List ℕ) (hard_sphere reference attractive : Range) → answer_of ForEnds s ≡ Ends hard_sphere reference attractive → EndsHold s hard_sphere reference attractive
ends_hold s h r a e =
    let c = case_of s in
    let has = has_ends s e in
    let ends = ends_of c in
    let (i, j, k) = each_true (ok ends.hard_sphere) (ok ends.reference) (ok ends.attractive) has.are_ok in
    let (h_is, r_is, a_is) = three_ends has.are in
    let holds = as_sent doubles exact Holds certified c.mixture c.perturbation c.state in
    let carries = as_sent ranges exact Carries carried c.mixture c.perturbation c.state in
    let d = energies_of c in
    record {
      x = d.hard_sphere;
      y = d.reference;
      z = d.attractive;
      energies = has.has_energies;
      hard_sphere_held = subst (λ (i : Range). EnergyHeld i d.hard_sphere (reading_of c).hard_sphere) h_is (held holds.hard_sphere_is carries.hard_sphere_is i);
      reference_held = subst (λ (i : Range). EnergyHeld i d.reference (reading_of c).reference) r_is (held holds.reference_is carries.reference_is j);
      attractive_held = subst (λ (i : Range). EnergyHeld i d.attractive (reading_of c).attractive) a_is (held holds.attractive_is carries.attractive_is k);
    }
