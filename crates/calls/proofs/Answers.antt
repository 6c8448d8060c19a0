-- The answer to a record, stage by stage, and that what the code works is what the definition says.
use Prim.Native.Nat.{ℕ}
use mathlib.Core.Path.{◌≡◌, refl, sym, ap, ◌∙◌, subst}
use mathlib.Core.Bool.{Bool, true, false, ◌&&◌}
use mathlib.Core.List.{List, [], ◌∷◌, ◌++◌}
use lib.Dec.{T}
use lib.Ieee.{Float, nan, inf, fin}
use lib.Ieee.Scale.{finite}
use Rattle.arithmetic.specs.Doubles.{checked, guarded}
use Rattle.range.specs.declared.basic.Range.{Range as RangeOfEnds}
use Rattle.range.specs.Rules as Range
use Rattle.dual.specs.declared.basic.Dual.{Dual}
use Rattle.dual.specs.Rules.{plain, guarded_slopes}
use Rattle.dual.specs.Rules as Dual
use Rattle.dual.proofs.Agreement.{Same, ok_kept, in_code}
use Rattle.uvtheory.specs.Inputs as Inputs
use Rattle.uvtheory.specs.declared.contributions.Contributions.{Contributions}
use Rattle.eos.specs.Contributions.{contributions}
use Rattle.eos.specs.Slopes.{started}
use Rattle.eos.proofs.Agreement.{contributions_agree}
use Rattle.eos.proofs.Sloped as Sloped
use Rattle.case_record.specs.declared.case.Case.{Case}
use Rattle.case_record.specs.Record.{case_of}
use Rattle.checks.specs.Checks.{Checks, envelope, substances, state, first_failing}
use Rattle.answer.specs.declared.Answer.{Answer}
use Rattle.answer.specs.declared.Answer.TheVariants.{Energies, Ends, Slopes}
use Rattle.calls.specs.declared.kinds.Kind.{Kind}
use Rattle.calls.specs.declared.kinds.Kind.TheVariants.{Energies as ForEnergies, Ends as ForEnds, Slopes as ForSlopes}
use Rattle.std.specs.Prelude.{Ok, Err}
use Rattle.std.specs.Result.{result_and}
use Rattle.refusal.specs.declared.Refusal.TheVariants as Due
use Rattle.calls.specs.Answers.{all, arithmetic, beyond, ends_of, energies_of, order, result_of, slopes_of, staged, tested, worked_of}

-- ---- behind the tests of one stage those of the next
pub in_stages : (a b : Checks) (x : Answer) → tested (a ++ b) x ≡ result_and (first_failing a) (tested b x)
unfolding tested
in_stages [] b x = refl
in_stages ((refusal, true) ∷ rest) b x = in_stages rest b x
in_stages ((refusal, false) ∷ rest) b x = refl

-- of the record, of its case, and of what is worked
pub stages : (kind : Kind) (s : List ℕ) → staged kind s ≡ tested (order kind s) (result_of kind (case_of s))
unfolding worked_of
stages kind s =
    let c = case_of s in
    let worked = arithmetic c ++ beyond kind c in
    let x = result_of kind c in
    sym (
    in_stages (envelope 1 2 s) ((substances c ++ state c) ++ worked) x
    ∙ ap (result_and (first_failing (envelope 1 2 s))) (in_stages (substances c) (state c ++ worked) x ∙ ap (result_and (first_failing (substances c))) (in_stages (state c) worked x))
    )

-- ---- three values that are three others, one by one
record Each {X : Type 0} (a b : Contributions X) : Type 0 where
  hard_sphere_is : a.hard_sphere ≡ b.hard_sphere
  reference_is : a.reference ≡ b.reference
  attractive_is : a.attractive ≡ b.attractive

each : {X : Type 0} {a b : Contributions X} → a ≡ b → Each a b
each {X} e = record {
  hard_sphere_is = ap (λ (x : Contributions X). x.hard_sphere) e;
  reference_is = ap (λ (x : Contributions X). x.reference) e;
  attractive_is = ap (λ (x : Contributions X). x.attractive) e;
}

-- ---- three tests
each_same : {p q r p' q' r' : Bool} → p ≡ p' → q ≡ q' → r ≡ r' → p && q && r ≡ p' && q' && r'
each_same h k l = rw (h, k, l)

pub each_true : (p q r : Bool) → p && q && r ≡ true → T p × T q × T r
each_true true true true e = (tt, tt, tt)
each_true true true false e = let z : T false = subst T (sym e) tt in absurd z
each_true true false r e = let z : T false = subst T (sym e) tt in absurd z
each_true false q r e = let z : T false = subst T (sym e) tt in absurd z

-- ---- The code tests its three energies once. The definition's are NaN from the first value on that is not finite. The answers are the same.
finite_checked : (x : Float) → finite x ≡ finite (checked x)
finite_checked nan = refl
finite_checked (inf s) = refl
finite_checked (fin s m e) = refl

checked_is : (x : Float) → T (finite x) → x ≡ checked x
checked_is nan h = absurd h
checked_is (inf s) h = absurd h
checked_is (fin s m e) h = refl

-- of one energy: the code holds h, works g, and the definition has d
module _ {h g d : Float} (held : h ≡ g) (agrees : checked g ≡ d) where
  test_is : finite h ≡ finite d
  test_is = ap finite held ∙ finite_checked g ∙ ap finite agrees

  value_is : T (finite h) → h ≡ d
  value_is k = held ∙ checked_is g (subst (λ (x : Float). T (finite x)) held k) ∙ agrees

module _ (c : Case) {e : Contributions Float} (e_is : e ≡ contributions guarded c.perturbation c.mixture (Inputs.state guarded c.state)) {b : Bool}
    (b_is : b ≡ finite e.hard_sphere && finite e.reference && finite e.attractive) where
  are : Each e (contributions guarded c.perturbation c.mixture (Inputs.state guarded c.state))
  are = each e_is

  same_test : b ≡ all finite (energies_of c)
  same_test =
      let a = contributions_agree c.perturbation c.mixture c.state in
      b_is ∙ each_same (test_is are.hard_sphere_is a.hard_sphere_is) (test_is are.reference_is a.reference_is) (test_is are.attractive_is a.attractive_is)

  pub energies_worked : result_and (first_failing ((Due.Arithmetic, b) ∷ [])) (Ok (Energies e.hard_sphere e.reference e.attractive)) ≡ worked_of ForEnergies c
  unfolding worked_of tested
  energies_worked = go b refl
    where
      go : (p : Bool) → b ≡ p → result_and (first_failing ((Due.Arithmetic, p) ∷ [])) (Ok (Energies e.hard_sphere e.reference e.attractive)) ≡ worked_of ForEnergies c
      go true h =
          let a = contributions_agree c.perturbation c.mixture c.state in
          let t = each_true (finite e.hard_sphere) (finite e.reference) (finite e.attractive) (sym b_is ∙ h) in
          rw (
            sym same_test ∙ h,
            value_is are.hard_sphere_is a.hard_sphere_is t.0,
            value_is are.reference_is a.reference_is t.1,
            value_is are.attractive_is a.attractive_is t.2,
          )
      go false h = rw (sym same_test ∙ h)

-- behind the energies' test the ends
pub ends_worked : (c : Case) → result_and (worked_of ForEnergies c) (tested (beyond ForEnds c) (result_of ForEnds c)) ≡ worked_of ForEnds c
unfolding worked_of tested
ends_worked c = go (all finite (energies_of c))
  where
    go : (p : Bool) → let x = result_of ForEnds c in
        result_and (result_and (first_failing ((Due.Arithmetic, p) ∷ [])) (Ok (result_of ForEnergies c))) (result_and (first_failing (beyond ForEnds c)) (Ok x))
        ≡ result_and (first_failing ((Due.Arithmetic, p) ∷ beyond ForEnds c)) (Ok x)
    go true = refl
    go false = refl

-- ---- the three ranges
module _ (c : Case) {e : Contributions RangeOfEnds} (e_is : e ≡ ends_of c) {b : Bool} (b_is : b ≡ Range.ok e.hard_sphere && Range.ok e.reference && Range.ok e.attractive) where
  ranges_tested : b ≡ all Range.ok (ends_of c)
  ranges_tested = let are = each e_is in b_is ∙ rw (are.hard_sphere_is, are.reference_is, are.attractive_is)

  pub ranges_worked : result_and (first_failing ((Due.Ends, b) ∷ [])) (Ok (Ends e.hard_sphere e.reference e.attractive)) ≡ tested (beyond ForEnds c) (result_of ForEnds c)
  unfolding tested
  ranges_worked = let are = each e_is in rw (ranges_tested, are.hard_sphere_is, are.reference_is, are.attractive_is)

-- ---- the three with slopes: the code holds h, works g, and the definition has d
module _ {h g d : Dual} (held : h ≡ g) (agrees : Same g d) where
  dual_tested : Dual.ok h ≡ Dual.ok d
  dual_tested = ap Dual.ok held ∙ ok_kept agrees

  dual_is : T (Dual.ok h) → h ≡ d
  dual_is k = held ∙ in_code agrees (subst (λ (x : Dual). T (Dual.ok x)) held k)

  dual_value_tested : finite h.value ≡ finite d.value
  dual_value_tested = ap (λ (x : Dual). finite x.value) held ∙ finite_checked g.value ∙ ap (λ (x : Dual). finite x.value) agrees.is

-- where both halves are finite, so is the value
ok_value : (h : Dual) → T (Dual.ok h) → finite h.value ≡ true
ok_value h k = go (finite h.value) (finite h.slope) k
  where
    go : (p q : Bool) → T (p && q) → p ≡ true
    go true q k = refl
    go false q k = absurd k

module _ (c : Case) {e : Contributions Dual} (e_is : e ≡ contributions guarded_slopes c.perturbation c.mixture (started plain c.state)) where
  are_sloped : Each e (contributions guarded_slopes c.perturbation c.mixture (started plain c.state))
  are_sloped = each e_is

  -- the values are the energies
  values_tested : {v : Bool} → v ≡ finite e.hard_sphere.value && finite e.reference.value && finite e.attractive.value → v ≡ all finite (energies_of c)
  values_tested v_is =
      let a = Sloped.contributions_agree c.perturbation c.mixture c.state in
      let v = Sloped.values_are c.perturbation c.mixture c.state in
      v_is
      ∙ each_same
      (dual_value_tested are_sloped.hard_sphere_is a.hard_sphere_is ∙ ap finite v.hard_sphere_is)
      (dual_value_tested are_sloped.reference_is a.reference_is ∙ ap finite v.reference_is)
      (dual_value_tested are_sloped.attractive_is a.attractive_is ∙ ap finite v.attractive_is)

  module _ {b : Bool} (b_is : b ≡ Dual.ok e.hard_sphere && Dual.ok e.reference && Dual.ok e.attractive) where
    slopes_tested : b ≡ all Dual.ok (slopes_of c)
    slopes_tested =
        let a = Sloped.contributions_agree c.perturbation c.mixture c.state in
        b_is ∙ each_same (dual_tested are_sloped.hard_sphere_is a.hard_sphere_is) (dual_tested are_sloped.reference_is a.reference_is) (dual_tested are_sloped.attractive_is a.attractive_is)

    module _ {v : Bool} (v_is : v ≡ finite e.hard_sphere.value && finite e.reference.value && finite e.attractive.value) where
      pub slopes_worked : result_and (first_failing ((Due.Arithmetic, v) ∷ [])) (result_and (first_failing ((Due.Slopes, b) ∷ [])) (Ok (Slopes e.hard_sphere e.reference e.attractive)))
          ≡ worked_of ForSlopes c
      unfolding worked_of tested
      slopes_worked = go v b refl refl
        where
          go : (p q : Bool) → v ≡ p → b ≡ q
              → result_and (first_failing ((Due.Arithmetic, p) ∷ [])) (result_and (first_failing ((Due.Slopes, q) ∷ [])) (Ok (Slopes e.hard_sphere e.reference e.attractive)))
              ≡ worked_of ForSlopes c
          go false q k h = rw (sym (values_tested v_is) ∙ k)
          go true false k h = rw (sym (values_tested v_is) ∙ k, sym slopes_tested ∙ h)
          go true true k h =
              let a = Sloped.contributions_agree c.perturbation c.mixture c.state in
              let t = each_true (Dual.ok e.hard_sphere) (Dual.ok e.reference) (Dual.ok e.attractive) (sym b_is ∙ h) in
              rw (
                sym (values_tested v_is) ∙ k,
                sym slopes_tested ∙ h,
                dual_is are_sloped.hard_sphere_is a.hard_sphere_is t.0,
                dual_is are_sloped.reference_is a.reference_is t.1,
                dual_is are_sloped.attractive_is a.attractive_is t.2,
              )

      -- one by one
      pub slope_fails : b ≡ false → v ≡ true → Err Due.Slopes ≡ worked_of ForSlopes c
      slope_fails h k = rw (k, h) at slopes_worked

      pub value_fails : v ≡ false → Err Due.Arithmetic ≡ worked_of ForSlopes c
      value_fails k = rw k at slopes_worked

    pub all_sloped : b ≡ true → Ok (Slopes e.hard_sphere e.reference e.attractive) ≡ worked_of ForSlopes c
    all_sloped h =
        let t = each_true (Dual.ok e.hard_sphere) (Dual.ok e.reference) (Dual.ok e.attractive) (sym b_is ∙ h) in
        let values = each_same (ok_value e.hard_sphere t.0) (ok_value e.reference t.1) (ok_value e.attractive t.2) in
        rw h at (slopes_worked {v = true} (sym values))
