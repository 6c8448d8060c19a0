-- Each density in its place, and past the end what is missing.
use Rattle.std.proofs.Common.{rules, ◌≡◌, ℕ, ◌<◌, ◌≤◌, ◌∙◌, ◌⊎◌, inl, inr, sym, ap₂, arith, length}
use Rattle.std.proofs.Math.Path.{fun_ext}
use Rattle.std.proofs.lemmas.Bool.{cases_lt}
use Rattle.std.proofs.lemmas.List.{get_or_past}
use Rattle.std.specs.Float.{nan}
use Rattle.dual.specs.declared.basic.Dual.{Dual}
use Rattle.dual.specs.Rules.{guarded_slopes, plain, start}
use Rattle.dual.proofs.Constants.{nan_constant}
use Rattle.uvtheory.specs.Rows.{doubles, row}
use Rattle.eos.proofs.states.started.Goals as goal

pub returns : goal.returns
unfolding start
returns c =
    let s = c.args.s.now in
    let d = s.partial_density in
    let x = s.molefracs in
    let densities : ℕ → Dual = λ i. start plain (doubles d i) (doubles x i) in
    let filled = c.each.ensures densities (λ i r l p. p) in
    let size : length c.each.result ≡ 8 = search (rules, c.each.type_inv) in
    let dl : length d ≡ 8 = search (rules, c.well_formed) in
    let xl : length x ≡ 8 = search (rules, c.well_formed) in
    let at : (i : ℕ) → (i < 8) ⊎ (8 ≤ i) → row guarded_slopes c.each.result i ≡ densities i = λ i. elim [
      | inl l ↦ filled i (omega arith)
      | inr h ↦ get_or_past c.each.result i _ (omega (arith, size)) ∙ nan_constant ∙ sym (ap₂ (start plain) (get_or_past d i nan (omega (arith, dl))) (get_or_past x i nan (omega (arith, xl))))
    ] in
    rw (c.from.ensures, fun_ext (λ i. at i (cases_lt i 8)), c.constants.ensures)
