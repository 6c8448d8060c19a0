-- Below zero by the opposite range, else as any.
use mathlib.Core.Path.{sym, ap₂, subst, ◌∙◌}
use lib.Dec.{T}
use lib.Ieee.{neg}
use lib.Ieee.Fits.{neg-fits}
use lib.Ieee.{binary64, lt}
use Rattle.arithmetic.specs.Constants.{zero_d}
use Rattle.range.specs.declared.basic.Range.{Range}
use Rattle.range.specs.Rules as Rules
use Rattle.range.proofs.Negative.{neg_neg, outwards_opposite}
use Rattle.range.proofs.basic.outwards_below.Goals as goal

pub neighbours-n-requires : goal.neighbours-n-requires
neighbours-n-requires c = (subst T (sym c.if-a.true) tt, subst T (sym c.if-a-b.true) tt, subst T (sym c.if-b.true) tt)

pub returns-then-n : goal.returns-then-n
returns-then-n c =
    let l = c.args.l in
    let u = c.args.u in
    let is = c.neighbours-n.ensures in
    let f = neg-fits binary64 u (subst T (sym c.well_formed.1.0.1) tt) in
    let g = neg-fits binary64 l (subst T (sym c.well_formed.0.1) tt) in
    let above = subst (λ (r : Range). T (lt zero_d r.lower)) is (subst T (sym c.if-n.true) tt) in
    rw is (sym (ap₂ Rules.outwards (sym (neg_neg l)) (sym (neg_neg u)) ∙ outwards_opposite (neg u) (neg l) f g (subst T (sym c.if-a-b.true) tt) above))

pub returns : goal.returns
unfolding Rules.outwards
returns c = rw (c.ends.ensures, c.next_up.ensures, c.next_down.ensures)
