-- Above zero by its law, else as any.
use mathlib.Core.Path.{sym, ◌∙◌}
use Rattle.std.proofs.Common.{rules}
use Rattle.std.proofs.lemmas.Float.{T_from_true}
use Rattle.range.proofs.Positive.{Factors, uppers_finite, product_in_order, positive_product}
use Rattle.range.proofs.basic.RangeMul.mul.Goals as goal

factors : (c : goal.Then-u) → Factors c.args.self c.args.other
factors c = record {
  fits_r = search rules;
  fits_s = search rules;
  positive_r = sym c.is_positive.ensures ∙ c.if-is_positive.true;
  positive_s = sym c.is_positive-then-is_positive.ensures ∙ c.if-is_positive-2.true;
}

pub neighbours-requires : goal.neighbours-requires
neighbours-requires c =
    let t = factors c in
    let finite = uppers_finite _ _ t (T_from_true _ c.if-u.true) in
    (T_from_true _ c.if-l.true, product_in_order _ _ t finite.0 finite.1, T_from_true _ c.if-u.true)

pub returns-then-u : goal.returns-then-u
returns-then-u c =
    let t = factors c.before in
    let finite = uppers_finite _ _ t (T_from_true _ c.if-u.true) in
    c.neighbours.ensures ∙ sym (positive_product _ _ t finite.0 finite.1)
