-- Above zero by its law, else as any.
use mathlib.Core.Path.{sym, ◌∙◌}
use Rattle.std.proofs.Common.{rules}
use Rattle.std.proofs.lemmas.Float.{T_from_true}
use Rattle.range.proofs.Positive.{SumTests, positive_sum, sum_positive}
use Rattle.range.proofs.basic.RangeAdd.add.Goals as goal

tests : (c : goal.Then-u) → SumTests c.args.self c.args.other
tests c = record {
  fits_r = search rules;
  fits_s = search rules;
  first = T_from_true _ c.if-self.true;
  second = T_from_true _ c.if-other.true;
  in_order = T_from_true _ c.if-l-u.true;
  to_limit = T_from_true _ c.if-u.true;
}

pub neighbours-requires : goal.neighbours-requires
neighbours-requires c = let t = tests c in (sum_positive _ _ t, t.in_order, t.to_limit)

pub returns-then-u : goal.returns-then-u
returns-then-u c = c.neighbours.ensures ∙ sym (positive_sum _ _ (tests c.before))
