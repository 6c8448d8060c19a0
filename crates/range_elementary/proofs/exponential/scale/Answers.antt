use Rattle.std.proofs.Common.{rules, sym, ◌∙◌, w64}
use mir.ValLaws.{to_z-of_z}
use Rattle.range.specs.Rules as Rules
use Rattle.range_elementary.proofs.exponential.scale.Goals as goal

pub returns : goal.returns
unfolding Rules.scale Rules.kept
returns c =
    let lower = c.scale_end.ensures Rules.before (λ y r h. search rules) in
    let upper = c.scale_end-2.ensures Rules.after (λ y r h. search rules) in
    rw (
      sym c.is_ok.ensures ∙ c.if-not-is_ok.false,
      c.ends.ensures,
      upper,
      lower,
      c.power_of_two-t.ensures,
      to_z-of_z w64 c.args.k c.ranges.k,
    )
