use Rattle.std.proofs.Common.{◌∷◌, ap, ◌∙◌, append_assoc}
use Rattle.elementary.proofs.series.horner_by.Goals as goal

pub loop-x-preserved : goal.loop-x-preserved
loop-x-preserved g c =
    let (d, ds, whole, value) = c.loop-x.invariant in
    (c.in-Some.x.now, d ∷ ds, rw append_assoc at (rw c.in-Some.ensures.steps at whole), λ of by f s. s _ _ _ c.step-p.ensures ∙ ap (λ p. by p c.in-Some.x.now) (value of by f s))
