use Rattle.std.proofs.Common.{◌∙◌}
use Rattle.uvtheory.specs.Bh.HardSphere.{diameter_bh}
use Rattle.uvtheory_bh.proofs.hard_sphere.fn.diameter_bh.each.Goals as goal

pub returns : goal.returns
unfolding diameter_bh
returns g c = c.diameter_of.ensures ∙ rw (g.met.D.DualNum.div_is _ _ _ c.div.ensures, c.pure-c.ensures)
