use Rattle.std.proofs.Common.{◌∙◌}
use Rattle.uvtheory_b3.proofs.attractive_perturbation_uvb3.fn.delta_b2_ij.symmetric.Goals as goal

pub div-requires : goal.div-requires
div-requires g c = g.met.D.DualNum.div_total _ _

pub returns : goal.returns
returns g c = c.delta_b2.ensures ∙ rw (g.met.D.DualNum.div_is _ _ _ c.div.ensures, c.pair-ij.ensures, c.requires.2)
