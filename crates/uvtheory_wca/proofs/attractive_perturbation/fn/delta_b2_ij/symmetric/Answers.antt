use Rattle.std.proofs.Common.{◌∙◌}
use Rattle.uvtheory_wca.proofs.attractive_perturbation.fn.delta_b2_ij.symmetric.Goals as goal

pub returns : goal.returns
returns g c = c.delta_b2.ensures ∙ rw (g.met.D.DualNum.div_is _ _ _ c.div.ensures, c.mie_prefactor-c.ensures, c.pair-ij.ensures, c.requires.2)
