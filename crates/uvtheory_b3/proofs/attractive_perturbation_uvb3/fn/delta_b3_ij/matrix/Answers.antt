use Rattle.std.proofs.Common.{◌∙◌}
use Rattle.uvtheory_b3.proofs.attractive_perturbation_uvb3.fn.delta_b3_ij.matrix.Goals as goal

pub add-requires : goal.add-requires
add-requires g c = g.met.D.DualNum.add_total _ _

pub returns : goal.returns
returns g c =
    let number = g.met.D.DualNum in
    c.delta_b3.ensures
    ∙ rw (
      number.div_is _ _ _ c.div.ensures,
      number.mul_is _ _ _ c.mul-d_ij.ensures,
      number.add_is _ _ _ c.add.ensures,
      number.from_is _ _ c.from.ensures,
      c.reduced_diameter.ensures,
      c.reduced_diameter-2.ensures,
      c.pair-ij.ensures,
      c.requires.2,
    )
