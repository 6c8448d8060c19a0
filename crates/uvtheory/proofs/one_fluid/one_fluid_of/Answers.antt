use Rattle.std.proofs.Common.{refl}
use Rattle.num_dual.specs.Powers.{first_power}
use Rattle.uvtheory.proofs.one_fluid.one_fluid_of.Goals as goal

pub returns : goal.returns
returns g c =
    let number = g.met.D.DualNum in
    simp (
      number.div_is _ _ _ c.div.ensures,
      number.div_is _ _ _ c.div-2.ensures,
      c.virial_sum.ensures,
      c.cube_root.ensures,
      c.cube_root-sigma_x.ensures,
      c.mean_cube.ensures,
      c.mean_cube-2.ensures,
      c.pair_mean.ensures,
      c.pair_mean-2.ensures,
      c.pair_mean-weighted_sigma3_ij.ensures,
      first_power g.D.DualNum.arithmetic number.powi_is,
    ) refl
