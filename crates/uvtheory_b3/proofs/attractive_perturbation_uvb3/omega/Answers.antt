use lib.Ieee.{of_bits}
use Rattle.uvtheory_b3.proofs.attractive_perturbation_uvb3.omega.Goals as goal

-- 175 is finite
pub if_below-requires : goal.if_below-requires
unfolding of_bits
if_below-requires g c = tt
