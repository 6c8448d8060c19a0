-- The contributions with slopes: their value halves are the contributions in doubles, to the bit, and those that the code works, checked, are the definition's.
use mathlib.Core.Path.{◌≡◌}
use lib.Ieee.{Float}
use Rattle.arithmetic.specs.Doubles.{doubles}
use Rattle.arithmetic.proofs.Both.{both_of}
use Rattle.dual.specs.declared.basic.Dual.{Dual}
use Rattle.dual.specs.Rules.{strict, plain, slopes, guarded_slopes}
use Rattle.dual.proofs.Values.{Holds, values, start_holds}
use Rattle.dual.proofs.Agreement.{Same, agreement, start_kept}
use Rattle.uvtheory.specs.declared.eos.Perturbation.{Perturbation}
use Rattle.uvtheory.specs.declared.parameters.Mixture.{Mixture}
use Rattle.uvtheory.specs.declared.parameters.State.{State}
use Rattle.uvtheory.specs.declared.contributions.Contributions.{Contributions}
use Rattle.uvtheory.specs.Inputs.{state}
use Rattle.uvtheory.specs.Rows.{doubles as entries}
use Rattle.eos.specs.Contributions.{contributions}
use Rattle.eos.specs.Slopes.{started}
use Rattle.eos.proofs.Sent.{on_states}

pub record ValuesAre (c : Contributions Dual) (d : Contributions Float) : Type 0 where
  pub hard_sphere_is : c.hard_sphere.value ≡ d.hard_sphere
  pub reference_is : c.reference.value ≡ d.reference
  pub attractive_is : c.attractive.value ≡ d.attractive

pub values_are : (perturbation : Perturbation) (m : Mixture) (s : State Float) → ValuesAre (contributions slopes perturbation m (started strict s)) (contributions doubles perturbation m (state doubles s))
values_are perturbation m s =
    let kept = on_states slopes doubles Holds values m perturbation record {
      temperature = both_of Holds (values.constant s.temperature);
      partial_density = λ i. both_of Holds (start_holds (entries s.partial_density i) (entries s.molefracs i));
      molefracs = λ i. both_of Holds (values.constant (entries s.molefracs i));
    } in
    record { hard_sphere_is = kept.hard_sphere_is.is; reference_is = kept.reference_is.is; attractive_is = kept.attractive_is.is }

pub record Agree (g d : Contributions Dual) : Type 0 where
  pub hard_sphere_is : Same g.hard_sphere d.hard_sphere
  pub reference_is : Same g.reference d.reference
  pub attractive_is : Same g.attractive d.attractive

pub contributions_agree : (perturbation : Perturbation) (m : Mixture) (s : State Float) → Agree (contributions guarded_slopes perturbation m (started plain s)) (contributions slopes perturbation m (started strict s))
contributions_agree perturbation m s =
    let kept = on_states guarded_slopes slopes Same agreement m perturbation record {
      temperature = both_of Same (agreement.constant s.temperature);
      partial_density = λ i. both_of Same (start_kept (entries s.partial_density i) (entries s.molefracs i));
      molefracs = λ i. both_of Same (agreement.constant (entries s.molefracs i));
    } in
    record { hard_sphere_is = kept.hard_sphere_is; reference_is = kept.reference_is; attractive_is = kept.attractive_is }
