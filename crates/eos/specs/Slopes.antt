-- The state as sent, its partial densities with slopes along total density: `strict` gives the definition's, `plain` what the code works.
use Rattle.std.specs.Prelude.{Float}
use Rattle.dual.specs.declared.basic.Dual.{Dual}
use Rattle.dual.specs.Rules.{Halves, constant, start}
use Rattle.uvtheory.specs.declared.parameters.State.{State as HeldState}
use Rattle.uvtheory.specs.Parameters.{State}
use Rattle.uvtheory.specs.Rows.{doubles}

module _ (H : Halves) where
  -- "Each partial density starts with the slope of its own fraction."; "with temperature and fractions fixed"
  abbrev pub started : HeldState Float → State Dual
  started s = record {
    temperature = constant H s.temperature;
    partial_density = λ i. start H (doubles s.partial_density i) (doubles s.molefracs i);
    molefracs = λ i. constant H (doubles s.molefracs i);
  }
