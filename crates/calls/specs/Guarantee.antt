-- What document 01 promises of a record with ends: of each energy, that the ported value and all exact readings lie between its ends, and so no further from each other than the ends are apart.
use Rattle.std.specs.Prelude.{ℕ, ◌≡◌, List, Float}
use Rattle.std.proofs.Math.Option.{Option, some}
use Rattle.arithmetic.specs.Fraction.{Fraction, ◌⊖◌, Close}
use Rattle.arithmetic.specs.Value.{value, Within}
use Rattle.range.specs.declared.basic.Range.{Range}
use Rattle.range.specs.Exact.{Choices, Reading, exact}
use Rattle.uvtheory.specs.declared.contributions.Contributions.{Contributions}
use Rattle.uvtheory.specs.Inputs.{state}
use Rattle.eos.specs.Contributions.{contributions}
use Rattle.case_record.specs.declared.case.Case.{Case}
use Rattle.case_record.specs.Record.{case_of}
use Rattle.answer.specs.declared.Answer.TheVariants.{Energies}
use Rattle.calls.specs.declared.kinds.Kind.TheVariants.{Energies as ForEnergies}
use Rattle.calls.specs.Answers.{answer_of}

-- "Exact reading. It is fed the record's inputs, each double as the fraction it is, and gives three fractions, one for each energy.": the same formulas as of the energies, in
-- fractions, for all choices of the roots
abbrev pub reading_of : Case → Contributions Reading
reading_of c = contributions exact c.perturbation c.mixture (state exact c.state)

-- of the ends and the ported value of one energy, and a reading of it: the reading has a result q; it lies between the ends; and the ported value and q are apart by at most upper less
-- lower
pub record ReadingHeld (ends : Range) (ported : Float) (reading : Option Fraction) : Type 0 where
  pub q : Fraction
  pub has_result : reading ≡ some q
  pub between : Within ends.lower ends.upper q
  pub close : Close (value ends.upper ⊖ value ends.lower) (value ported) q

pub record EnergyHeld (ends : Range) (ported : Float) (reading : Reading) : Type 0 where
  pub between : Within ends.lower ends.upper (value ported)
  pub every_reading : (c : Choices) → ReadingHeld ends ported (reading.at c)

-- of a record of bytes s, whose energies have these ends: the energies call has a result for it, and the ends hold
pub record EndsHold (s : List ℕ) (hard_sphere reference attractive : Range) : Type 0 where
  pub x : Float
  pub y : Float
  pub z : Float
  pub energies : answer_of ForEnergies s ≡ Energies x y z
  pub hard_sphere_held : EnergyHeld hard_sphere x (reading_of (case_of s)).hard_sphere
  pub reference_held : EnergyHeld reference y (reading_of (case_of s)).reference
  pub attractive_held : EnergyHeld attractive z (reading_of (case_of s)).attractive
