-- Exponents by which a power of [1, 1] is known: they lie between -1000 and 1000, with their ends in order, and do not start at 0.
use Rattle.std.specs.Prelude.{Bool, not, ◌&&◌, Float}
use Rattle.std.specs.Float.Ieee.{le, eq, neg}
use Rattle.arithmetic.specs.Constants.{bits, zero_d}
use Rattle.range.specs.declared.basic.Range.{Range}

abbrev pub thousand : Float
thousand = bits 0x408F400000000000

abbrev pub minus_thousand : Float
minus_thousand = neg thousand

abbrev pub moderate : Range → Bool
moderate b = le minus_thousand b.lower && (le b.lower b.upper && (le b.upper thousand && not (eq b.lower zero_d)))
