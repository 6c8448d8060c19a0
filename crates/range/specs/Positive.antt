-- Ranges whose ends are above 0 and in order: most are, and the code has a shorter way for them.
use Rattle.std.specs.Prelude.{Bool, ◌&&◌}
use Rattle.std.specs.Float.Ieee.{lt, le}
use Rattle.arithmetic.specs.Constants.{zero_d}
use Rattle.range.specs.declared.basic.Range.{Range}

abbrev pub positive : Range → Bool
positive r = lt zero_d r.lower && le r.lower r.upper
