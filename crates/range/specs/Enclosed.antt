-- What ends are: the double is finite and lies between them; every exact reading has a result, and it lies between them.
use Rattle.std.specs.Prelude.{◌≡◌, T, Float}
use Rattle.std.proofs.Math.Option.{Option, some}
use Rattle.std.specs.Float.Ieee.Scale as Scale
use Rattle.arithmetic.specs.Fraction.{Fraction, ◌≼◌}
use Rattle.arithmetic.specs.Value.{value, Within}
use Rattle.range.specs.declared.basic.Range.{Range}
use Rattle.range.specs.Rules.{ok}
use Rattle.range.specs.Exact.{Reading, Choices}

-- both ends are finite
abbrev pub Ok : Range → Type 0
Ok r = T (ok r)

pub record Result (r : Range) (o : Option Fraction) : Type 0 where
  pub result : Fraction
  pub is : o ≡ some result
  pub between : Within r.lower r.upper result

pub record Enclosed (d : Float) (x : Reading) : Type 0 where
  pub finite : T (Scale.finite d)
  pub between : Within x.range.lower x.range.upper (value d)
  pub reads : (c : Choices) → Result x.range (x.at c)

-- new has ends, and they lie within those of old
pub record Inside (old new : Range) : Type 0 where
  pub has_ends : Ok new
  pub lower : value old.lower ≼ value new.lower
  pub upper : value new.upper ≼ value old.upper
