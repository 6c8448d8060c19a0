-- The number that a float is, and numbers between floats.
use Rattle.std.specs.Prelude.{ℕ, ◌*◌, ◌<◌, Bool, true, false, Float}
use Rattle.std.specs.Float.{nan, inf, fin}
use Rattle.std.specs.Float.Ieee.{up, down}
use Rattle.std.specs.Float.Ieee.Fits.{down_pos}
use Rattle.arithmetic.specs.Fraction.{Fraction, null, ◌≼◌}

-- ±a / c
abbrev pub signed : Bool → (a c : ℕ) → 0 < c → Fraction
signed false a c h = record { plus = a; minus = 0; den = c; above = h }
signed true a c h = record { plus = 0; minus = a; den = c; above = h }

-- ±m * 2 ^ e, and 0 for a NaN and an infinity, which are no numbers
abbrev pub value : Float → Fraction
value nan = null
value (inf s) = null
value (fin s m e) = signed s (m * up e) (down e) (down_pos e)

abbrev pub sign : Float → Bool
sign nan = false
sign (inf s) = s
sign (fin s m e) = s

-- the number q lies between lo and hi, both included
pub record Within (lo hi : Float) (q : Fraction) : Type 0 where
  pub low : value lo ≼ q
  pub high : q ≼ value hi
