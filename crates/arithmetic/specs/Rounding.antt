-- A fraction rounded to the nearest float of a format, ties to even.
use Rattle.std.specs.Prelude.{◌-◌, Bool, true, false, cond, ltb, pos, Float}
use Rattle.std.specs.Float.{fin, Format}
use Rattle.std.specs.Float.Ieee.{round}
use Rattle.arithmetic.specs.Fraction.{Fraction}

-- Where q is zero, z is the result's sign.
unfoldable pub rounded : Format → Bool → Fraction → Float
rounded f z q =
    cond (ltb q.plus q.minus) (round f true (q.minus - q.plus) q.den)
    (cond (ltb q.minus q.plus) (round f false (q.plus - q.minus) q.den) (fin z 0 (pos 0)))
