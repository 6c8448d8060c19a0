-- The operations that the recipes of the elementary functions are written in. How a case is chosen is an operation too, so that doubles, ranges and fractions run one text.
use Rattle.std.specs.Prelude.{Bool, ℤ, Float}
use Rattle.std.proofs.Math.Option.{Option, some}
use Rattle.arithmetic.specs.Fraction.{Fraction, ◌≺?◌}
use Rattle.arithmetic.specs.Value.{value}
use Rattle.arithmetic.specs.Cases.{exponent_of, floor_of}

-- a case by a limit c: what lies below c, or above it
pub data Limit : Type 0 where
  below above : Float → Limit

abbrev pub passes : Limit → Fraction → Bool
passes (below c) q = q ≺? value c
passes (above c) q = value c ≺? q

-- a case by a whole number: e of ln, or k of exp
pub data Step : Type 0 where
  exponent floor : Step

abbrev pub pick : Step → Fraction → Option ℤ
pick exponent q = exponent_of q
pick floor q = some (floor_of q)

pub record Basic : Type 1 where
  pub Value : Type 0
  pub constant : Float → Value
  pub add : Value → Value → Value
  pub neg : Value → Value
  pub sub : Value → Value → Value
  pub mul : Value → Value → Value
  pub div : Value → Value → Value
  -- a whole number, and v * 2 ^ k, exactly
  pub whole : ℤ → Value
  pub scale : Value → ℤ → Value
  -- what an argument without a rule gives
  pub none : Value
  -- `test l v a b` is a where v passes the limit l, else b; `step s v f` is f of the whole number of v
  pub test : Limit → Value → Value → Value → Value
  pub step : Step → Value → (ℤ → Value) → Value
