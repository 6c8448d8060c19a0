-- The operations of a meaning by number, for callers that pass numbers only (src/ranges.rt, src/duals.rt).
use Rattle.std.specs.Prelude.{ℕ, cond, List, [], ◌∷◌, get_or, Float}
use Rattle.std.specs.Float.Ieee.Scale.{finite}
use Rattle.arithmetic.specs.Basic.{above}
use Rattle.arithmetic.specs.Arithmetic.{Arithmetic}
use Rattle.range.specs.declared.basic.Range.{Range}
use Rattle.range.specs.Rules.{rules, ranges}
use Rattle.range.specs.Rules as Range
use Rattle.dual.specs.declared.basic.Dual.{Dual}
use Rattle.dual.specs.Rules.{guarded_slopes}
use Rattle.dual.specs.Rules as Dual

module _ {Value : Type 0} (A : Arithmetic Value) (failed : Value) where
  -- a where it is below t, else b; a limit must be finite
  abbrev pub where_below : Float → Value → Value → Value
  where_below t a b = cond (finite t) (A.if_below a t a b) failed

  -- each operation of a, and of b where it takes two, then those of this meaning alone; k is the exponent of powi
  abbrev pub operations : ℕ → Float → Value → Value → List Value → List Value
  operations k t a b others =
      A.neg a
      ∷ A.add a b
      ∷ A.sub a b
      ∷ A.mul a b
      ∷ A.div a b
      ∷ A.powi a k
      ∷ A.sqrt a
      ∷ A.ln a
      ∷ A.ln1p a
      ∷ A.exp a
      ∷ A.powf a b
      ∷ A.tanh a
      ∷ where_below t a b
      ∷ others

  -- the operation that op numbers, from 0 on; any other number has no rule
  unfoldable pub applied : ℕ → ℕ → Float → Value → Value → List Value → Value
  applied op k t a b others = get_or (operations k t a b others) op failed

-- ---- ranges have the other case too: a where the whole of it is above t, b where none of it is
abbrev pub where_above : Float → Range → Range → Range
where_above t a b = cond (finite t) (rules.test (above t) a a b) Range.failed

abbrev pub of_ranges : ℕ → ℕ → Float → Range → Range → Range
of_ranges op k t a b = applied ranges Range.failed op k t a b (where_above t a b ∷ [])

-- ---- values with slopes
abbrev pub of_duals : ℕ → ℕ → Float → Dual → Dual → Dual
of_duals op k t a b = applied guarded_slopes Dual.failed op k t a b []
