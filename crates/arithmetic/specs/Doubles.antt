-- Two meanings in doubles. `doubles` is the definition of demand 2: each operation rounds once, and a value that is not finite, or an argument without a rule,
-- is NaN from there on. `guarded` is what the code works: the machine's operations with no test between them but where one could lose what is not finite.
-- proofs/Agreement.antt: for every formula, one test at the end of `guarded` gives `doubles`.
use Rattle.std.specs.Prelude.{false, cond, ℤ, Float}
use Rattle.std.proofs.Math.Option.{Option, none, some}
use Rattle.std.specs.Float.{nan, inf, fin, binary64}
use Rattle.std.specs.Float.Ieee.{of_int}
use Rattle.std.specs.Float.Ieee as Ieee
use Rattle.std.specs.Float.Ieee.Scale.{finite}
use Rattle.arithmetic.specs.Value.{value}
use Rattle.arithmetic.specs.Basic.{Basic, Limit, Step, passes, pick}
use Rattle.arithmetic.specs.Root.{sqrt}
use Rattle.arithmetic.specs.Arithmetic.{Arithmetic, over, product_power}

-- what is not finite is NaN
abbrev pub checked : Float → Float
checked nan = nan
checked (inf s) = nan
checked (fin s m e) = fin s m e

-- y where x is finite
abbrev pub where_finite : Float → Float → Float
where_finite x y = cond (finite x) y nan

-- x × 2^k: the product with the number 2^k, which need not be a double itself
abbrev pub scaled : Float → ℤ → Float
scaled x k = Ieee.mul binary64 x (fin false 1 k)

-- cases go by the value
abbrev pub tested : Limit → Float → Float → Float → Float
tested l x a b = where_finite x (cond (passes l (value x)) a b)

abbrev pub or_nan : Option ℤ → (ℤ → Float) → Float
or_nan none f = nan
or_nan (some k) f = f k

abbrev pub stepped : Step → Float → (ℤ → Float) → Float
stepped s x f = where_finite x (or_nan (pick s (value x)) f)

abbrev pub strict : Basic
strict = record {
  Value = Float;
  constant = checked;
  add = λ x y. checked (Ieee.add binary64 x y);
  neg = λ x. checked (Ieee.neg x);
  sub = λ x y. checked (Ieee.sub binary64 x y);
  mul = λ x y. checked (Ieee.mul binary64 x y);
  div = λ x y. checked (Ieee.div binary64 x y);
  whole = λ k. checked (of_int binary64 k);
  scale = λ x k. checked (scaled x k);
  none = nan;
  test = tested;
  step = stepped;
}

-- A quotient by an infinity would be a zero: there the code tests.
unfoldable pub quotient : Float → Float → Float
quotient x y = where_finite y (Ieee.div binary64 x y)

abbrev pub plain : Basic
plain = record {
  Value = Float;
  constant = λ x. x;
  add = Ieee.add binary64;
  neg = Ieee.neg;
  sub = Ieee.sub binary64;
  mul = Ieee.mul binary64;
  div = quotient;
  whole = of_int binary64;
  scale = scaled;
  none = nan;
  test = tested;
  step = stepped;
}

abbrev pub doubles : Arithmetic Float
doubles = over strict (product_power strict) (λ x. checked (sqrt x))

abbrev pub guarded : Arithmetic Float
guarded = over plain (product_power plain) sqrt
