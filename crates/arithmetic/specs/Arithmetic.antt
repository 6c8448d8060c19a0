-- The operations that every formula is written over, on the values of a type, and how the operations of the recipes, a power and a root make them.
use Rattle.std.specs.Prelude.{ℕ, zero, suc, Float}
use Rattle.arithmetic.specs.Basic.{Basic, below}
use Rattle.arithmetic.specs.Constants.{zero_d, one}
use Rattle.arithmetic.specs.Recipes as Recipes

pub record Arithmetic (Value : Type 0) : Type 0 where
  pub constant : Float → Value
  pub add : Value → Value → Value
  pub neg : Value → Value
  pub sub : Value → Value → Value
  pub mul : Value → Value → Value
  pub div : Value → Value → Value
  pub powi : Value → ℕ → Value
  pub sqrt : Value → Value
  pub ln : Value → Value
  pub ln1p : Value → Value
  pub exp : Value → Value
  pub powf : Value → Value → Value
  pub tanh : Value → Value
  -- `if_below v t a b` is a where v < t, else b
  pub if_below : Value → Float → Value → Value → Value
  -- f 0 + .. + f (n - 1)
  pub sum : ℕ → (ℕ → Value) → Value

-- The vector sum: left to right from +0.
module _ {X : Type 0} (start : X) (plus : X → X → X) where
  unfoldable pub sum_by : ℕ → (ℕ → X) → X
  sum_by zero f = start
  sum_by (suc n) f = plus (sum_by n f) (f n)

-- The power: a product from the left, v × v × v; with no factor it is 1.
module _ {X : Type 0} (unit : X) (times : X → X → X) where
  unfoldable pub power_by : X → ℕ → X
  power_by x zero = unit
  power_by x (suc zero) = x
  power_by x (suc (suc n)) = times (power_by x (suc n)) x

abbrev pub product_power : (A : Basic) → A.Value → ℕ → A.Value
product_power A = power_by (A.constant one) A.mul

abbrev pub over : (A : Basic) → (power : A.Value → ℕ → A.Value) → (root : A.Value → A.Value) → Arithmetic A.Value
over A power root = record {
  constant = A.constant;
  add = A.add;
  neg = A.neg;
  sub = A.sub;
  mul = A.mul;
  div = A.div;
  powi = power;
  sqrt = root;
  ln = Recipes.ln A;
  ln1p = Recipes.ln1p A;
  exp = Recipes.exp A;
  powf = Recipes.powf A;
  tanh = Recipes.tanh A;
  if_below = λ v t a b. A.test (below t) v a b;
  sum = sum_by (A.constant zero_d) A.add;
}
