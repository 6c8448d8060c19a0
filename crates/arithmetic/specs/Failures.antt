-- No operation loses a failure: where a result has not failed, its operands have not. In doubles a failure is NaN, in ranges a range without ends, in values with slopes a slope that is NaN.
use Rattle.std.specs.Prelude.{ℕ, suc, ◌<◌, ◌⊎◌, ℤ, Float}
use Rattle.arithmetic.specs.Basic.{Basic, Limit, Step}
use Rattle.arithmetic.specs.Arithmetic.{Arithmetic}

-- of the operations of the recipes; a case leaves the failure of the other case behind
pub record KeepsFailure (A : Basic) (Well : A.Value → Type 0) : Type 0 where
  pub add : (x y : A.Value) → Well (A.add x y) → Well x × Well y
  pub neg : (x : A.Value) → Well (A.neg x) → Well x
  pub sub : (x y : A.Value) → Well (A.sub x y) → Well x × Well y
  pub mul : (x y : A.Value) → Well (A.mul x y) → Well x × Well y
  pub div : (x y : A.Value) → Well (A.div x y) → Well x × Well y
  pub none : Well A.none → ⊥
  pub test : (l : Limit) (v x y : A.Value) → Well (A.test l v x y) → Well v × (Well x ⊎ Well y)
  pub step : (s : Step) (v : A.Value) (f : ℤ → A.Value) → Well (A.step s v f) → Well v

-- of the operations of the formulas
pub record KeepsFailures {Value : Type 0} (A : Arithmetic Value) (Well : Value → Type 0) : Type 0 where
  pub add : (x y : Value) → Well (A.add x y) → Well x × Well y
  pub neg : (x : Value) → Well (A.neg x) → Well x
  pub sub : (x y : Value) → Well (A.sub x y) → Well x × Well y
  pub mul : (x y : Value) → Well (A.mul x y) → Well x × Well y
  pub div : (x y : Value) → Well (A.div x y) → Well x × Well y
  pub powi : (x : Value) (k : ℕ) → Well (A.powi x (suc k)) → Well x
  pub sqrt : (x : Value) → Well (A.sqrt x) → Well x
  pub ln : (x : Value) → Well (A.ln x) → Well x
  pub ln1p : (x : Value) → Well (A.ln1p x) → Well x
  pub exp : (x : Value) → Well (A.exp x) → Well x
  pub powf : (x y : Value) → Well (A.powf x y) → Well x × Well y
  pub tanh : (x : Value) → Well (A.tanh x) → Well x
  pub if_below : (v : Value) (t : Float) (x y : Value) → Well (A.if_below v t x y) → Well v × (Well x ⊎ Well y)
  pub sum : (n : ℕ) (f : ℕ → Value) → Well (A.sum n f) → (i : ℕ) → i < n → Well (f i)
