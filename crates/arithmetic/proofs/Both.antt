-- Two meanings of the operations, and a relation that each operation keeps: then every formula keeps it. A formula worked in `both` is the proof.
use Prim.Native.Nat.{ℕ, zero, suc}
use lib.IntN.{ℤ}
use lib.Ieee.{Float}
use Rattle.arithmetic.specs.Basic.{Basic, Limit, Step, below}
use Rattle.arithmetic.specs.Constants.{zero_d, one}
use Rattle.arithmetic.specs.Recipes as Recipes
use Rattle.arithmetic.specs.Arithmetic.{Arithmetic, over, product_power, sum_by, power_by}

-- a value of each meaning, in the relation
module _ {X Y : Type 0} (R : X → Y → Type 0) where
  pub record Both : Type 0 where
    pub left : X
    pub right : Y
    pub holds : R left right

  abbrev pub both_of : {x : X} {y : Y} → R x y → Both
  both_of {x} {y} h = record { left = x; right = y; holds = h }

-- ---- the operations of the recipes
module _ (A B : Basic) (R : A.Value → B.Value → Type 0) where
  pub record BasicKept : Type 0 where
    pub constant : (k : Float) → R (A.constant k) (B.constant k)
    pub add : {a b : A.Value} {x y : B.Value} → R a x → R b y → R (A.add a b) (B.add x y)
    pub neg : {a : A.Value} {x : B.Value} → R a x → R (A.neg a) (B.neg x)
    pub sub : {a b : A.Value} {x y : B.Value} → R a x → R b y → R (A.sub a b) (B.sub x y)
    pub mul : {a b : A.Value} {x y : B.Value} → R a x → R b y → R (A.mul a b) (B.mul x y)
    pub div : {a b : A.Value} {x y : B.Value} → R a x → R b y → R (A.div a b) (B.div x y)
    pub whole : (k : ℤ) → R (A.whole k) (B.whole k)
    pub scale : {a : A.Value} {x : B.Value} (k : ℤ) → R a x → R (A.scale a k) (B.scale x k)
    pub none : R A.none B.none
    pub test : {a b c : A.Value} {x y z : B.Value} (l : Limit) → R a x → R b y → R c z → R (A.test l a b c) (B.test l x y z)
    pub step : {a : A.Value} {x : B.Value} {f : ℤ → A.Value} {g : ℤ → B.Value} (s : Step) → R a x → ((k : ℤ) → R (f k) (g k)) → R (A.step s a f) (B.step s x g)

  module _ (K : BasicKept) where
    abbrev pub basic_both : Basic
    basic_both = record {
      Value = Both R;
      constant = λ k. both_of R (K.constant k);
      add = λ p q. both_of R (K.add p.holds q.holds);
      neg = λ p. both_of R (K.neg p.holds);
      sub = λ p q. both_of R (K.sub p.holds q.holds);
      mul = λ p q. both_of R (K.mul p.holds q.holds);
      div = λ p q. both_of R (K.div p.holds q.holds);
      whole = λ k. both_of R (K.whole k);
      scale = λ p k. both_of R (K.scale k p.holds);
      none = both_of R K.none;
      test = λ l p q r. both_of R (K.test l p.holds q.holds r.holds);
      step = λ s p f. both_of R (K.step s p.holds (λ k. (f k).holds));
    }

    -- ---- the recipes
    module _ {a : A.Value} {x : B.Value} (h : R a x) where
      pub ln_kept : R (Recipes.ln A a) (Recipes.ln B x)
      unfolding Recipes.ln Recipes.ln_of Recipes.series
      ln_kept = (Recipes.ln basic_both (both_of R h)).holds

      pub ln1p_kept : R (Recipes.ln1p A a) (Recipes.ln1p B x)
      unfolding Recipes.ln1p Recipes.ln Recipes.ln_of Recipes.series
      ln1p_kept = (Recipes.ln1p basic_both (both_of R h)).holds

      pub exp_kept : R (Recipes.exp A a) (Recipes.exp B x)
      unfolding Recipes.exp Recipes.exp_of
      exp_kept = (Recipes.exp basic_both (both_of R h)).holds

      pub tanh_kept : R (Recipes.tanh A a) (Recipes.tanh B x)
      unfolding Recipes.tanh Recipes.exp Recipes.exp_of
      tanh_kept = (Recipes.tanh basic_both (both_of R h)).holds

    pub powf_kept : {a b : A.Value} {x y : B.Value} → R a x → R b y → R (Recipes.powf A a b) (Recipes.powf B x y)
    unfolding Recipes.powf Recipes.ln Recipes.ln_of Recipes.series Recipes.exp Recipes.exp_of
    powf_kept h k = (Recipes.powf basic_both (both_of R h) (both_of R k)).holds

    -- ---- sums and powers
    pub product_power_kept : {a : A.Value} {x : B.Value} (n : ℕ) → R a x → R (product_power A a n) (product_power B x n)
    unfolding power_by
    product_power_kept zero h = K.constant one
    product_power_kept (suc zero) h = h
    product_power_kept (suc (suc n)) h = K.mul (product_power_kept (suc n) h) h

    pub sum_kept : {f : ℕ → A.Value} {g : ℕ → B.Value} (n : ℕ) → ((i : ℕ) → R (f i) (g i)) → R (sum_by (A.constant zero_d) A.add n f) (sum_by (B.constant zero_d) B.add n g)
    unfolding sum_by
    sum_kept zero h = K.constant zero_d
    sum_kept (suc n) h = K.add (sum_kept n h) (h n)

-- ---- the operations of the formulas
module _ {X Y : Type 0} (A : Arithmetic X) (B : Arithmetic Y) (R : X → Y → Type 0) where
  pub record Kept : Type 0 where
    pub constant : (k : Float) → R (A.constant k) (B.constant k)
    pub add : {a b : X} {x y : Y} → R a x → R b y → R (A.add a b) (B.add x y)
    pub neg : {a : X} {x : Y} → R a x → R (A.neg a) (B.neg x)
    pub sub : {a b : X} {x y : Y} → R a x → R b y → R (A.sub a b) (B.sub x y)
    pub mul : {a b : X} {x y : Y} → R a x → R b y → R (A.mul a b) (B.mul x y)
    pub div : {a b : X} {x y : Y} → R a x → R b y → R (A.div a b) (B.div x y)
    pub powi : {a : X} {x : Y} (n : ℕ) → R a x → R (A.powi a n) (B.powi x n)
    pub sqrt : {a : X} {x : Y} → R a x → R (A.sqrt a) (B.sqrt x)
    pub ln : {a : X} {x : Y} → R a x → R (A.ln a) (B.ln x)
    pub ln1p : {a : X} {x : Y} → R a x → R (A.ln1p a) (B.ln1p x)
    pub exp : {a : X} {x : Y} → R a x → R (A.exp a) (B.exp x)
    pub powf : {a b : X} {x y : Y} → R a x → R b y → R (A.powf a b) (B.powf x y)
    pub tanh : {a : X} {x : Y} → R a x → R (A.tanh a) (B.tanh x)
    pub if_below : {a b c : X} {x y z : Y} (t : Float) → R a x → R b y → R c z → R (A.if_below a t b c) (B.if_below x t y z)
    pub sum : {f : ℕ → X} {g : ℕ → Y} (n : ℕ) → ((i : ℕ) → R (f i) (g i)) → R (A.sum n f) (B.sum n g)

  module _ (K : Kept) where
    abbrev pub both : Arithmetic (Both R)
    both = record {
      constant = λ k. both_of R (K.constant k);
      add = λ p q. both_of R (K.add p.holds q.holds);
      neg = λ p. both_of R (K.neg p.holds);
      sub = λ p q. both_of R (K.sub p.holds q.holds);
      mul = λ p q. both_of R (K.mul p.holds q.holds);
      div = λ p q. both_of R (K.div p.holds q.holds);
      powi = λ p n. both_of R (K.powi n p.holds);
      sqrt = λ p. both_of R (K.sqrt p.holds);
      ln = λ p. both_of R (K.ln p.holds);
      ln1p = λ p. both_of R (K.ln1p p.holds);
      exp = λ p. both_of R (K.exp p.holds);
      powf = λ p q. both_of R (K.powf p.holds q.holds);
      tanh = λ p. both_of R (K.tanh p.holds);
      if_below = λ p t q r. both_of R (K.if_below t p.holds q.holds r.holds);
      sum = λ n f. both_of R (K.sum n (λ i. (f i).holds));
    }

-- ---- from the operations of the recipes, a power and a root to those of the formulas
module _ (A B : Basic) (R : A.Value → B.Value → Type 0) (K : BasicKept A B R)
    (power_a : A.Value → ℕ → A.Value) (power_b : B.Value → ℕ → B.Value) (root_a : A.Value → A.Value) (root_b : B.Value → B.Value) where
  pub over_kept : ((a : A.Value) (x : B.Value) (n : ℕ) → R a x → R (power_a a n) (power_b x n)) → ((a : A.Value) (x : B.Value) → R a x → R (root_a a) (root_b x))
      → Kept (over A power_a root_a) (over B power_b root_b) R
  over_kept power_kept root_kept = record {
    constant = K.constant;
    add = K.add;
    neg = K.neg;
    sub = K.sub;
    mul = K.mul;
    div = K.div;
    powi = λ {a} {x} n h. power_kept a x n h;
    sqrt = λ {a} {x} h. root_kept a x h;
    ln = ln_kept A B R K;
    ln1p = ln1p_kept A B R K;
    exp = exp_kept A B R K;
    powf = powf_kept A B R K;
    tanh = tanh_kept A B R K;
    if_below = λ t. K.test (below t);
    sum = sum_kept A B R K;
  }
