-- Document 01's "Exact reading", as a meaning of the operations: the formulas in fractions, nothing rounded, with any fraction between a root's ends each time a root is worked.
use Rattle.std.specs.Prelude.{ℕ, cond, not, ◌&&◌, List, [], ◌∷◌, eqb}
use Rattle.std.proofs.Math.Option.{Option, none, some}
use Rattle.arithmetic.specs.Fraction.{Fraction, null, ◌⊕◌, opp, ◌⊗◌, ◌⊘◌, two_to, ◌≺?◌}
use Rattle.arithmetic.specs.Fraction as Fraction
use Rattle.arithmetic.specs.Value.{value}
use Rattle.arithmetic.specs.Basic.{Basic, below, passes, pick}
use Rattle.arithmetic.specs.Arithmetic.{Arithmetic, sum_by, product_power}
use Rattle.arithmetic.specs.Constants.{zero_d}
use Rattle.arithmetic.specs.Recipes as Recipes
use Rattle.range.specs.declared.basic.Range.{Range}
use Rattle.range.specs.Rules.{ok, rules, powi, sqrt}

-- ---- fractions, where there is a result
abbrev pub bind : {X Y : Type 0} → Option X → (X → Option Y) → Option Y
bind none f = none
bind (some x) f = f x

abbrev pub bind₂ : Option Fraction → Option Fraction → (Fraction → Fraction → Option Fraction) → Option Fraction
bind₂ none y f = none
bind₂ (some p) none f = none
bind₂ (some p) (some q) f = f p q

-- A divisor of 0 leaves no result.
abbrev pub quotient : Fraction → Fraction → Option Fraction
quotient p q = cond (eqb q.plus q.minus) none (some (p ⊘ q))

abbrev pub fractions : Basic
fractions = record {
  Value = Option Fraction;
  constant = λ k. some (value k);
  add = λ x y. bind₂ x y (λ p q. some (p ⊕ q));
  neg = λ x. bind x (λ p. some (opp p));
  sub = λ x y. bind₂ x y (λ p q. some (p ⊕ opp q));
  mul = λ x y. bind₂ x y (λ p q. some (p ⊗ q));
  div = λ x y. bind₂ x y quotient;
  whole = λ k. some (Fraction.whole k);
  scale = λ x k. bind x (λ p. some (p ⊗ two_to k));
  none = none;
  test = λ l x a b. bind x (λ p. cond (passes l p) a b);
  step = λ s x f. bind x (λ p. bind (pick s p) f);
}

-- ---- choices: a fraction proposed for every place at which a root is worked. Operands get different parts of them, so that each root is chosen anew.
abbrev pub Choices : Type 0
Choices = List ℕ → Fraction

abbrev pub part : ℕ → Choices → Choices
part i c = λ place. c (i ∷ place)

-- The proposed fraction where it lies between the ends of r, else the lower end: so all fractions between them can be chosen, and no other.
abbrev pub chosen : Range → Fraction → Option Fraction
chosen r p = cond (ok r) (some (cond (not (p ≺? value r.lower) && not (value r.upper ≺? p)) p (value r.lower))) none

-- the root of a range, of an exact argument, by the proposed fraction p; below 0 there is no rule
abbrev pub root_by : Range → Option Fraction → Fraction → Option Fraction
root_by r x p = bind x (λ q. cond (q ≺? null) none (chosen (sqrt r) p))

-- ---- readings: a range, for the ends of roots, and for all choices a fraction
pub record Reading : Type 0 where
  pub range : Range
  pub at : Choices → Option Fraction

abbrev lift : (Range → Range) → (Option Fraction → Option Fraction) → Reading → Reading
lift f g x = record { range = f x.range; at = λ c. g (x.at c) }

abbrev lift₂ : (Range → Range → Range) → (Option Fraction → Option Fraction → Option Fraction) → Reading → Reading → Reading
lift₂ f g x y = record { range = f x.range y.range; at = λ c. g (x.at (part 0 c)) (y.at (part 1 c)) }

-- An elementary function works its recipe on one fraction.
abbrev pub exact : Arithmetic Reading
exact = record {
  constant = λ k. record { range = rules.constant k; at = λ c. fractions.constant k };
  add = lift₂ rules.add fractions.add;
  neg = lift rules.neg fractions.neg;
  sub = lift₂ rules.sub fractions.sub;
  mul = lift₂ rules.mul fractions.mul;
  div = lift₂ rules.div fractions.div;
  powi = λ x n. lift (λ r. powi r n) (λ q. product_power fractions q n) x;
  sqrt = λ x. record { range = sqrt x.range; at = λ c. root_by x.range (x.at (part 0 c)) (c []) };
  ln = lift (Recipes.ln rules) (Recipes.ln fractions);
  ln1p = lift (Recipes.ln1p rules) (Recipes.ln1p fractions);
  exp = lift (Recipes.exp rules) (Recipes.exp fractions);
  powf = lift₂ (Recipes.powf rules) (Recipes.powf fractions);
  tanh = lift (Recipes.tanh rules) (Recipes.tanh fractions);
  if_below = λ x t a b. record {
    range = rules.test (below t) x.range a.range b.range;
    at = λ c. fractions.test (below t) (x.at (part 0 c)) (a.at (part 1 c)) (b.at (part 2 c));
  };
  sum = λ n f. record {
    range = sum_by (rules.constant zero_d) rules.add n (λ i. (f i).range);
    at = λ c. sum_by (fractions.constant zero_d) fractions.add n (λ i. (f i).at (part i c));
  };
}
