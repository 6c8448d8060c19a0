-- The recipes keep `Contained`. A range and an exact result are taken together as one meaning of the operations, so that the recipes' laws for two meanings serve.
use Prim.Native.Nat.{ℕ, zero, suc}
use mathlib.Core.Option.{Option}
use lib.Ieee.{Float}
use Rattle.arithmetic.specs.Fraction.{Fraction}
use Rattle.arithmetic.specs.Basic.{Basic}
use Rattle.arithmetic.specs.Arithmetic.{sum_by, power_by, product_power}
use Rattle.arithmetic.specs.Constants.{zero_d, one}
use Rattle.arithmetic.specs.Recipes as R
use Rattle.arithmetic.specs.Doubles.{strict}
use Rattle.arithmetic.proofs.Both.{BasicKept, ln_kept, ln1p_kept, exp_kept, tanh_kept, powf_kept}
use Rattle.range.specs.declared.basic.Range.{Range}
use Rattle.range.specs.Rules.{rules}
use Rattle.range.specs.Exact.{fractions}
use Rattle.range.proofs.Contained.{Contained, constant_contained, none_contained, neg_contained}
use Rattle.range.proofs.Operations.{add_contained, sub_contained, mul_contained, div_contained}
use Rattle.range.proofs.Choosing.{test_contained, step_contained}
use Rattle.range.proofs.Scaling.{whole_contained, scale_contained}

record Pair : Type 0 where
  range : Range
  exact : Option Fraction

abbrev pair : Range → Option Fraction → Pair
pair r o = record { range = r; exact = o }

abbrev paired : Basic
paired = record {
  Value = Pair;
  constant = λ k. pair (rules.constant k) (fractions.constant k);
  add = λ x y. pair (rules.add x.range y.range) (fractions.add x.exact y.exact);
  neg = λ x. pair (rules.neg x.range) (fractions.neg x.exact);
  sub = λ x y. pair (rules.sub x.range y.range) (fractions.sub x.exact y.exact);
  mul = λ x y. pair (rules.mul x.range y.range) (fractions.mul x.exact y.exact);
  div = λ x y. pair (rules.div x.range y.range) (fractions.div x.exact y.exact);
  whole = λ k. pair (rules.whole k) (fractions.whole k);
  scale = λ x k. pair (rules.scale x.range k) (fractions.scale x.exact k);
  none = pair rules.none fractions.none;
  test = λ l x a b. pair (rules.test l x.range a.range b.range) (fractions.test l x.exact a.exact b.exact);
  step = λ s x f. pair (rules.step s x.range (λ k. (f k).range)) (fractions.step s x.exact (λ k. (f k).exact));
}

abbrev Contains : Float → Pair → Type 0
Contains d x = Contained d x.range x.exact

kept : BasicKept strict paired Contains
kept = record {
  constant = constant_contained;
  add = λ g h. add_contained g h;
  neg = λ g. neg_contained g;
  sub = λ g h. sub_contained g h;
  mul = λ g h. mul_contained g h;
  div = λ g h. div_contained g h;
  whole = whole_contained;
  scale = λ k g. scale_contained k g;
  none = none_contained;
  test = λ l g h i. test_contained l g h i;
  step = λ s g h. step_contained s g h;
}

module _ {d : Float} {r : Range} {o : Option Fraction} (h : Contained d r o) where
  pub ln_contained : Contained (R.ln strict d) (R.ln rules r) (R.ln fractions o)
  unfolding R.ln R.ln_of R.series
  ln_contained = ln_kept strict paired Contains kept {x = pair r o} h

  pub ln1p_contained : Contained (R.ln1p strict d) (R.ln1p rules r) (R.ln1p fractions o)
  unfolding R.ln1p R.ln R.ln_of R.series
  ln1p_contained = ln1p_kept strict paired Contains kept {x = pair r o} h

  pub exp_contained : Contained (R.exp strict d) (R.exp rules r) (R.exp fractions o)
  unfolding R.exp R.exp_of
  exp_contained = exp_kept strict paired Contains kept {x = pair r o} h

  pub tanh_contained : Contained (R.tanh strict d) (R.tanh rules r) (R.tanh fractions o)
  unfolding R.tanh R.exp R.exp_of
  tanh_contained = tanh_kept strict paired Contains kept {x = pair r o} h

  pub powf_contained : {d' : Float} {r' : Range} {o' : Option Fraction} → Contained d' r' o' → Contained (R.powf strict d d') (R.powf rules r r') (R.powf fractions o o')
  unfolding R.powf R.ln R.ln_of R.series R.exp R.exp_of
  powf_contained {d'} {r'} {o'} k = powf_kept strict paired Contains kept {x = pair r o} {y = pair r' o'} h k

-- ---- powers and sums
pub product_power_contained : {d : Float} {r : Range} {o : Option Fraction} (n : ℕ) → Contained d r o → Contained (product_power strict d n) (product_power rules r n) (product_power fractions o n)
unfolding power_by
product_power_contained zero h = constant_contained one
product_power_contained (suc zero) h = h
product_power_contained (suc (suc n)) h = mul_contained (product_power_contained (suc n) h) h

pub sum_contained : {d : ℕ → Float} {r : ℕ → Range} {o : ℕ → Option Fraction} (n : ℕ) → ((i : ℕ) → Contained (d i) (r i) (o i))
    → Contained (sum_by (strict.constant zero_d) strict.add n d) (sum_by (rules.constant zero_d) rules.add n r) (sum_by (fractions.constant zero_d) fractions.add n o)
unfolding sum_by
sum_contained zero h = constant_contained zero_d
sum_contained (suc n) h = add_contained (sum_contained n h) (h n)
