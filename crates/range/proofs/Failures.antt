-- No operation loses a failed range: where a result has ends, its operands have.
use Prim.Native.Nat.{ℕ, zero, suc}
use mathlib.Core.Logic.{◌⊎◌, inl, inr}
use mathlib.Core.Bool.{Bool, true, false, cond, ◌||◌}
use lib.Dec.{T, eqb}
use lib.IntN.{ℤ}
use lib.Ieee as Ieee
use lib.Ieee.Fits.{and_i}
use lib.Ieee.Scale.{finite}
use Rattle.arithmetic.specs.Basic.{Limit, Step, passes}
use Rattle.arithmetic.specs.Value.{value}
use Rattle.arithmetic.specs.Arithmetic.{power_by, product_power}
use Rattle.arithmetic.specs.Failures.{KeepsFailure, KeepsFailures}
use Rattle.arithmetic.proofs.Failures.{failures_kept, product_power_kept}
use Rattle.range.specs.declared.basic.Range.{Range}
use Rattle.range.specs.Rules.{failed, ok, agreed, ranges, rules}
use Rattle.range.specs.Rules as Rules
use Rattle.range.proofs.Contained.{finite_ends, finite_back}

-- a rule that asks for ends first
given : (b : Bool) (x : Range) → T (ok (cond b x failed)) → T b × T (ok x)
given true x h = (tt, h)
given false x h = absurd h

given₂ : (b c : Bool) (x : Range) → T (ok (cond b (cond c x failed) failed)) → T b × T c
given₂ b c x h = let w = given b (cond c x failed) h in (w.0, (given c x w.1).0)

add_kept : (r s : Range) → T (ok (Rules.add r s)) → T (ok r) × T (ok s)
unfolding Rules.add
add_kept r s h = given₂ (ok r) (ok s) _ h

pub mul_kept : (r s : Range) → T (ok (Rules.mul r s)) → T (ok r) × T (ok s)
unfolding Rules.mul
mul_kept r s h = given₂ (ok r) (ok s) _ h

div_kept : (r s : Range) → T (ok (Rules.div r s)) → T (ok r) × T (ok s)
unfolding Rules.div
div_kept r s h = given₂ (ok r) (ok s) _ h

neg_kept : (r : Range) → T (ok (Rules.neg r)) → T (ok r)
unfolding Rules.neg
neg_kept r h = let F = finite_ends (Ieee.neg r.upper) (Ieee.neg r.lower) h in and_i (finite r.lower) (finite r.upper) (finite_back r.lower F.1) (finite_back r.upper F.0)

sqrt_kept : (r : Range) → T (ok (Rules.sqrt r)) → T (ok r)
unfolding Rules.sqrt
sqrt_kept r h = (given (ok r) _ h).0

case_kept : (a b : Bool) (x y : Range) → T (ok (agreed a b x y)) → T (ok x) ⊎ T (ok y)
case_kept true true x y h = inl h
case_kept true false x y h = absurd h
case_kept false true x y h = absurd h
case_kept false false x y h = inr h

test_kept : (l : Limit) (r x y : Range) → T (ok (Rules.test l r x y)) → T (ok r) × (T (ok x) ⊎ T (ok y))
unfolding Rules.test
test_kept l r x y h = let w = given (ok r) _ h in (w.0, case_kept (passes l (value r.lower)) (passes l (value r.upper)) x y w.1)

step_kept : (s : Step) (r : Range) (f : ℤ → Range) → T (ok (Rules.step s r f)) → T (ok r)
unfolding Rules.step
step_kept s r f h = (given (ok r) _ h).0

rules_keep : KeepsFailure rules (λ (r : Range). T (ok r))
rules_keep = record {
  add = add_kept;
  neg = neg_kept;
  sub = λ r s h. let w = add_kept r (Rules.neg s) h in (w.0, neg_kept s w.1);
  mul = mul_kept;
  div = div_kept;
  none = λ h. h;
  test = test_kept;
  step = step_kept;
}

-- ---- squares and fourth powers
pub magnitudes_kept : (r : Range) → T (ok (Rules.magnitudes r)) → T (ok r)
unfolding Rules.magnitudes
magnitudes_kept r h = (given (ok r) _ h).0

pub mul_magnitudes_kept : (r s : Range) → T (ok (Rules.mul_magnitudes r s)) → T (ok r) × T (ok s)
unfolding Rules.mul_magnitudes
mul_magnitudes_kept r s h = given₂ (ok r) (ok s) _ h

pub even_power_kept : (r : Range) (k : ℕ) → T (ok (Rules.even_power r (suc k))) → T (ok r)
unfolding Rules.even_power power_by
even_power_kept r zero h = magnitudes_kept r h
even_power_kept r (suc k) h = magnitudes_kept r (mul_magnitudes_kept _ (Rules.magnitudes r) h).1

powi_kept : (r : Range) (k : ℕ) → T (ok (Rules.powi r (suc k))) → T (ok r)
unfolding Rules.powi
powi_kept r k h = go (eqb (suc k) 2 || eqb (suc k) 4) h
  where
    go : (b : Bool) → T (ok (cond b (Rules.even_power r (suc k)) (product_power rules r (suc k)))) → T (ok r)
    go true h = even_power_kept r k h
    go false h = product_power_kept rules (λ (s : Range). T (ok s)) rules_keep r k h

pub ranges_keep_failures : KeepsFailures ranges (λ (r : Range). T (ok r))
ranges_keep_failures = failures_kept rules (λ (r : Range). T (ok r)) rules_keep Rules.powi powi_kept Rules.sqrt sqrt_kept
