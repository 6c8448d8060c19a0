-- The range that an exact reading carries is the range of the same formula in ranges.
use Prim.Native.Nat.{ℕ, zero, suc}
use mathlib.Core.Path.{◌≡◌, refl, ap₂}
use Rattle.arithmetic.specs.Arithmetic.{sum_by}
use Rattle.arithmetic.specs.Constants.{zero_d}
use Rattle.arithmetic.proofs.Both.{Kept}
use Rattle.range.specs.declared.basic.Range.{Range}
use Rattle.range.specs.Rules.{rules, ranges}
use Rattle.range.specs.Exact.{Reading, exact}

pub record Carries (r : Range) (x : Reading) : Type 0 where
  pub is : r ≡ x.range

sum_carried : (n : ℕ) {f : ℕ → Range} {g : ℕ → Reading} → ((i : ℕ) → Carries (f i) (g i)) → sum_by (rules.constant zero_d) rules.add n f ≡ sum_by (rules.constant zero_d) rules.add n (λ i. (g i).range)
unfolding sum_by
sum_carried zero h = refl
sum_carried (suc n) h = ap₂ rules.add (sum_carried n h) (h n).is

pub carried : Kept ranges exact Carries
carried = record {
  constant = λ k. record { is = refl };
  add = λ x y. record { is = rw (x.is, y.is) };
  neg = λ x. record { is = rw x.is };
  sub = λ x y. record { is = rw (x.is, y.is) };
  mul = λ x y. record { is = rw (x.is, y.is) };
  div = λ x y. record { is = rw (x.is, y.is) };
  powi = λ n x. record { is = rw x.is };
  sqrt = λ x. record { is = rw x.is };
  ln = λ x. record { is = rw x.is };
  ln1p = λ x. record { is = rw x.is };
  exp = λ x. record { is = rw x.is };
  powf = λ x y. record { is = rw (x.is, y.is) };
  tanh = λ x. record { is = rw x.is };
  if_below = λ t x y z. record { is = rw (x.is, y.is, z.is) };
  sum = λ n h. record { is = sum_carried n h };
}
