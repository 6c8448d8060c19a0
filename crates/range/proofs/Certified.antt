-- Every operation of the formulas keeps this: where a range is ok, the double and every exact reading lie between its ends. So a formula worked in doubles and
-- exact readings at once is the proof that its ends enclose its value.
use mathlib.Core.Path.{◌≡◌, refl}
use mathlib.Core.List.{[]}
use mathlib.Core.Option.{Option, none, some}
use lib.Ieee.{Float}
use Rattle.arithmetic.specs.Fraction.{Fraction, null}
use Rattle.arithmetic.specs.Basic.{below}
use Rattle.arithmetic.specs.Arithmetic.{Arithmetic}
use Rattle.arithmetic.specs.Doubles.{doubles}
use Rattle.arithmetic.proofs.Both.{Both, Kept, both}
use Rattle.range.specs.declared.basic.Range.{Range}
use Rattle.range.specs.Exact.{Reading, Choices, part, exact}
use Rattle.range.specs.Enclosed.{Ok, Enclosed}
use Rattle.range.proofs.Contained.{Certain, CertainOf, Contained, constant_contained, neg_contained}
use Rattle.range.proofs.Operations.{add_contained, sub_contained, mul_contained, div_contained}
use Rattle.range.proofs.Choosing.{test_contained}
use Rattle.range.proofs.Root.{root_contained}
use Rattle.range.proofs.Recipes.{ln_contained, ln1p_contained, exp_contained, tanh_contained, powf_contained, sum_contained}
use Rattle.range.proofs.EvenPowers.{powi_contained}

pub record Holds (d : Float) (x : Reading) : Type 0 where
  pub at : (c : Choices) → Contained d x.range (x.at c)

pub certified : Kept doubles exact Holds
certified = record {
  constant = λ k. record { at = λ c. constant_contained k };
  add = λ x y. record { at = λ c. add_contained (x.at (part 0 c)) (y.at (part 1 c)) };
  neg = λ x. record { at = λ c. neg_contained (x.at c) };
  sub = λ x y. record { at = λ c. sub_contained (x.at (part 0 c)) (y.at (part 1 c)) };
  mul = λ x y. record { at = λ c. mul_contained (x.at (part 0 c)) (y.at (part 1 c)) };
  div = λ x y. record { at = λ c. div_contained (x.at (part 0 c)) (y.at (part 1 c)) };
  powi = λ n x. record { at = λ c. powi_contained n (x.at c) };
  sqrt = λ x. record { at = λ c. root_contained (c []) (x.at (part 0 c)) };
  ln = λ x. record { at = λ c. ln_contained (x.at c) };
  ln1p = λ x. record { at = λ c. ln1p_contained (x.at c) };
  exp = λ x. record { at = λ c. exp_contained (x.at c) };
  powf = λ x y. record { at = λ c. powf_contained (x.at (part 0 c)) (y.at (part 1 c)) };
  tanh = λ x. record { at = λ c. tanh_contained (x.at c) };
  if_below = λ t x y z. record { at = λ c. test_contained (below t) (x.at (part 0 c)) (y.at (part 1 c)) (z.at (part 2 c)) };
  sum = λ n h. record { at = λ c. sum_contained n (λ i. (h i).at (part i c)) };
}

-- a formula worked in `certifying` is the proof
abbrev pub certifying : Arithmetic (Both Holds)
certifying = both doubles exact Holds certified

-- ---- what that says of a value with ends
result : {d : Float} {r : Range} (o : Option Fraction) → CertainOf d r o → (q : Fraction) × (o ≡ some q) × Certain d r q
result none x = absurd x
result (some q) x = (q, refl, x)

pub enclosed : {d : Float} {x : Reading} → Holds d x → Ok x.range → Enclosed d x
enclosed {d} {x} h O =
    let s : (c : Choices) → (q : Fraction) × (x.at c ≡ some q) × Certain d x.range q = λ c. result (x.at c) ((h.at c).where_ok O) in
    record {
      finite = (s (λ place. null)).2.number;
      between = (s (λ place. null)).2.near;
      reads = λ c. record { result = (s c).0; is = (s c).1; between = (s c).2.exact };
    }
