-- The value half of every formula in slopes is that formula in doubles.
use Prim.Native.Nat.{ℕ, zero, suc}
use mathlib.Core.Path.{◌≡◌, refl}
use Rattle.arithmetic.specs.Arithmetic.{sum_by, power_by}
use Rattle.arithmetic.specs.Constants.{zero_d, one}
use Rattle.arithmetic.specs.Recipes as R
use Rattle.arithmetic.specs.Doubles.{doubles}
use Rattle.arithmetic.proofs.Both.{Kept}
use lib.Ieee.{Float}
use Rattle.dual.specs.declared.basic.Dual.{Dual}
use Rattle.dual.specs.Rules as Rules
use Rattle.dual.specs.Rules.{strict, slopes}

pub record Holds (d : Dual) (x : Float) : Type 0 where
  pub is : d.value ≡ x

holds : {d : Dual} {x : Float} → d.value ≡ x → Holds d x
holds e = record { is = e }

-- ---- each operation, by its value half
add_value : (a b : Dual) → (Rules.add strict a b).value ≡ doubles.add a.value b.value
unfolding Rules.add
add_value a b = refl

mul_value : (a b : Dual) → (Rules.mul strict a b).value ≡ doubles.mul a.value b.value
unfolding Rules.mul
mul_value a b = refl

constant_value : (k : Float) → (Rules.constant strict k).value ≡ doubles.constant k
unfolding Rules.constant
constant_value k = refl

pub start_holds : (k s : Float) → Holds (Rules.start strict k s) (doubles.constant k)
unfolding Rules.start
start_holds k s = holds refl

powf_value : (a b : Dual) → (Rules.powf strict a b).value ≡ doubles.powf a.value b.value
unfolding Rules.powf Rules.choose Rules.given Rules.constant Rules.exp Rules.mul Rules.ln R.powf
powf_value a b = refl

tanh_value : (a : Dual) → (Rules.tanh strict a).value ≡ doubles.tanh a.value
unfolding Rules.tanh Rules.choose Rules.given Rules.constant Rules.add Rules.sub Rules.div Rules.exp Rules.mul R.tanh
tanh_value a = refl

powi_value : (n : ℕ) (a : Dual) {x : Float} → a.value ≡ x → (slopes.powi a n).value ≡ doubles.powi x n
unfolding power_by
powi_value zero a h = constant_value one
powi_value (suc zero) a h = h
powi_value (suc (suc n)) a h = rw (mul_value, powi_value (suc n) a h, h)

sum_value : (n : ℕ) {f : ℕ → Dual} {g : ℕ → Float} → ((i : ℕ) → Holds (f i) (g i)) → (slopes.sum n f).value ≡ doubles.sum n g
unfolding sum_by
sum_value zero h = constant_value zero_d
sum_value (suc n) h = rw (add_value, sum_value n h, (h n).is)

pub values : Kept slopes doubles Holds
unfolding Rules.constant Rules.add Rules.neg Rules.sub Rules.mul Rules.div Rules.sqrt Rules.ln Rules.ln1p Rules.exp Rules.choose Rules.given
values = record {
  constant = λ k. holds refl;
  add = λ x y. holds (rw (x.is, y.is));
  neg = λ x. holds (rw x.is);
  sub = λ x y. holds (rw (x.is, y.is));
  mul = λ x y. holds (rw (x.is, y.is));
  div = λ x y. holds (rw (x.is, y.is));
  powi = λ {a} n x. holds (powi_value n a x.is);
  sqrt = λ x. holds (rw x.is);
  ln = λ x. holds (rw x.is);
  ln1p = λ x. holds (rw x.is);
  exp = λ x. holds (rw x.is);
  powf = λ {a} {b} x y. holds (rw (powf_value a b, x.is, y.is));
  tanh = λ {a} x. holds (rw (tanh_value a, x.is));
  if_below = λ t x y z. holds (rw (x.is, y.is, z.is));
  sum = λ n h. holds (sum_value n h);
}
