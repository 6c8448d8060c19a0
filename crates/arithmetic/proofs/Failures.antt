-- Where the operations of the recipes, the power and the root lose no failure, the operations of the formulas lose none. Doubles are such.
use mathlib.Core.Path.{◌≡◌, refl, ap, subst, ◌∙◌}
use mathlib.Core.Logic.{◌⊎◌, inl, inr}
use mathlib.Core.Bool.{Bool, true, false, not, cond}
use Prim.Native.Nat.{ℕ, zero, suc, ◌<◌}
use native.Mathlib.Nat.{eq-or-lt_of_le}
use native.Mathlib.Omega.{arith}
use lib.Dec.{T}
use lib.Ieee.{Float, nan, inf, fin, binary64, is_nan}
use lib.Ieee as Ieee
use lib.Ieee.Scale.{finite}
use Rattle.arithmetic.specs.Basic.{Basic, below, passes}
use Rattle.arithmetic.specs.Value.{value}
use Rattle.arithmetic.specs.Constants.{zero_d}
use Rattle.arithmetic.specs.Recipes as R
use Rattle.arithmetic.specs.Arithmetic.{over, product_power, power_by, sum_by}
use Rattle.arithmetic.specs.Root.{sqrt}
use Rattle.arithmetic.specs.Doubles.{checked, strict, doubles}
use Rattle.arithmetic.specs.Failures.{KeepsFailure, KeepsFailures}
use Rattle.arithmetic.proofs.Nan.{add_nan, mul_nan, div_nan}

module _ (A : Basic) (Well : A.Value → Type 0) (K : KeepsFailure A Well) where
  pub product_power_kept : (x : A.Value) (k : ℕ) → Well (product_power A x (suc k)) → Well x
  unfolding power_by
  product_power_kept x zero h = h
  product_power_kept x (suc k) h = (K.mul _ x h).1

  exp_kept : (x : A.Value) → Well (R.exp A x) → Well x
  unfolding R.exp
  exp_kept x h = (K.test _ x _ _ h).0

  -- by its first case, or by the one of a base 0
  powf_kept : (x y : A.Value) → Well (R.powf A x y) → Well x × Well y
  unfolding R.powf
  powf_kept x y h =
      let w = K.test _ x _ _ h in
      (w.0, elim w.1 [ inl k ↦ (K.mul y _ (exp_kept _ k)).0 | inr k ↦ elim (K.test _ x _ _ k).1 [ inl z ↦ absurd (K.none z) | inr z ↦ (K.test _ y _ _ z).0 ] ])

  sum_kept : (n : ℕ) (f : ℕ → A.Value) → Well (sum_by (A.constant zero_d) A.add n f) → (i : ℕ) → i < n → Well (f i)
  unfolding sum_by
  sum_kept zero f h i l = absurd (omega (arith, l))
  sum_kept (suc n) f h i l =
      let w = K.add _ (f n) h in
      elim (eq-or-lt_of_le l) [ inl e ↦ subst (λ (j : ℕ). Well (f j)) (omega (arith, e)) w.1 | inr k ↦ sum_kept n f w.0 i (omega (arith, k)) ]

  pub failures_kept : (power : A.Value → ℕ → A.Value) → ((x : A.Value) (k : ℕ) → Well (power x (suc k)) → Well x) → (root : A.Value → A.Value) → ((x : A.Value) → Well (root x) → Well x)
      → KeepsFailures (over A power root) Well
  unfolding R.ln R.ln1p R.tanh
  failures_kept power power_kept root root_kept = record {
    add = K.add;
    neg = K.neg;
    sub = K.sub;
    mul = K.mul;
    div = K.div;
    powi = power_kept;
    sqrt = root_kept;
    ln = λ x h. K.step _ x _ h;
    ln1p = λ x h. (K.test _ x _ _ h).0;
    exp = exp_kept;
    powf = powf_kept;
    tanh = λ x h. (K.test _ x _ _ h).0;
    if_below = λ v t x y h. K.test (below t) v x y h;
    sum = sum_kept;
  }

-- ---- doubles: a failure is NaN
abbrev Real : Float → Type 0
Real x = T (not (is_nan x))

nan_fails : Real nan → ⊥
unfolding is_nan
nan_fails h = h

other : (x : Float) → (x ≡ nan → ⊥) → Real x
unfolding is_nan
other nan h = h refl
other (inf s) h = tt
other (fin s m e) h = tt

one_kept : (op : Float → Float) → op nan ≡ nan → (x : Float) → Real (checked (op x)) → Real x
one_kept op e x h = other x (λ z. nan_fails (subst (λ (y : Float). Real (checked y)) (ap op z ∙ e) h))

two_kept : (op : Float → Float → Float) → ((y : Float) → op nan y ≡ nan) → ((x : Float) → op x nan ≡ nan) → (x y : Float) → Real (checked (op x y)) → Real x × Real y
two_kept op e e' x y h = (
  other x (λ z. nan_fails (subst (λ (w : Float). Real (checked w)) (ap (λ (w : Float). op w y) z ∙ e y) h)),
  other y (λ z. nan_fails (subst (λ (w : Float). Real (checked w)) (ap (op x) z ∙ e' x) h)),
)

where_kept : (x y : Float) → Real (cond (finite x) y nan) → Real x × Real y
unfolding is_nan
where_kept nan y h = absurd h
where_kept (inf s) y h = absurd h
where_kept (fin s m e) y h = (tt, h)

either_kept : (b : Bool) (x y : Float) → Real (cond b x y) → Real x ⊎ Real y
either_kept true x y h = inl h
either_kept false x y h = inr h

doubles_keep : KeepsFailure strict Real
unfolding Ieee.add Ieee.sub Ieee.mul Ieee.div Ieee.neg
doubles_keep = record {
  add = two_kept (Ieee.add binary64) (λ y. refl) add_nan;
  neg = one_kept Ieee.neg refl;
  sub = two_kept (Ieee.sub binary64) (λ y. refl) add_nan;
  mul = two_kept (Ieee.mul binary64) (λ y. refl) mul_nan;
  div = two_kept (Ieee.div binary64) (λ y. refl) div_nan;
  none = nan_fails;
  test = λ l v x y h. let w = where_kept v _ h in (w.0, either_kept (passes l (value v)) x y w.1);
  step = λ s v f h. (where_kept v _ h).0;
}

pub doubles_keep_failures : KeepsFailures doubles (λ x. T (not (is_nan x)))
unfolding sqrt
doubles_keep_failures =
    failures_kept strict (λ x. T (not (is_nan x))) doubles_keep (product_power strict) (product_power_kept strict (λ x. T (not (is_nan x))) doubles_keep) (λ x. checked (sqrt x)) (one_kept sqrt refl)
