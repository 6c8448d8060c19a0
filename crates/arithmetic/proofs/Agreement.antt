-- For every formula, what the code works, checked once at the end, is what the strict definition has: one law for each operation.
use mathlib.Core.Path.{◌≡◌, refl, sym, subst, ◌∙◌}
use mathlib.Core.Option.{Option, none, some}
use mathlib.Core.Bool.{Bool, true, false, cond, beq}
use lib.Dec.{T, eqb}
use lib.IntN.{ℤ}
use lib.Ieee.{Float, binary64, nan, inf, fin, unlike}
use lib.Ieee as Ieee
use lib.Ieee.Scale.{finite}
use Rattle.arithmetic.specs.Value.{value}
use Rattle.arithmetic.specs.Basic.{Basic, Limit, Step, passes, pick}
use Rattle.arithmetic.specs.Root.{sqrt}
use Rattle.arithmetic.specs.Arithmetic.{Arithmetic, product_power}
use Rattle.arithmetic.specs.Doubles.{checked, quotient, tested, stepped, or_nan, strict, plain, doubles, guarded}
use Rattle.arithmetic.proofs.Both.{Both, BasicKept, basic_both, Kept, both, over_kept, product_power_kept}

-- the strict value d is the code's value g, checked
pub record Same (g d : Float) : Type 0 where
  pub is : checked g ≡ d

same : {g d : Float} → checked g ≡ d → Same g d
same e = record { is = e }

-- ---- what is finite passes the check
pub checked_is : (x : Float) → T (finite x) → checked x ≡ x
checked_is nan p = absurd p
checked_is (inf s) p = absurd p
checked_is (fin s m e) p = refl

was_finite : (x : Float) → T (finite (checked x)) → T (finite x)
was_finite nan p = absurd p
was_finite (inf s) p = absurd p
was_finite (fin s m e) p = tt

-- ---- an operation on operands of which one is not finite, checked, is NaN
cond_nan : (b : Bool) (x y : Float) → checked x ≡ nan → checked y ≡ nan → checked (cond b x y) ≡ nan
cond_nan true x y p q = p
cond_nan false x y p q = q

of_neg : (x : Float) → checked (Ieee.neg x) ≡ checked (Ieee.neg (checked x))
unfolding Ieee.neg
of_neg nan = refl
of_neg (inf s) = refl
of_neg (fin s m e) = refl

pub of_add : (x y : Float) → checked (Ieee.add binary64 x y) ≡ checked (Ieee.add binary64 (checked x) (checked y))
unfolding Ieee.add
of_add nan y = refl
of_add (inf s) nan = refl
of_add (inf s) (inf t) = cond_nan (beq s t) (inf s) nan refl refl
of_add (inf s) (fin t n d) = refl
of_add (fin s m e) nan = refl
of_add (fin s m e) (inf t) = refl
of_add (fin s m e) (fin t n d) = refl

neg_checked : (x y : Float) → checked (Ieee.add binary64 x (checked (Ieee.neg y))) ≡ checked (Ieee.add binary64 x (Ieee.neg (checked y)))
unfolding Ieee.neg Ieee.add
neg_checked x nan = refl
neg_checked x (inf s) = refl
neg_checked x (fin s m e) = refl

of_sub : (x y : Float) → checked (Ieee.sub binary64 x y) ≡ checked (Ieee.sub binary64 (checked x) (checked y))
unfolding Ieee.sub
of_sub x y = of_add x (Ieee.neg y) ∙ neg_checked (checked x) y

of_mul : (x y : Float) → checked (Ieee.mul binary64 x y) ≡ checked (Ieee.mul binary64 (checked x) (checked y))
unfolding Ieee.mul
of_mul nan y = refl
of_mul (inf s) nan = refl
of_mul (inf s) (inf t) = refl
of_mul (inf s) (fin t n d) = cond_nan (eqb n 0) nan (inf (unlike s t)) refl refl
of_mul (fin s m e) nan = refl
of_mul (fin s m e) (inf t) = cond_nan (eqb m 0) nan (inf (unlike s t)) refl refl
of_mul (fin s m e) (fin t n d) = refl

of_div : (x y : Float) → checked (quotient x y) ≡ checked (Ieee.div binary64 (checked x) (checked y))
unfolding Ieee.div quotient
of_div nan nan = refl
of_div nan (inf t) = refl
of_div nan (fin t n d) = refl
of_div (inf s) nan = refl
of_div (inf s) (inf t) = refl
of_div (inf s) (fin t n d) = refl
of_div (fin s m e) nan = refl
of_div (fin s m e) (inf t) = refl
of_div (fin s m e) (fin t n d) = refl

of_sqrt : (x : Float) → checked (sqrt x) ≡ checked (sqrt (checked x))
unfolding sqrt
of_sqrt nan = refl
of_sqrt (inf s) = refl
of_sqrt (fin s m e) = refl

of_test : (l : Limit) (x a b : Float) → checked (tested l x a b) ≡ tested l (checked x) (checked a) (checked b)
of_test l nan a b = refl
of_test l (inf s) a b = refl
of_test l (fin s m e) a b = go (passes l (value (fin s m e)))
  where
    go : (c : Bool) → checked (cond c a b) ≡ cond c (checked a) (checked b)
    go true = refl
    go false = refl

of_step : (s : Step) (x : Float) (f g : ℤ → Float) → ((k : ℤ) → checked (f k) ≡ g k) → checked (stepped s x f) ≡ stepped s (checked x) g
of_step s nan f g h = refl
of_step s (inf t) f g h = refl
of_step s (fin t m e) f g h = go (pick s (value (fin t m e)))
  where
    go : (o : Option ℤ) → checked (or_nan o f) ≡ or_nan o g
    go none = refl
    go (some k) = h k

-- ---- the laws
pub plain_strict : BasicKept plain strict Same
plain_strict = record {
  constant = λ k. same refl;
  add = λ {a} {b} {x} {y} p q. same (rw (← p.is, ← q.is) (of_add a b));
  neg = λ {a} {x} p. same (rw (← p.is) (of_neg a));
  sub = λ {a} {b} {x} {y} p q. same (rw (← p.is, ← q.is) (of_sub a b));
  mul = λ {a} {b} {x} {y} p q. same (rw (← p.is, ← q.is) (of_mul a b));
  div = λ {a} {b} {x} {y} p q. same (rw (← p.is, ← q.is) (of_div a b));
  whole = λ k. same refl;
  scale = λ {a} {x} k p. same (rw (← p.is) (of_mul a (fin false 1 k)));
  none = same refl;
  test = λ {a} {b} {c} {x} {y} {z} l p q r. same (rw (← p.is, ← q.is, ← r.is) (of_test l a b c));
  step = λ {a} {x} {f} {g} s p h. same (rw (← p.is) (of_step s a f g (λ k. (h k).is)));
}

-- a recipe worked in `agreed_basic` is the proof that its plain value, checked, is its strict value ..
abbrev pub agreed_basic : Basic
agreed_basic = basic_both plain strict Same plain_strict

abbrev pub agreeing : (x : Float) → T (finite x) → Both Same
agreeing x p = record { left = x; right = x; holds = record { is = checked_is x p } }

-- .. so where the strict value is finite, it is the code's
pub in_code : (b : Both Same) → T (finite b.right) → b.right ≡ b.left
in_code b p = sym b.holds.is ∙ checked_is b.left (was_finite b.left (subst (λ (x : Float). T (finite x)) (sym b.holds.is) p))

pub agreement : Kept guarded doubles Same
agreement =
    over_kept plain strict Same plain_strict (product_power plain) (product_power strict) sqrt (λ x. checked (sqrt x))
    (λ a x n p. product_power_kept plain strict Same plain_strict n p)
    (λ a x p. same (rw (← p.is) (of_sqrt a)))

-- a formula worked in `agreed` is the proof that its guarded value, checked, is its strict value
abbrev pub agreed : Arithmetic (Both Same)
agreed = both guarded doubles Same agreement
