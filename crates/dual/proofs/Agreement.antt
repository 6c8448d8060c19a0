-- For every formula, what the code works, checked once at the end, is what the strict definition has: one law for each operation.
use Prim.Native.Nat.{ℕ, zero, suc}
use mathlib.Core.Path.{◌≡◌, refl, sym, ap, subst, ◌∙◌}
use mathlib.Core.Bool.{Bool, true, false, cond}
use lib.Dec.{T}
use lib.Ieee.{Float, nan, inf, fin, binary64, lt}
use lib.Ieee as Ieee
use lib.Ieee.Scale.{finite}
use Rattle.arithmetic.specs.Value.{value}
use Rattle.arithmetic.specs.Constants.{zero_d, one, two, minus_one, minus_seven_hundred, twenty, minus_twenty}
use Rattle.arithmetic.specs.Basic.{Limit, below, above, passes}
use Rattle.arithmetic.specs.Arithmetic.{sum_by, power_by}
use Rattle.arithmetic.specs.Recipes as R
use Rattle.arithmetic.specs.Root as Root
use Rattle.arithmetic.specs.Doubles.{checked, where_finite, doubles, guarded}
use Rattle.arithmetic.proofs.Both.{Kept}
use Rattle.arithmetic.proofs.Agreement as Values
use Rattle.dual.specs.declared.basic.Dual.{Dual}
use Rattle.dual.specs.Rules as Rules
use Rattle.dual.specs.Rules.{dual, failed, ok, strict, plain, slopes, guarded_slopes}
use Rattle.arithmetic.proofs.Nan.{either_nan, add_nan, sub_nan, mul_nan, div_nan}

-- what is not finite is NaN, and a slope with its value
abbrev pub checked_dual : Dual → Dual
checked_dual g = dual (checked g.value) (where_finite g.value (checked g.slope))

-- the strict value and slope d are the code's g, checked
pub record Same (g d : Dual) : Type 0 where
  pub is : checked_dual g ≡ d

same : {g d : Dual} → checked_dual g ≡ d → Same g d
same e = record { is = e }

-- So a value that is not finite fails both halves,
pub fails_both : {g d : Dual} → Same g d → (T (finite d.value) → ⊥) → d ≡ failed
fails_both {g} p h = sym p.is ∙ go g.value g.slope (λ f. h (subst (λ (x : Dual). T (finite x.value)) p.is f))
  where
    go : (v s : Float) → (T (finite (checked v)) → ⊥) → checked_dual (dual v s) ≡ failed
    go nan s k = refl
    go (inf t) s k = refl
    go (fin t m e) s k = absurd (k tt)

-- the code's halves are both finite where the strict ones are,
pub ok_kept : {g d : Dual} → Same g d → ok g ≡ ok d
ok_kept {g} p = go g.value g.slope ∙ ap ok p.is
  where
    go : (v s : Float) → ok (dual v s) ≡ ok (checked_dual (dual v s))
    go nan s = refl
    go (inf t) s = refl
    go (fin t m e) nan = refl
    go (fin t m e) (inf u) = refl
    go (fin t m e) (fin u n d) = refl

-- and then they are the strict ones.
pub in_code : {g d : Dual} → Same g d → T (ok g) → g ≡ d
in_code {g} p h = go g.value g.slope h ∙ p.is
  where
    go : (v s : Float) → T (ok (dual v s)) → dual v s ≡ checked_dual (dual v s)
    go nan s k = absurd k
    go (inf t) s k = absurd k
    go (fin t m e) nan k = absurd k
    go (fin t m e) (inf u) k = absurd k
    go (fin t m e) (fin u n d) k = refl

-- ---- doubles that are alike once checked
record Alike (x y : Float) : Type 0 where
  is : checked x ≡ checked y

alike : {x y : Float} → checked x ≡ checked y → Alike x y
alike e = record { is = e }

the_same : (x : Float) → Alike x x
the_same x = alike refl

known : (x : Float) → Alike x (checked x)
known nan = alike refl
known (inf s) = alike refl
known (fin s m e) = alike refl

itself : (x : Float) → Values.Same x (checked x)
itself x = record { is = refl }

add_alike : {a b x y : Float} → Alike a x → Alike b y → Alike (Ieee.add binary64 a b) (Ieee.add binary64 x y)
add_alike {a} {b} {x} {y} p q = alike (((Values.agreement).add (itself a) (itself b)).is ∙ rw (p.is, q.is) (sym ((Values.agreement).add (itself x) (itself y)).is))

sub_alike : {a b x y : Float} → Alike a x → Alike b y → Alike (Ieee.sub binary64 a b) (Ieee.sub binary64 x y)
sub_alike {a} {b} {x} {y} p q = alike (((Values.agreement).sub (itself a) (itself b)).is ∙ rw (p.is, q.is) (sym ((Values.agreement).sub (itself x) (itself y)).is))

mul_alike : {a b x y : Float} → Alike a x → Alike b y → Alike (Ieee.mul binary64 a b) (Ieee.mul binary64 x y)
mul_alike {a} {b} {x} {y} p q = alike (((Values.agreement).mul (itself a) (itself b)).is ∙ rw (p.is, q.is) (sym ((Values.agreement).mul (itself x) (itself y)).is))

neg_alike : (x : Float) → Alike (Ieee.neg x) (Ieee.neg (checked x))
unfolding Ieee.neg
neg_alike nan = alike refl
neg_alike (inf s) = alike refl
neg_alike (fin s m e) = alike refl

-- what is not finite is not lost in a dividend, whatever the divisor
over_checked : (x y : Float) → checked (Ieee.div binary64 x y) ≡ checked (Ieee.div binary64 (checked x) y)
unfolding Ieee.div
over_checked nan y = refl
over_checked (inf s) nan = refl
over_checked (inf s) (inf t) = refl
over_checked (inf s) (fin t n d) = refl
over_checked (fin s m e) y = refl

div_alike : {x y : Float} (d : Float) → Alike x y → Alike (Ieee.div binary64 x d) (Ieee.div binary64 y d)
div_alike {x} {y} d p = alike (over_checked x d ∙ rw p.is (sym (over_checked y d)))

where_alike : (x k : Float) → Alike (where_finite x k) (where_finite (checked x) k)
where_alike nan k = alike refl
where_alike (inf s) k = alike refl
where_alike (fin s m e) k = alike refl

-- ---- a slope goes with its result
at_result : (f : Float → Float) (g : Float) → where_finite g (f g) ≡ where_finite (checked g) (f (checked g))
at_result f nan = refl
at_result f (inf s) = refl
at_result f (fin s m e) = refl

-- ---- operations on one operand: g as the code works it, s strictly; slope is by the result, the operand and its slope
module _ (g s : Float → Float) (agree : (x : Float) → checked (g x) ≡ s (checked x)) (lost : s nan ≡ nan)
    (slope : Float → Float → Float → Float) (like : (r x x' : Float) → Alike (slope r x x') (slope r x (checked x'))) where
  by_one : (x x' : Float) → where_finite (s (checked x)) (checked (slope (s (checked x)) x x'))
      ≡ where_finite (s (checked x)) (checked (slope (s (checked x)) (checked x) (where_finite x (checked x'))))
  by_one nan x' = rw lost
  by_one (inf t) x' = rw lost
  by_one (fin t m e) x' = rw (like (s (fin t m e)) (fin t m e) x').is

  one_kept : {a d : Dual} → Same a d → Same (plain.made (g a.value) (slope (g a.value) a.value a.slope)) (strict.made (s d.value) (slope (s d.value) d.value d.slope))
  one_kept {a} p = same (rw (← p.is, at_result (λ r. checked (slope r a.value a.slope)) (g a.value), agree a.value) (ap (dual (s (checked a.value))) (by_one a.value a.slope)))

-- ---- operations on two
module _ (g s : Float → Float → Float) (agree : (x y : Float) → checked (g x y) ≡ s (checked x) (checked y)) (lost : (y : Float) → s nan y ≡ nan) (lost' : (x : Float) → s x nan ≡ nan)
    (slope : Float → Float → Float → Float → Float) (like : (x x' y y' : Float) → Alike (slope x x' y y') (slope x (checked x') y (checked y'))) where
  by_two : (x x' y y' : Float) → where_finite (s (checked x) (checked y)) (checked (slope x x' y y'))
      ≡ where_finite (s (checked x) (checked y)) (checked (slope (checked x) (where_finite x (checked x')) (checked y) (where_finite y (checked y'))))
  by_two nan x' y y' = rw (lost (checked y))
  by_two (inf t) x' y y' = rw (lost (checked y))
  by_two (fin t m e) x' nan y' = rw (lost' (fin t m e))
  by_two (fin t m e) x' (inf u) y' = rw (lost' (fin t m e))
  by_two (fin t m e) x' (fin u n d) y' = rw (like (fin t m e) x' (fin u n d) y').is

  two_kept : {a b c d : Dual} → Same a c → Same b d →
      Same (plain.made (g a.value b.value) (slope a.value a.slope b.value b.slope)) (strict.made (s c.value d.value) (slope c.value c.slope d.value d.slope))
  two_kept {a} {b} p q = same
      (rw (← p.is, ← q.is, at_result (λ r. checked (slope a.value a.slope b.value b.slope)) (g a.value b.value), agree a.value b.value)
      (ap (dual (s (checked a.value) (checked b.value))) (by_two a.value a.slope b.value b.slope)))

-- ---- the rules
of_start : (k s : Float) → Same (plain.made k s) (strict.made (checked k) s)
of_start nan s = same refl
of_start (inf t) s = same refl
of_start (fin t m e) s = same refl

constant_kept : (k : Float) → Same (Rules.constant plain k) (Rules.constant strict k)
unfolding Rules.constant
constant_kept k = of_start k _

pub start_kept : (k s : Float) → Same (Rules.start plain k s) (Rules.start strict k s)
unfolding Rules.start
start_kept k s = of_start k s

module _ {a b c d : Dual} (p : Same a c) (q : Same b d) where
  add_kept : Same (Rules.add plain a b) (Rules.add strict c d)
  unfolding Rules.add Ieee.add
  add_kept = two_kept guarded.add doubles.add (λ x y. ((Values.agreement).add (itself x) (itself y)).is) (λ y. refl) (λ x. ap checked (add_nan x))
      (λ x x' y y'. Ieee.add binary64 x' y') (λ x x' y y'. add_alike (known x') (known y')) p q

  sub_kept : Same (Rules.sub plain a b) (Rules.sub strict c d)
  unfolding Rules.sub Ieee.sub Ieee.add
  sub_kept = two_kept guarded.sub doubles.sub (λ x y. ((Values.agreement).sub (itself x) (itself y)).is) (λ y. refl) (λ x. ap checked (sub_nan x))
      (λ x x' y y'. Ieee.sub binary64 x' y') (λ x x' y y'. sub_alike (known x') (known y')) p q

  mul_kept : Same (Rules.mul plain a b) (Rules.mul strict c d)
  unfolding Rules.mul Ieee.mul
  mul_kept = two_kept guarded.mul doubles.mul (λ x y. ((Values.agreement).mul (itself x) (itself y)).is) (λ y. refl) (λ x. ap checked (mul_nan x))
      Rules.product_slope (λ x x' y y'. add_alike (mul_alike (known x') (the_same y)) (mul_alike (the_same x) (known y'))) p q

  div_kept : Same (Rules.div plain a b) (Rules.div strict c d)
  unfolding Rules.div Ieee.div
  div_kept = two_kept guarded.div doubles.div (λ x y. ((Values.agreement).div (itself x) (itself y)).is) (λ y. refl) (λ x. ap checked (div_nan x))
      Rules.quotient_slope (λ x x' y y'. div_alike (Ieee.mul binary64 y y) (sub_alike (mul_alike (known x') (the_same y)) (mul_alike (the_same x) (known y')))) p q

exp_like : (r x x' : Float) → Alike (Rules.exp_slope r x x') (Rules.exp_slope r x (checked x'))
exp_like r x x' = go (lt x minus_seven_hundred)
  where
    go : (b : Bool) → Alike (cond b (where_finite x' zero_d) (Ieee.mul binary64 x' r)) (cond b (where_finite (checked x') zero_d) (Ieee.mul binary64 (checked x') r))
    go true = where_alike x' zero_d
    go false = mul_alike (known x') (the_same r)

module _ {a d : Dual} (p : Same a d) where
  neg_kept : Same (Rules.neg plain a) (Rules.neg strict d)
  unfolding Rules.neg Ieee.neg
  neg_kept = one_kept guarded.neg doubles.neg (λ x. ((Values.agreement).neg (itself x)).is) refl (λ r x x'. Ieee.neg x') (λ r x x'. neg_alike x') p

  sqrt_kept : Same (Rules.sqrt plain a) (Rules.sqrt strict d)
  unfolding Rules.sqrt Root.sqrt
  sqrt_kept = one_kept guarded.sqrt doubles.sqrt (λ x. ((Values.agreement).sqrt (itself x)).is) refl (λ r x x'. Rules.root_slope r x') (λ r x x'. div_alike _ (known x')) p

  ln_kept : Same (Rules.ln plain a) (Rules.ln strict d)
  unfolding Rules.ln R.ln
  ln_kept = one_kept guarded.ln doubles.ln (λ x. ((Values.agreement).ln (itself x)).is) refl (λ r x x'. Ieee.div binary64 x' x) (λ r x x'. div_alike x (known x')) p

  ln1p_kept : Same (Rules.ln1p plain a) (Rules.ln1p strict d)
  unfolding Rules.ln1p R.ln1p
  ln1p_kept = one_kept guarded.ln1p doubles.ln1p (λ x. ((Values.agreement).ln1p (itself x)).is) refl (λ r x x'. Ieee.div binary64 x' (Ieee.add binary64 one x)) (λ r x x'. div_alike _ (known x')) p

  exp_kept : Same (Rules.exp plain a) (Rules.exp strict d)
  unfolding Rules.exp R.exp
  exp_kept = one_kept guarded.exp doubles.exp (λ x. ((Values.agreement).exp (itself x)).is) refl Rules.exp_slope exp_like p

-- ---- cases
of_choose : (l : Limit) (x : Float) (x' : Float) (a b : Dual) → checked_dual (Rules.choose l (dual x x') a b) ≡ Rules.choose l (checked_dual (dual x x')) (checked_dual a) (checked_dual b)
unfolding Rules.choose
of_choose l nan x' a b = refl
of_choose l (inf s) x' a b = refl
of_choose l (fin s m e) x' a b = go (passes l (value (fin s m e)))
  where
    go : (c : Bool) → dual (checked (cond c a.value b.value)) (where_finite (cond c a.value b.value) (checked (cond c a.slope b.slope)))
        ≡ dual (cond c (checked a.value) (checked b.value)) (cond c (where_finite a.value (checked a.slope)) (where_finite b.value (checked b.slope)))
    go true = refl
    go false = refl

of_given : (x x' y y' : Float) → where_finite y (checked (where_finite x (where_finite x' y'))) ≡ where_finite (checked x) (where_finite (where_finite x (checked x')) (where_finite y (checked y')))
of_given nan x' y y' = either_nan (finite y)
of_given (inf s) x' y y' = either_nan (finite y)
of_given (fin s m e) nan y y' = either_nan (finite y)
of_given (fin s m e) (inf t) y y' = either_nan (finite y)
of_given (fin s m e) (fin t n d) y y' = refl

choose_kept : {a b c x y z : Dual} (l : Limit) → Same a x → Same b y → Same c z → Same (Rules.choose l a b c) (Rules.choose l x y z)
choose_kept {a} {b} {c} l p q r = same (rw (← p.is, ← q.is, ← r.is) (of_choose l a.value a.slope b c))

given_kept : {a b x y : Dual} → Same a x → Same b y → Same (Rules.given a b) (Rules.given x y)
unfolding Rules.given
given_kept {a} {b} p q = same (rw (← p.is, ← q.is) (ap (dual (checked b.value)) (of_given a.value a.slope b.value b.slope)))

none_kept : Same failed failed
none_kept = same refl

-- ---- the functions that follow their recipes, powers and sums
powf_kept : {a b c d : Dual} → Same a c → Same b d → Same (Rules.powf plain a b) (Rules.powf strict c d)
unfolding Rules.powf
powf_kept p q =
    choose_kept (above zero_d) p (exp_kept (mul_kept q (ln_kept p)))
    (choose_kept (below zero_d) p none_kept (choose_kept (above zero_d) q (given_kept p (given_kept q (constant_kept zero_d))) none_kept))

tanh_kept : {a d : Dual} → Same a d → Same (Rules.tanh plain a) (Rules.tanh strict d)
unfolding Rules.tanh
tanh_kept p =
    choose_kept (above twenty) p (given_kept p (constant_kept one))
    (choose_kept (below minus_twenty) p (given_kept p (constant_kept minus_one))
    (sub_kept (constant_kept one) (div_kept (constant_kept two) (add_kept (exp_kept (mul_kept (constant_kept two) p)) (constant_kept one)))))

powi_kept : {a d : Dual} (n : ℕ) → Same a d → Same (guarded_slopes.powi a n) (slopes.powi d n)
unfolding power_by
powi_kept zero p = constant_kept one
powi_kept (suc zero) p = p
powi_kept (suc (suc n)) p = mul_kept (powi_kept (suc n) p) p

sum_kept : {f g : ℕ → Dual} (n : ℕ) → ((i : ℕ) → Same (f i) (g i)) → Same (guarded_slopes.sum n f) (slopes.sum n g)
unfolding sum_by
sum_kept zero h = constant_kept zero_d
sum_kept (suc n) h = add_kept (sum_kept n h) (h n)

pub agreement : Kept guarded_slopes slopes Same
agreement = record {
  constant = constant_kept;
  add = add_kept;
  neg = neg_kept;
  sub = sub_kept;
  mul = mul_kept;
  div = div_kept;
  powi = powi_kept;
  sqrt = sqrt_kept;
  ln = ln_kept;
  ln1p = ln1p_kept;
  exp = exp_kept;
  powf = powf_kept;
  tanh = tanh_kept;
  if_below = λ t p q r. given_kept p (choose_kept (below t) p q r);
  sum = sum_kept;
}
