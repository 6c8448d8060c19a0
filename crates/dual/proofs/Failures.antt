-- No operation loses a slope that is not finite: where the slope of a result is finite, so are the slopes of its operands.
use Prim.Native.Nat.{ℕ, zero, suc, ◌<◌}
use native.Mathlib.Nat.{eq-or-lt_of_le}
use native.Mathlib.Omega.{arith}
use mathlib.Core.Path.{subst}
use mathlib.Core.Logic.{◌⊎◌, inl, inr}
use mathlib.Core.Bool.{Bool, true, false, cond, beq}
use lib.Dec.{T, eqb}
use lib.Ieee.{Float, nan, inf, fin, binary64, lt, unlike}
use lib.Ieee as Ieee
use lib.Ieee.Scale.{finite}
use Rattle.arithmetic.specs.Value.{value}
use Rattle.arithmetic.specs.Constants.{zero_d, one, two, minus_one, minus_seven_hundred, twenty, minus_twenty}
use Rattle.arithmetic.specs.Basic.{Limit, below, above, passes}
use Rattle.arithmetic.specs.Arithmetic.{sum_by, power_by}
use Rattle.arithmetic.specs.Doubles.{checked, where_finite, doubles}
use Rattle.arithmetic.specs.Failures.{KeepsFailures}
use Rattle.dual.specs.declared.basic.Dual.{Dual}
use Rattle.dual.specs.Rules as Rules
use Rattle.dual.specs.Rules.{strict, slopes}

-- ---- doubles
abbrev Finite : Float → Type 0
Finite x = T (finite x)

where_back : (x y : Float) → Finite (where_finite x y) → Finite x × Finite y
where_back nan y h = absurd h
where_back (inf s) y h = absurd h
where_back (fin s m e) y h = (tt, h)

checked_back : (x : Float) → Finite (checked x) → Finite x
checked_back nan h = h
checked_back (inf s) h = h
checked_back (fin s m e) h = h

neg_back : (x : Float) → Finite (Ieee.neg x) → Finite x
unfolding Ieee.neg
neg_back nan h = h
neg_back (inf s) h = h
neg_back (fin s m e) h = h

none_finite : (b : Bool) (s : Bool) → Finite (cond b (inf s) nan) → ⊥
none_finite true s h = h
none_finite false s h = h

finite_none : (b : Bool) (s : Bool) → Finite (cond b nan (inf s)) → ⊥
finite_none true s h = h
finite_none false s h = h

add_back : (x y : Float) → Finite (Ieee.add binary64 x y) → Finite x × Finite y
unfolding Ieee.add
add_back nan y h = absurd h
add_back (inf s) nan h = absurd h
add_back (inf s) (inf t) h = absurd (none_finite (beq s t) s h)
add_back (inf s) (fin t n d) h = absurd h
add_back (fin s m e) nan h = absurd h
add_back (fin s m e) (inf t) h = absurd h
add_back (fin s m e) (fin t n d) h = (tt, tt)

sub_back : (x y : Float) → Finite (Ieee.sub binary64 x y) → Finite x × Finite y
unfolding Ieee.sub
sub_back x y h = let w = add_back x (Ieee.neg y) h in (w.0, neg_back y w.1)

mul_back : (x y : Float) → Finite (Ieee.mul binary64 x y) → Finite x × Finite y
unfolding Ieee.mul
mul_back nan y h = absurd h
mul_back (inf s) nan h = absurd h
mul_back (inf s) (inf t) h = absurd h
mul_back (inf s) (fin t n d) h = absurd (finite_none (eqb n 0) (unlike s t) h)
mul_back (fin s m e) nan h = absurd h
mul_back (fin s m e) (inf t) h = absurd (finite_none (eqb m 0) (unlike s t) h)
mul_back (fin s m e) (fin t n d) h = (tt, tt)

-- of a quotient the dividend only: a divisor may be an infinity
div_back : (x y : Float) → Finite (Ieee.div binary64 x y) → Finite x
unfolding Ieee.div
div_back nan y h = h
div_back (inf s) nan h = h
div_back (inf s) (inf t) h = h
div_back (inf s) (fin t n d) h = h
div_back (fin s m e) y h = tt

-- ---- values with slopes
abbrev pub Sloped : Dual → Type 0
Sloped x = T (finite x.slope)

made_back : (v s : Float) → Sloped (strict.made v s) → Finite s
made_back v s h = checked_back s (where_back v (checked s) h).1

product_back : (a a' b b' : Float) → Finite (Rules.product_slope a a' b b') → Finite a' × Finite b'
product_back a a' b b' h = let w = add_back (Ieee.mul binary64 a' b) (Ieee.mul binary64 a b') h in ((mul_back a' b w.0).0, (mul_back a b' w.1).1)

quotient_back : (a a' b b' : Float) → Finite (Rules.quotient_slope a a' b b') → Finite a' × Finite b'
quotient_back a a' b b' h =
    let w = sub_back (Ieee.mul binary64 a' b) (Ieee.mul binary64 a b') (div_back (Ieee.sub binary64 (Ieee.mul binary64 a' b) (Ieee.mul binary64 a b')) (Ieee.mul binary64 b b) h) in
    ((mul_back a' b w.0).0, (mul_back a b' w.1).1)

module _ (x y : Dual) where
  add_kept : Sloped (Rules.add strict x y) → Sloped x × Sloped y
  unfolding Rules.add
  add_kept h = add_back x.slope y.slope (made_back (doubles.add x.value y.value) (Ieee.add binary64 x.slope y.slope) h)

  sub_kept : Sloped (Rules.sub strict x y) → Sloped x × Sloped y
  unfolding Rules.sub
  sub_kept h = sub_back x.slope y.slope (made_back (doubles.sub x.value y.value) (Ieee.sub binary64 x.slope y.slope) h)

  mul_kept : Sloped (Rules.mul strict x y) → Sloped x × Sloped y
  unfolding Rules.mul
  mul_kept h = product_back x.value x.slope y.value y.slope (made_back (doubles.mul x.value y.value) (Rules.product_slope x.value x.slope y.value y.slope) h)

  div_kept : Sloped (Rules.div strict x y) → Sloped x × Sloped y
  unfolding Rules.div
  div_kept h = quotient_back x.value x.slope y.value y.slope (made_back (doubles.div x.value y.value) (Rules.quotient_slope x.value x.slope y.value y.slope) h)

module _ (x : Dual) where
  neg_kept : Sloped (Rules.neg strict x) → Sloped x
  unfolding Rules.neg
  neg_kept h = neg_back x.slope (made_back (doubles.neg x.value) (Ieee.neg x.slope) h)

  sqrt_kept : Sloped (Rules.sqrt strict x) → Sloped x
  unfolding Rules.sqrt
  sqrt_kept h = let r = doubles.sqrt x.value in div_back x.slope (Ieee.mul binary64 two r) (made_back r (Rules.root_slope r x.slope) h)

  ln_kept : Sloped (Rules.ln strict x) → Sloped x
  unfolding Rules.ln
  ln_kept h = div_back x.slope x.value (made_back (doubles.ln x.value) (Ieee.div binary64 x.slope x.value) h)

  ln1p_kept : Sloped (Rules.ln1p strict x) → Sloped x
  unfolding Rules.ln1p
  ln1p_kept h = let d = Ieee.add binary64 one x.value in div_back x.slope d (made_back (doubles.ln1p x.value) (Ieee.div binary64 x.slope d) h)

exp_back : (b : Bool) (a' e : Float) → Finite (cond b (where_finite a' zero_d) (Ieee.mul binary64 a' e)) → Finite a'
exp_back true a' e h = (where_back a' zero_d h).0
exp_back false a' e h = (mul_back a' e h).0

exp_kept : (x : Dual) → Sloped (Rules.exp strict x) → Sloped x
unfolding Rules.exp
exp_kept x h = let e = doubles.exp x.value in exp_back (lt x.value minus_seven_hundred) x.slope e (made_back e (Rules.exp_slope e x.value x.slope) h)

-- ---- cases
choose_back : (l : Limit) (v a b : Dual) → Sloped (Rules.choose l v a b) → Sloped a ⊎ Sloped b
unfolding Rules.choose
choose_back l v a b h = let c = passes l (value v.value) in go c (where_back v.value (cond c a.slope b.slope) h).1
  where
    go : (c : Bool) → Finite (cond c a.slope b.slope) → Sloped a ⊎ Sloped b
    go true k = inl k
    go false k = inr k

given_back : (v x : Dual) → Sloped (Rules.given v x) → Sloped v × Sloped x
unfolding Rules.given
given_back v x h = where_back v.slope x.slope (where_back v.value (where_finite v.slope x.slope) h).1

none_back : Sloped Rules.failed → ⊥
none_back h = h

powf_kept : (x y : Dual) → Sloped (Rules.powf strict x y) → Sloped x × Sloped y
unfolding Rules.powf
powf_kept x y h = elim (choose_back (above zero_d) x worked at_most h) [ inl k ↦ by_recipe k | inr k ↦ at_zero k ]
  where
    power : Dual
    power = Rules.mul strict y (Rules.ln strict x)

    worked : Dual
    worked = Rules.exp strict power

    constant_case : Dual
    constant_case = Rules.given y (Rules.constant strict zero_d)

    of_zero : Dual
    of_zero = Rules.choose (above zero_d) y (Rules.given x constant_case) Rules.failed

    at_most : Dual
    at_most = Rules.choose (below zero_d) x Rules.failed of_zero

    by_recipe : Sloped worked → Sloped x × Sloped y
    by_recipe k = let w = mul_kept y (Rules.ln strict x) (exp_kept power k) in (ln_kept x w.1, w.0)

    by_constant : Sloped (Rules.given x constant_case) → Sloped x × Sloped y
    by_constant k = let w = given_back x constant_case k in (w.0, (given_back y (Rules.constant strict zero_d) w.1).0)

    at_zero : Sloped at_most → Sloped x × Sloped y
    at_zero k = elim (choose_back (below zero_d) x Rules.failed of_zero k)
        [ inl z ↦ absurd (none_back z) | inr z ↦ elim (choose_back (above zero_d) y (Rules.given x constant_case) Rules.failed z) [ inl g ↦ by_constant g | inr g ↦ absurd (none_back g) ] ]

tanh_kept : (x : Dual) → Sloped (Rules.tanh strict x) → Sloped x
unfolding Rules.tanh
tanh_kept x h = elim (choose_back (above twenty) x high below_twenty h) [
  | inl k ↦ (given_back x one' k).0
  | inr k ↦ elim (choose_back (below minus_twenty) x low worked k) [ inl g ↦ (given_back x (Rules.constant strict minus_one) g).0 | inr g ↦ by_recipe g ]
]
  where
    one' : Dual
    one' = Rules.constant strict one

    two' : Dual
    two' = Rules.constant strict two

    twice : Dual
    twice = Rules.mul strict two' x

    divisor : Dual
    divisor = Rules.add strict (Rules.exp strict twice) one'

    worked : Dual
    worked = Rules.sub strict one' (Rules.div strict two' divisor)

    high : Dual
    high = Rules.given x one'

    low : Dual
    low = Rules.given x (Rules.constant strict minus_one)

    below_twenty : Dual
    below_twenty = Rules.choose (below minus_twenty) x low worked

    by_recipe : Sloped worked → Sloped x
    by_recipe g = (mul_kept two' x (exp_kept twice (add_kept (Rules.exp strict twice) one' (div_kept two' divisor (sub_kept one' (Rules.div strict two' divisor) g).1).1).0)).1

powi_kept : (x : Dual) (k : ℕ) → Sloped (slopes.powi x (suc k)) → Sloped x
unfolding power_by
powi_kept x zero h = h
powi_kept x (suc k) h = (mul_kept (slopes.powi x (suc k)) x h).1

sum_kept : (n : ℕ) (f : ℕ → Dual) → Sloped (slopes.sum n f) → (i : ℕ) → i < n → Sloped (f i)
unfolding sum_by
sum_kept zero f h i l = absurd (omega (arith, l))
sum_kept (suc n) f h i l =
    let w = add_kept (slopes.sum n f) (f n) h in
    elim (eq-or-lt_of_le l) [ inl e ↦ subst (λ (j : ℕ). Sloped (f j)) (omega (arith, e)) w.1 | inr k ↦ sum_kept n f w.0 i (omega (arith, k)) ]

pub slopes_keep_failures : KeepsFailures slopes (λ x. T (finite x.slope))
slopes_keep_failures = record {
  add = add_kept;
  neg = neg_kept;
  sub = sub_kept;
  mul = mul_kept;
  div = div_kept;
  powi = powi_kept;
  sqrt = sqrt_kept;
  ln = ln_kept;
  ln1p = ln1p_kept;
  exp = exp_kept;
  powf = powf_kept;
  tanh = tanh_kept;
  if_below = λ v t x y h. let w = given_back v (Rules.choose (below t) v x y) h in (w.0, choose_back (below t) v x y w.1);
  sum = sum_kept;
}
