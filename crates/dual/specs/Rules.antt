-- The rules of M-100: "every double becomes a value with a slope". `slopes` is the definition: its values are those of `doubles`, and a slope that is not finite,
-- or whose value failed, is NaN from there on. `guarded_slopes` is what the code works, with no test but where an operation could lose what is not finite.
-- proofs/Agreement.antt: for every formula, one test at the end of `guarded_slopes` gives `slopes`.
use Rattle.std.specs.Prelude.{Bool, cond, ◌&&◌, Float}
use Rattle.std.specs.Float.{nan, binary64}
use Rattle.std.specs.Float.Ieee.{lt}
use Rattle.std.specs.Float.Ieee as Ieee
use Rattle.std.specs.Float.Ieee.Scale.{finite}
use Rattle.arithmetic.specs.Constants.{zero_d, one, two, minus_one, minus_seven_hundred, twenty, minus_twenty}
use Rattle.arithmetic.specs.Basic.{Limit, below, above}
use Rattle.arithmetic.specs.Arithmetic.{Arithmetic, sum_by, power_by}
use Rattle.arithmetic.specs.Doubles.{checked, where_finite, tested, doubles, guarded}
use Rattle.dual.specs.declared.basic.Dual.{Dual}

abbrev pub dual : Float → Float → Dual
dual v s = record { value = v; slope = s }

abbrev pub failed : Dual
failed = dual nan nan

-- both halves are finite
abbrev pub ok : Dual → Bool
ok x = finite x.value && finite x.slope

-- ---- the two meanings: they differ in the operations on values, and in how a result is made of its halves
pub record Halves : Type 0 where
  pub constant : Float → Float
  pub neg : Float → Float
  pub add : Float → Float → Float
  pub sub : Float → Float → Float
  pub mul : Float → Float → Float
  pub div : Float → Float → Float
  pub sqrt : Float → Float
  pub ln : Float → Float
  pub ln1p : Float → Float
  pub exp : Float → Float
  pub made : Float → Float → Dual

abbrev pub strict : Halves
strict = record {
  constant = doubles.constant;
  neg = doubles.neg;
  add = doubles.add;
  sub = doubles.sub;
  mul = doubles.mul;
  div = doubles.div;
  sqrt = doubles.sqrt;
  ln = doubles.ln;
  ln1p = doubles.ln1p;
  exp = doubles.exp;
  made = λ v s. dual v (where_finite v (checked s));
}

abbrev pub plain : Halves
plain = record {
  constant = guarded.constant;
  neg = guarded.neg;
  add = guarded.add;
  sub = guarded.sub;
  mul = guarded.mul;
  div = guarded.div;
  sqrt = guarded.sqrt;
  ln = guarded.ln;
  ln1p = guarded.ln1p;
  exp = guarded.exp;
  made = dual;
}

-- ---- "cases are chosen by the value"
unfoldable pub choose : Limit → Dual → Dual → Dual → Dual
choose l v a b = dual (tested l v.value a.value b.value) (tested l v.value a.slope b.slope)

-- x in a case that v has: a slope of v that is not finite is not lost. (Whether v is finite, `choose` asks for the value.)
unfoldable pub given : Dual → Dual → Dual
given v x = dual x.value (where_finite v.value (where_finite v.slope x.slope))

-- ---- the slopes of document 02: a and b are values, a' and b' their slopes, and each operation on doubles rounds once
infixl 60 ◌+ᵈ◌
infixl 60 ◌-ᵈ◌
infixl 70 ◌*ᵈ◌
infixl 70 ◌/ᵈ◌
abbrev ◌+ᵈ◌ : Float → Float → Float
◌+ᵈ◌ = Ieee.add binary64

abbrev ◌-ᵈ◌ : Float → Float → Float
◌-ᵈ◌ = Ieee.sub binary64

abbrev ◌*ᵈ◌ : Float → Float → Float
◌*ᵈ◌ = Ieee.mul binary64

abbrev ◌/ᵈ◌ : Float → Float → Float
◌/ᵈ◌ = Ieee.div binary64

abbrev pub product_slope : Float → Float → Float → Float → Float
product_slope a a' b b' = a' *ᵈ b +ᵈ a *ᵈ b'

abbrev pub quotient_slope : Float → Float → Float → Float → Float
quotient_slope a a' b b' = (a' *ᵈ b -ᵈ a *ᵈ b') /ᵈ (b *ᵈ b)

abbrev pub root_slope : Float → Float → Float
root_slope root a' = a' /ᵈ (two *ᵈ root)

-- below −700 exp is a constant case
abbrev pub exp_slope : Float → Float → Float → Float
exp_slope e a a' = cond (lt a minus_seven_hundred) (where_finite a' zero_d) (a' *ᵈ e)

-- ---- the rules
module _ (H : Halves) where
  open H use {made}

  -- "constants and constant cases have slope 0", where they are finite
  unfoldable pub constant : Float → Dual
  constant k = made (H.constant k) (where_finite k zero_d)

  -- an input "starts with the slope" s
  unfoldable pub start : Float → Float → Dual
  start k s = made (H.constant k) s

  unfoldable pub neg : Dual → Dual
  neg x = made (H.neg x.value) (Ieee.neg x.slope)

  unfoldable pub add : Dual → Dual → Dual
  add x y = made (H.add x.value y.value) (x.slope +ᵈ y.slope)

  unfoldable pub sub : Dual → Dual → Dual
  sub x y = made (H.sub x.value y.value) (x.slope -ᵈ y.slope)

  unfoldable pub mul : Dual → Dual → Dual
  mul x y = made (H.mul x.value y.value) (product_slope x.value x.slope y.value y.slope)

  unfoldable pub div : Dual → Dual → Dual
  div x y = made (H.div x.value y.value) (quotient_slope x.value x.slope y.value y.slope)

  unfoldable pub sqrt : Dual → Dual
  sqrt x = made (H.sqrt x.value) (root_slope (H.sqrt x.value) x.slope)

  unfoldable pub ln : Dual → Dual
  ln x = made (H.ln x.value) (x.slope /ᵈ x.value)

  unfoldable pub ln1p : Dual → Dual
  ln1p x = made (H.ln1p x.value) (x.slope /ᵈ (one +ᵈ x.value))

  unfoldable pub exp : Dual → Dual
  exp x = made (H.exp x.value) (exp_slope (H.exp x.value) x.value x.slope)

  -- exp (b × ln v); "a power of 0 has slope 0"
  unfoldable pub powf : Dual → Dual → Dual
  unfolding choose given constant mul ln exp
  powf v b =
      choose (above zero_d) v (exp (mul b (ln v)))
      (choose (below zero_d) v failed (choose (above zero_d) b (given v (given b (constant zero_d))) failed))

  -- 1 − 2 / (exp (2v) + 1); beyond ±20 a constant
  unfoldable pub tanh : Dual → Dual
  unfolding choose given constant add sub mul div exp
  tanh v =
      choose (above twenty) v (given v (constant one))
      (choose (below minus_twenty) v (given v (constant minus_one)) (sub (constant one) (div (constant two) (add (exp (mul (constant two) v)) (constant one)))))

  abbrev pub over : Arithmetic Dual
  over = record {
    constant = constant;
    add = add;
    neg = neg;
    sub = sub;
    mul = mul;
    div = div;
    powi = power_by (constant one) mul;
    sqrt = sqrt;
    ln = ln;
    ln1p = ln1p;
    exp = exp;
    powf = powf;
    tanh = tanh;
    if_below = λ v t a b. given v (choose (below t) v a b);
    sum = sum_by (constant zero_d) add;
  }

abbrev pub slopes : Arithmetic Dual
slopes = over strict

abbrev pub guarded_slopes : Arithmetic Dual
guarded_slopes = over plain

-- what the code works for a case that v has: `given v x`, and `failed` where v is not finite, as `choose` has it
unfoldable pub within : Dual → Dual → Dual
within v x = dual (where_finite v.value x.value) (where_finite v.value (where_finite v.slope x.slope))
