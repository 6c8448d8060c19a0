-- The recipes of tanh and ln_1p, by the cases that the code tests.
use Rattle.std.proofs.Common.{◌≡◌, true, false, cond, T, sym, subst}
use lib.Ieee.{Float, nan, binary64, lt, neg, add, sub, mul, of_bits}
use lib.Ieee.Scale.{finite}
use Rattle.arithmetic.specs.Constants.{one, two, minus_one, twenty, minus_twenty, quarter, minus_quarter}
use Rattle.arithmetic.specs.Recipes as R
use Rattle.arithmetic.specs.Doubles.{plain, quotient}
use Rattle.arithmetic.proofs.Tests.{below_is, above_is}

-- ---- tanh, of a number and of what is none
pub tanh_by_cases : (v : Float) → finite v ≡ true → R.tanh plain v
    ≡ cond (lt twenty v) one (cond (lt v minus_twenty) minus_one (sub binary64 one (quotient two (add binary64 (R.exp plain (mul binary64 two v)) one))))
unfolding R.tanh of_bits neg
tanh_by_cases v e = let p : T (finite v) = subst T (sym e) tt in rw (e, above_is v twenty p tt, below_is v minus_twenty p tt)

pub tanh_not_finite : (v : Float) → finite v ≡ false → nan ≡ R.tanh plain v
unfolding R.tanh
tanh_not_finite v e = rw e

-- ---- ln_1p
pub ln1p_by_cases : (v : Float) → finite v ≡ true → R.ln1p plain v
    ≡ cond (lt v minus_quarter) (cond (lt minus_one v) (R.ln plain (add binary64 one v)) nan)
    (cond (lt quarter v) (R.ln plain (add binary64 one v)) (R.series plain (quotient v (add binary64 two v))))
unfolding R.ln1p of_bits neg
ln1p_by_cases v e = let p : T (finite v) = subst T (sym e) tt in rw (e, below_is v minus_quarter p tt, above_is v minus_one p tt, above_is v quarter p tt)

pub ln1p_not_finite : (v : Float) → finite v ≡ false → nan ≡ R.ln1p plain v
unfolding R.ln1p
ln1p_not_finite v e = rw e
