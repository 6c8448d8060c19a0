-- The constants 0 and 1 are the associated constants ZERO and ONE, NaN is none, and a whole number that a double holds is one.
use mathlib.Core.Path.{◌≡◌, refl}
use lib.Dec.{T}
use lib.IntN.{ℤ}
use lib.Ieee.{nan, binary64, fits, eq, of_bits, in_float, of_int}
use lib.Ieee.Bits.{is_true}
use Rattle.arithmetic.specs.Constants.{zero_d, one}
use Rattle.range.specs.Rules.{failed, range, point, ends, whole}

pub zero_constant : point zero_d ≡ range zero_d zero_d
unfolding point ends of_bits fits eq
zero_constant = refl

pub one_constant : point one ≡ range one one
unfolding point ends of_bits fits eq
one_constant = refl

pub nan_constant : point nan ≡ failed
unfolding point ends fits
nan_constant = refl

pub whole_is : (k : ℤ) → T (in_float binary64 k) → whole k ≡ point (of_int binary64 k)
unfolding whole
whole_is k h = rw (is_true (in_float binary64 k) h)
