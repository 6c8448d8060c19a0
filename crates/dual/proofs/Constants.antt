-- The constants 0 and 1 are the associated constants ZERO and ONE, and NaN is none.
use mathlib.Core.Path.{◌≡◌, refl}
use lib.Ieee.{nan, of_bits}
use Rattle.arithmetic.specs.Constants.{zero_d, one}
use Rattle.dual.specs.Rules.{dual, failed, constant, plain}

pub zero_constant : constant plain zero_d ≡ dual zero_d zero_d
unfolding constant of_bits
zero_constant = refl

pub one_constant : constant plain one ≡ dual one zero_d
unfolding constant of_bits
one_constant = refl

pub nan_constant : constant plain nan ≡ failed
unfolding constant
nan_constant = refl
