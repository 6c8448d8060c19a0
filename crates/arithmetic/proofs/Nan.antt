-- What is NaN stays NaN.
use mathlib.Core.Path.{◌≡◌, refl}
use mathlib.Core.Bool.{Bool, true, false, cond}
use lib.Ieee.{Float, nan, inf, fin, binary64}
use lib.Ieee as Ieee

pub either_nan : (b : Bool) → cond b nan nan ≡ nan
either_nan true = refl
either_nan false = refl

pub add_nan : (x : Float) → Ieee.add binary64 x nan ≡ nan
unfolding Ieee.add
add_nan nan = refl
add_nan (inf s) = refl
add_nan (fin s m e) = refl

pub sub_nan : (x : Float) → Ieee.sub binary64 x nan ≡ nan
unfolding Ieee.sub Ieee.neg
sub_nan x = add_nan x

pub mul_nan : (x : Float) → Ieee.mul binary64 x nan ≡ nan
unfolding Ieee.mul
mul_nan nan = refl
mul_nan (inf s) = refl
mul_nan (fin s m e) = refl

pub div_nan : (x : Float) → Ieee.div binary64 x nan ≡ nan
unfolding Ieee.div
div_nan nan = refl
div_nan (inf s) = refl
div_nan (fin s m e) = refl
