-- The literals and named constants of the Rust text as doubles, by their bit patterns, each with the number that it is the nearest double to.
use Rattle.std.specs.Prelude.{◌≡◌, ◌^◌, true, false, refl, Float}
use Rattle.std.specs.Float.{binary64}
use Rattle.std.specs.Float.Ieee.{round, of_bits, neg}
use Rattle.arithmetic.specs.Constants.{bits}

abbrev pub zero : Float
zero = bits 0x0000000000000000

abbrev pub quarter : Float
quarter = bits 0x3FD0000000000000

abbrev pub half : Float
half = bits 0x3FE0000000000000

abbrev pub three_quarters : Float
three_quarters = bits 0x3FE8000000000000

abbrev pub one : Float
one = bits 0x3FF0000000000000

abbrev pub five_quarters : Float
five_quarters = bits 0x3FF4000000000000

abbrev pub two : Float
two = bits 0x4000000000000000

abbrev pub three : Float
three = bits 0x4008000000000000

abbrev pub four : Float
four = bits 0x4010000000000000

abbrev pub five : Float
five = bits 0x4014000000000000

abbrev pub six : Float
six = bits 0x4018000000000000

abbrev pub seven : Float
seven = bits 0x401C000000000000

abbrev pub eight : Float
eight = bits 0x4020000000000000

abbrev pub nine : Float
nine = bits 0x4022000000000000

abbrev pub ten : Float
ten = bits 0x4024000000000000

abbrev pub twelve : Float
twelve = bits 0x4028000000000000

abbrev pub sixteen : Float
sixteen = bits 0x4030000000000000

abbrev pub twenty_four : Float
twenty_four = bits 0x4038000000000000

abbrev pub minus_half : Float
minus_half = neg half

abbrev pub minus_three_quarters : Float
minus_three_quarters = neg three_quarters

abbrev pub minus_two : Float
minus_two = neg two

-- the limit of `u_fraction_wca` in wca/attractive_perturbation_uvb3.rs
abbrev pub limit175 : Float
limit175 = bits 0x4065E00000000000

-- the exponents of `u_fraction_bh`
abbrev pub u_exponent_a : Float
u_exponent_a = bits 0x3FF37FCB923A29C7

abbrev pub u_exponent_b : Float
u_exponent_b = bits 0x40111BF487FCB924

-- the exponents of `y_eff` in wca/attractive_perturbation.rs
abbrev pub y_exponent_a : Float
y_exponent_a = bits 0x3FF0F473F94C9F9F

abbrev pub y_exponent_b : Float
y_exponent_b = bits 0x400B49DAB58DA9D7

-- ---- std::f64::consts, whose digits are these
abbrev pub PI : Float
PI = bits 0x400921FB54442D18

abbrev pub FRAC_PI_3 : Float
FRAC_PI_3 = bits 0x3FF0C152382D7366

abbrev pub FRAC_PI_6 : Float
FRAC_PI_6 = bits 0x3FE0C152382D7366

-- ---- each is the double nearest to its number
literals_are : (zero ≡ round binary64 false 0 1)
    × (quarter ≡ round binary64 false 25 (10 ^ 2))
    × (half ≡ round binary64 false 5 (10 ^ 1))
    × (three_quarters ≡ round binary64 false 75 (10 ^ 2))
    × (one ≡ round binary64 false 1 1)
    × (five_quarters ≡ round binary64 false 125 (10 ^ 2))
    × (two ≡ round binary64 false 2 1)
    × (three ≡ round binary64 false 3 1)
    × (four ≡ round binary64 false 4 1)
    × (five ≡ round binary64 false 5 1)
    × (six ≡ round binary64 false 6 1)
    × (seven ≡ round binary64 false 7 1)
    × (eight ≡ round binary64 false 8 1)
    × (nine ≡ round binary64 false 9 1)
    × (ten ≡ round binary64 false 10 1)
    × (twelve ≡ round binary64 false 12 1)
    × (sixteen ≡ round binary64 false 16 1)
    × (twenty_four ≡ round binary64 false 24 1)
    × (minus_half ≡ round binary64 true 5 (10 ^ 1))
    × (minus_three_quarters ≡ round binary64 true 75 (10 ^ 2))
    × (minus_two ≡ round binary64 true 2 1)
unfolding round of_bits neg
literals_are = (refl, refl, refl, refl, refl, refl, refl, refl, refl, refl, refl, refl, refl, refl, refl, refl, refl, refl, refl, refl, refl)

exponents_are : (limit175 ≡ round binary64 false 175 1)
    × (u_exponent_a ≡ round binary64 false 12187 (10 ^ 4))
    × (u_exponent_b ≡ round binary64 false 42773 (10 ^ 4))
    × (y_exponent_a ≡ round binary64 false 105968091375869 (10 ^ 14))
    × (y_exponent_b ≡ round binary64 false 341106168592999 (10 ^ 14))
unfolding round of_bits
exponents_are = (refl, refl, refl, refl, refl)

circle_are : (PI ≡ round binary64 false 314159265358979323846264338327950288 (10 ^ 35))
    × (FRAC_PI_3 ≡ round binary64 false 104719755119659774615421446109316763 (10 ^ 35))
    × (FRAC_PI_6 ≡ round binary64 false 52359877559829887307710723054658381 (10 ^ 35))
unfolding round of_bits
circle_are = (refl, refl, refl)
