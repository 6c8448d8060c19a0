-- The constants of document 01's recipes as doubles, by their bit patterns, each with the number that it is the nearest double to.
use Rattle.std.specs.Prelude.{◌≡◌, refl, true, false, List, [], ◌∷◌, ℕ, zero, suc, ◌+◌, ◌*◌, ◌^◌, Float}
use Rattle.std.specs.Float.{binary64}
use Rattle.std.specs.Float.Ieee.{of_bits, round, neg}

abbrev pub bits : ℕ → Float
bits b = of_bits binary64 b

abbrev pub zero_d : Float
zero_d = bits 0x0000000000000000

-- the largest double
abbrev pub largest : Float
largest = bits 0x7FEFFFFFFFFFFFFF

abbrev pub half : Float
half = bits 0x3FE0000000000000

abbrev pub one : Float
one = bits 0x3FF0000000000000

abbrev pub two : Float
two = bits 0x4000000000000000

-- the limits of ln_1p, exp and tanh
abbrev pub quarter : Float
quarter = bits 0x3FD0000000000000

abbrev pub minus_quarter : Float
minus_quarter = neg quarter

abbrev pub minus_one : Float
minus_one = neg one

abbrev pub seven_hundred : Float
seven_hundred = bits 0x4085E00000000000

abbrev pub minus_seven_hundred : Float
minus_seven_hundred = neg seven_hundred

abbrev pub twenty : Float
twenty = bits 0x4034000000000000

abbrev pub minus_twenty : Float
minus_twenty = neg twenty

-- L, the double of ln 2; E, the double of log2 e; H and G, ln 2 in two parts
abbrev pub L : Float
L = bits 0x3FE62E42FEFA39EF

abbrev pub E : Float
E = bits 0x3FF71547652B82FE

abbrev pub H : Float
H = bits 0x3FE62E42FEE00000

abbrev pub G : Float
G = bits 0x3DEA39EF35793C76

-- 1 / (2k + 1), k from 1 to 12; for k = 0 it is `one`
abbrev pub odd_reciprocals : List Float
odd_reciprocals =
    bits 0x3FD5555555555555 ∷
    bits 0x3FC999999999999A ∷
    bits 0x3FC2492492492492 ∷
    bits 0x3FBC71C71C71C71C ∷
    bits 0x3FB745D1745D1746 ∷
    bits 0x3FB3B13B13B13B14 ∷
    bits 0x3FB1111111111111 ∷
    bits 0x3FAE1E1E1E1E1E1E ∷
    bits 0x3FAAF286BCA1AF28 ∷
    bits 0x3FA8618618618618 ∷
    bits 0x3FA642C8590B2164 ∷
    bits 0x3FA47AE147AE147B ∷
    []

-- 1 / j!, j from 1 to 13; for j = 0 it is `one`
abbrev pub factorial_reciprocals : List Float
factorial_reciprocals =
    bits 0x3FF0000000000000 ∷
    bits 0x3FE0000000000000 ∷
    bits 0x3FC5555555555555 ∷
    bits 0x3FA5555555555555 ∷
    bits 0x3F81111111111111 ∷
    bits 0x3F56C16C16C16C17 ∷
    bits 0x3F2A01A01A01A01A ∷
    bits 0x3EFA01A01A01A01A ∷
    bits 0x3EC71DE3A556C734 ∷
    bits 0x3E927E4FB7789F5C ∷
    bits 0x3E5AE64567F544E4 ∷
    bits 0x3E21EED8EFF8D898 ∷
    bits 0x3DE6124613A86D09 ∷
    []

-- ---- each is the double nearest to its number
-- f 1, .., f n
abbrev from1_to : ℕ → (ℕ → Float) → List Float
from1_to zero f = []
from1_to (suc n) f = f 1 ∷ from1_to n (λ k. f (suc k))

abbrev pub factorial : ℕ → ℕ
factorial zero = 1
factorial (suc n) = suc n * factorial n

odd_are : odd_reciprocals ≡ from1_to 12 (λ k. round binary64 false 1 (2 * k + 1))
unfolding round of_bits
odd_are = refl

factorial_are : factorial_reciprocals ≡ from1_to 13 (λ j. round binary64 false 1 (factorial j))
unfolding round of_bits
factorial_are = refl

small_are : (zero_d ≡ round binary64 false 0 1) × (half ≡ round binary64 false 1 2) × (one ≡ round binary64 false 1 1) × (two ≡ round binary64 false 2 1)
unfolding round of_bits
small_are = (refl, refl, refl, refl)

limits_are : (quarter ≡ round binary64 false 1 4) × (minus_quarter ≡ round binary64 true 1 4) × (minus_one ≡ round binary64 true 1 1) × (seven_hundred ≡ round binary64 false 700 1)
    × (minus_seven_hundred ≡ round binary64 true 700 1) × (twenty ≡ round binary64 false 20 1) × (minus_twenty ≡ round binary64 true 20 1)
unfolding round of_bits neg
limits_are = (refl, refl, refl, refl, refl, refl, refl)

-- ln 2 = 0.693147180559945309417232121458.., log2 e = 1.442695040888963407359924681001..
logarithms_are : (L ≡ round binary64 false 0_693147180559945309417232121458 (10 ^ 30)) × (E ≡ round binary64 false 1_442695040888963407359924681001 (10 ^ 30))
unfolding round of_bits
logarithms_are = (refl, refl)

-- 6.93147180369123816490e-01 and 1.90821492927058770002e-10
parts_are : (H ≡ round binary64 false 693147180369123816490 (10 ^ 21)) × (G ≡ round binary64 false 190821492927058770002 (10 ^ 30))
unfolding round of_bits
parts_are = (refl, refl)
