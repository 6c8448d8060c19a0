-- For a v from -700 to 700, v × E + 0.5 lies well within the exponents of normal doubles: rounding keeps the order, so its ends tell.
use Rattle.std.proofs.Common.{◌≡◌, true, false, T, pos, negsuc, sym, subst, true≢false, leb→le}
use mathlib.Core.Bool.{false≢true}
use lib.Ieee.{Float, nan, inf, fin, binary64, add, mul, le, lt, neg, of_bits, round, sum}
use lib.Ieee.Scale.{finite}
use Rattle.arithmetic.specs.Fraction.{◌≼◌, ◌≺◌, null, whole}
use Rattle.arithmetic.specs.Value.{value}
use Rattle.arithmetic.specs.Constants.{E, half, seven_hundred, minus_seven_hundred}
use Rattle.arithmetic.proofs.Fraction.{≼_trans, ≼-≺-trans}
use Rattle.arithmetic.proofs.Value.{le→≼, finite_between}
use Rattle.arithmetic.proofs.Tests.{not_below}
use Rattle.arithmetic.proofs.Exact.{add_mono, mul_mono}
use Rattle.elementary.proofs.Floor.{Bounded}

pub limited_finite : (v : Float) → lt v minus_seven_hundred ≡ false → le v seven_hundred ≡ true → T (finite v)
unfolding lt le of_bits neg
limited_finite nan a b = false≢true b
limited_finite (inf true) a b = true≢false a
limited_finite (inf false) a b = false≢true b
limited_finite (fin s m e) a b = tt

-- the place of the least and of the greatest v
abbrev pub place : Float → Float
place v = add binary64 (mul binary64 v E) half

place_low : T (finite (mul binary64 minus_seven_hundred E)) × T (finite (place minus_seven_hundred)) × (whole (negsuc 1021) ≼ value (place minus_seven_hundred))
unfolding add mul of_bits neg round sum
place_low = (tt, tt, record { cross = leb→le _ _ tt })

place_high : T (finite (mul binary64 seven_hundred E)) × T (finite (place seven_hundred)) × (value (place seven_hundred) ≺ whole (pos 1024))
unfolding add mul of_bits neg round sum
place_high = (tt, tt, record { cross = leb→le _ _ tt })

pub constants : T (finite E) × T (finite half) × T (finite seven_hundred) × T (finite minus_seven_hundred) × (null ≼ value E)
unfolding of_bits neg
constants = (tt, tt, tt, tt, record { cross = leb→le _ _ tt })

pub place_bounded : (v : Float) → lt v minus_seven_hundred ≡ false → le v seven_hundred ≡ true → Bounded (place v)
place_bounded v a b =
    let k = constants in
    let p = limited_finite v a b in
    let lo : value minus_seven_hundred ≼ value v = not_below v minus_seven_hundred p k.3 a in
    let hi : value v ≼ value seven_hundred = le→≼ v seven_hundred p k.2 (subst T (sym b) tt) in
    let ml = mul_mono minus_seven_hundred v E k.3 p k.0 k.4 lo in
    let mh = mul_mono v seven_hundred E p k.2 k.0 k.4 hi in
    let m : T (finite (mul binary64 v E)) = finite_between (mul binary64 minus_seven_hundred E) (mul binary64 v E) (mul binary64 seven_hundred E) place_low.0 place_high.0 ml mh in
    let al = add_mono (mul binary64 minus_seven_hundred E) (mul binary64 v E) half place_low.0 m k.1 (le→≼ (mul binary64 minus_seven_hundred E) (mul binary64 v E) place_low.0 m ml) in
    let ah = add_mono (mul binary64 v E) (mul binary64 seven_hundred E) half m place_high.0 k.1 (le→≼ (mul binary64 v E) (mul binary64 seven_hundred E) m place_high.0 mh) in
    let f : T (finite (place v)) = finite_between (place minus_seven_hundred) (place v) (place seven_hundred) place_low.1 place_high.1 al ah in
    (f, ≼_trans place_low.2 (le→≼ (place minus_seven_hundred) (place v) place_low.1 f al), ≼-≺-trans (le→≼ (place v) (place seven_hundred) f place_high.1 ah) place_high.2)
