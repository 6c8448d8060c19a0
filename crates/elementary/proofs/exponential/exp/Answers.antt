-- The tests tell the cases of the recipe.
use Rattle.std.proofs.Common.{◌≡◌, true, false, T, ℤ, sym, refl, ap, ◌∙◌, w64, to_z, of_z}
use lib.Ieee.{Float, nan, inf, fin, binary64, lt, le, add, mul}
use lib.Ieee.Bits.{is_true}
use lib.Ieee.Scale.{finite}
use Rattle.arithmetic.specs.Value.{value}
use Rattle.arithmetic.specs.Cases.{floor_of}
use Rattle.arithmetic.specs.Constants.{zero_d, half, E, seven_hundred, minus_seven_hundred}
use Rattle.arithmetic.specs.Recipes as R
use Rattle.arithmetic.specs.Doubles.{plain, where_finite}
use Rattle.arithmetic.proofs.Tests.{below_is, above_is, le_is, zero_by_zero, failed_test, passed_test}
use mir.ValLaws.{to_z-of_z}
use Rattle.elementary.proofs.Floor.{Bounded, floor_normal, normal_word}
use Rattle.elementary.specs.Exponents.{Normal}
use Rattle.elementary.proofs.Place.{constants, place, limited_finite, place_bounded}
use Rattle.elementary.proofs.exponential.exp.Goals as goal

-- ---- the recipe, by its cases
exp_low : (v : Float) → lt v minus_seven_hundred ≡ true → where_finite v zero_d ≡ R.exp plain v
unfolding R.exp
exp_low nan h = refl
exp_low (inf s) h = refl
exp_low (fin s m e) h = rw (below_is (fin s m e) minus_seven_hundred tt constants.3, h)

exp_middle : (v : Float) → T (finite v) → T (finite (add binary64 (mul binary64 v E) half)) → lt v minus_seven_hundred ≡ false → lt seven_hundred v ≡ false → R.exp_of plain v (floor_of (value (add binary64 (mul binary64 v E) half))) ≡ R.exp plain v
unfolding R.exp
exp_middle v p q a b = rw (is_true (finite v) p, below_is v minus_seven_hundred p constants.3, a, above_is v seven_hundred p constants.2, b, is_true (finite (add binary64 (mul binary64 v E) half)) q)

exp_high : (v : Float) → lt v minus_seven_hundred ≡ false → le v seven_hundred ≡ false → nan ≡ R.exp plain v
unfolding R.exp
exp_high nan a b = refl
exp_high (inf s) a b = refl
exp_high (fin s m e) a b = rw (below_is (fin s m e) minus_seven_hundred tt constants.3, a, above_is (fin s m e) seven_hundred tt constants.2, above (fin s m e) tt b)
  where
    above : (x : Float) → T (finite x) → le x seven_hundred ≡ false → lt seven_hundred x ≡ true
    above x p h = passed_test (lt seven_hundred x) (sym (le_is x seven_hundred p constants.2) ∙ h)

-- ---- the function
pub returns-then-v : goal.returns-then-v
returns-then-v c = c.where_finite.ensures ∙ exp_low c.args.v c.if-v.true

pub floor-requires : goal.floor-requires
floor-requires c = place_bounded c.args.v c.if-v.false c.if-v-2.true

-- k is the floor, and comes back from the i64
back : (v : Float) (k : ℤ) → Bounded (place v) → k ≡ floor_of (value (place v)) → Normal (floor_of (value (place v))) × (to_z w64 (of_z w64 k) ≡ floor_of (value (place v)))
back v k b e =
    let n = floor_normal (value (place v)) b.1 b.2 in
    (n, ap (λ (z : ℤ). to_z w64 (of_z w64 z)) e ∙ to_z-of_z w64 _ (normal_word _ n))

pub exp_of-requires : goal.exp_of-requires
exp_of-requires c = let v = c.args.v in let b = back v c.floor.result (place_bounded v c.if-v.false c.if-v-2.true) c.floor.ensures in rw b.1 b.0

pub returns-then-v-2 : goal.returns-then-v-2
returns-then-v-2 c =
    let v = c.args.v in
    let p = limited_finite v c.if-v.false c.if-v-2.true in
    c.exp_of.ensures
    ∙ ap (λ (k : ℤ). R.exp_of plain v k) (back v c.floor.result (place_bounded v c.if-v.false c.if-v-2.true) c.floor.ensures).1
    ∙ exp_middle v p (place_bounded v c.if-v.false c.if-v-2.true).0 c.if-v.false (failed_test (lt seven_hundred v) (sym (le_is v seven_hundred p constants.2) ∙ c.if-v-2.true))

pub returns : goal.returns
returns c = zero_by_zero ∙ exp_high c.args.v c.if-v.false c.if-v-2.false
