-- The tests tell whether both ends have the floor k; proofs/Place.antt has the laws.
use mathlib.Core.Path.{◌≡◌, sym, ap, subst, ◌∙◌}
use mathlib.Core.Bool.{true, false, not, true≢false, false≢true}
use lib.Dec.{T}
use lib.IntN.{ℤ, pos, suc_ℤ, ◌+ℤ◌, +ℤ-suc_ℤ, +ℤ_idr}
use borrow.Author.Rules.{rules}
use lib.Ieee.{binary64, fits, lt, le, of_int, in_float}
use mir.Syntax.{w64}
use mir.Val.{SFits, to_z, of_z}
use mir.ValLaws.{to_z-of_z}
use Rattle.arithmetic.specs.Fraction.{◌≼◌, ◌≺◌, whole}
use Rattle.arithmetic.specs.Value.{value}
use Rattle.arithmetic.specs.Cases.{floor_of}
use Rattle.arithmetic.specs.Basic.{floor}
use Rattle.arithmetic.specs.Constants as K
use Rattle.arithmetic.specs.Recipes as R
use Rattle.arithmetic.proofs.Fraction.{≼_trans, ≺-≼-trans}
use Rattle.arithmetic.proofs.Value.{lt→≺, le→≼}
use Rattle.arithmetic.proofs.Tests.{le_is, not_below, not_at_least}
use Rattle.arithmetic.proofs.Exact.{whole_exact}
use Rattle.elementary.proofs.Floor.{Bounded, floor_normal, normal_float, normal_word, next_float, next_word}
use Rattle.elementary.specs.Exponents.{Normal}
use Rattle.elementary.proofs.Place.{constants, place, place_bounded}
use Rattle.range.specs.declared.basic.Range.{Range}
use Rattle.range.specs.Rules as Rules
use Rattle.range.specs.Rules.{ok}
use Rattle.range.proofs.Corners.{In, lower_finite, upper_finite}
use Rattle.range.proofs.Testing.{has_ends, failed_step}
use Rattle.range_elementary.proofs.Place.{places, place_in, one_floor, floor_below, floor_above}
use Rattle.range_elementary.proofs.exponential.exp_between.Goals as goal
use Rattle.range_elementary.proofs.exponential.exp_between.Goals.{then-not-is_ok-via-then-not-is_ok, then-not-is_ok-via-else-not-is_ok+then-v, then-not-is_ok-via-else-not-is_ok+else-v+then-not-v, then-place-k-via-then-place-k, then-place-k-via-else-place-k+then-k-place}

-- what is not worked
pub returns-then-not-is_ok : goal.returns-then-not-is_ok
returns-then-not-is_ok c =
    let v = c.args.v in
    let is : c.add-place.result ≡ places v = rw (c.add-place.ensures, c.from-2.ensures, c.mul.ensures, c.from.ensures) in
    λ a l h. elim c.then-not-is_ok.branch [
      | then-not-is_ok-via-then-not-is_ok w ↦ c.failed.ensures ∙ sym (failed_step floor (places v) (λ k. R.exp_of Rules.rules v k) (ap ok (sym is) ∙ sym c.is_ok.ensures ∙ w.if-not-is_ok.true))
      | then-not-is_ok-via-else-not-is_ok+then-v w ↦ absurd (true≢false (sym w.if-v.true ∙ l))
      | then-not-is_ok-via-else-not-is_ok+else-v+then-not-v w ↦ absurd (false≢true (sym w.if-not-v.true ∙ le_is v.lower K.seven_hundred (lower_finite v (has_ends v a)) constants.2 ∙ ap not h))
    ]

-- ---- past the tests of the lower end: its k
bounded : (v : Range) → lt v.lower K.minus_seven_hundred ≡ false → le v.lower K.seven_hundred ≡ true → Bounded (place v.lower)
bounded v l h = place_bounded v.lower l h

abbrev k : Range → ℤ
k v = floor_of (value (place v.lower))

k_normal : (v : Range) → Bounded (place v.lower) → Normal (k v)
k_normal v b = floor_normal (value (place v.lower)) b.1 b.2

holds : (v : Range) → T (fits binary64 v.lower) → ok (places v) ≡ true → Bounded (place v.lower) → In (places v) (value (place v.lower))
holds v f o b = place_in v f (has_ends (places v) o) b.0

-- k and k + 1, through the i64 i
module _ (v : Range) (b : Bounded (place v.lower)) (i : ℤ) (e : i ≡ k v) where
  k_back : to_z w64 (of_z w64 i) ≡ k v
  k_back = ap (λ (z : ℤ). to_z w64 (of_z w64 z)) e ∙ to_z-of_z w64 (k v) (normal_word (k v) (k_normal v b))

  next : to_z w64 (of_z w64 i) +ℤ pos 1 ≡ suc_ℤ (k v)
  next = ap (λ (z : ℤ). z +ℤ pos 1) k_back ∙ +ℤ-suc_ℤ (k v) (pos 0) ∙ ap suc_ℤ (+ℤ_idr (k v))

  next_fits : SFits w64 (to_z w64 (of_z w64 i) +ℤ pos 1)
  next_fits = subst (λ (z : ℤ). SFits w64 z) (sym next) (next_word (k v) (k_normal v b))

  next_back : to_z w64 (of_z w64 (to_z w64 (of_z w64 i) +ℤ pos 1)) ≡ suc_ℤ (k v)
  next_back = to_z-of_z w64 (to_z w64 (of_z w64 i) +ℤ pos 1) next_fits ∙ next

-- the ends as the code has them, compared with a whole number j that a double z holds
module _ (v ends : Range) (o : ok (places v) ≡ true) (is : ends ≡ places v) (j : ℤ) (J : T (in_float binary64 j)) (z : ℤ) (e : z ≡ j) where
  lower_less : lt ends.lower (of_int binary64 z) ≡ true → value (places v).lower ≺ whole j
  lower_less t =
      let w = whole_exact j J in
      let u : lt (places v).lower (of_int binary64 j) ≡ true = rw (← is, ← e) t in
      ≺-≼-trans (lt→≺ (places v).lower (of_int binary64 j) (lower_finite (places v) (has_ends (places v) o)) w.0 (subst T (sym u) tt)) w.1

  lower_not : lt ends.lower (of_int binary64 z) ≡ false → whole j ≼ value (places v).lower
  lower_not t =
      let w = whole_exact j J in
      ≼_trans w.2 (not_below (places v).lower (of_int binary64 j) (lower_finite (places v) (has_ends (places v) o)) w.0 (rw (← is, ← e) t))

  upper_at_least : le (of_int binary64 z) ends.upper ≡ true → whole j ≼ value (places v).upper
  upper_at_least t =
      let w = whole_exact j J in
      let u : le (of_int binary64 j) (places v).upper ≡ true = rw (← is, ← e) t in
      ≼_trans w.2 (le→≼ (of_int binary64 j) (places v).upper w.0 (upper_finite (places v) (has_ends (places v) o)) (subst T (sym u) tt))

  upper_less : le (of_int binary64 z) ends.upper ≡ false → value (places v).upper ≺ whole j
  upper_less t =
      let w = whole_exact j J in
      let u = upper_finite (places v) (has_ends (places v) o) in
      ≺-≼-trans (not_at_least (of_int binary64 j) (places v).upper w.0 u (rw (← is, ← e) t)) w.1

pub floor-k-requires : goal.floor-k-requires
floor-k-requires c = bounded c.args.v c.if-v.false c.if-not-v.false

pub int_to_float-k : goal.int_to_float-k
int_to_float-k c =
    let v = c.args.v in
    let b = bounded v c.if-v.false c.if-not-v.false in
    subst (λ (z : ℤ). T (in_float binary64 z)) (sym (k_back v b c.floor-k.result c.floor-k.ensures)) (normal_float (k v) (k_normal v b))

pub returns-then-place-k : goal.returns-then-place-k
returns-then-place-k c =
    let v = c.args.v in
    let is : c.add-place.result ≡ places v = rw (c.add-place.ensures, c.from-2.ensures, c.mul.ensures, c.from.ensures) in
    let o : ok (places v) ≡ true = ap ok (sym is) ∙ sym c.is_ok.ensures ∙ c.if-not-is_ok.false in
    let b = bounded v c.if-v.false c.if-not-v.false in
    let inside = holds v (search rules) o b in
    let e = c.floor-k.ensures in
    λ a l h. c.failed-then-place-k.ensures ∙ sym (elim c.then-place-k.branch [
      | then-place-k-via-then-place-k w ↦
          floor_below (places v) o (value (place v.lower)) inside (λ j. R.exp_of Rules.rules v j)
          (lower_less v c.add-place.result o is (k v) (normal_float (k v) (k_normal v b)) _ (k_back v b c.floor-k.result e) w.if-place-k.true)
      | then-place-k-via-else-place-k+then-k-place w ↦
          floor_above (places v) o (value (place v.lower)) inside (λ j. R.exp_of Rules.rules v j)
          (upper_at_least v c.add-place.result o is (suc_ℤ (k v)) (next_float (k v) (k_normal v b)) _ (next_back v b c.floor-k.result e) w.if-k-place.true)
    ])

pub overflow_add-k : goal.overflow_add-k
overflow_add-k c = next_fits c.args.v (bounded c.args.v c.if-v.false c.if-not-v.false) c.floor-k.result c.floor-k.ensures

pub int_to_float-k-else-place-k : goal.int_to_float-k-else-place-k
int_to_float-k-else-place-k c =
    let v = c.args.v in
    let b = bounded v c.if-v.false c.if-not-v.false in
    subst (λ (z : ℤ). T (in_float binary64 z)) (sym (next_back v b c.floor-k.result c.floor-k.ensures)) (next_float (k v) (k_normal v b))

pub exp_of-requires : goal.exp_of-requires
exp_of-requires c =
    let v = c.args.v in
    let b = bounded v c.if-v.false c.if-not-v.false in
    rw (k_back v b c.floor-k.result c.floor-k.ensures) (k_normal v b)

pub returns : goal.returns
returns c =
    let v = c.args.v in
    let is : c.add-place.result ≡ places v = rw (c.add-place.ensures, c.from-2.ensures, c.mul.ensures, c.from.ensures) in
    let o : ok (places v) ≡ true = ap ok (sym is) ∙ sym c.is_ok.ensures ∙ c.if-not-is_ok.false in
    let b = bounded v c.if-v.false c.if-not-v.false in
    let back = k_back v b c.floor-k.result c.floor-k.ensures in
    let least = lower_not v c.add-place.result o is (k v) (normal_float (k v) (k_normal v b)) _ back c.if-place-k.false in
    let less = upper_less v c.add-place.result o is (suc_ℤ (k v)) (next_float (k v) (k_normal v b)) _ (next_back v b c.floor-k.result c.floor-k.ensures) c.if-k-place.false in
    λ a l h. c.exp_of.ensures ∙ ap (λ (j : ℤ). R.exp_of Rules.rules v j) back
    ∙ sym (one_floor (places v) o (value (place v.lower)) (holds v (search rules) o b) (λ j. R.exp_of Rules.rules v j) least less)
