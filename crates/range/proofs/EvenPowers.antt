-- The rule of squares and fourth powers holds those of every double and number: an even power is that of the magnitude.
use Prim.Native.Nat.{ℕ, zero, suc}
use native.Mathlib.Omega.{arith}
use mathlib.Core.Path.{◌≡◌, refl, sym, ap, subst, ◌∙◌}
use mathlib.Core.Logic.{inl, inr}
use mathlib.Core.Option.{Option, none, some}
use mathlib.Core.Bool.{Bool, true, false, cond, ◌||◌}
use lib.Dec.{T, eqb, eqb→eq, not_T}
use lib.Ieee.{Float, nan, inf, fin, binary64, neg, mul}
use lib.Ieee.Bits.{is_false}
use Rattle.arithmetic.specs.Fraction.{Fraction, opp, ◌⊗◌}
use Rattle.arithmetic.specs.Fraction as Fraction
use Rattle.arithmetic.specs.Arithmetic.{power_by, product_power}
use Rattle.arithmetic.specs.Constants.{one}
use Rattle.arithmetic.specs.Doubles.{checked, strict}
use Rattle.arithmetic.proofs.Fraction.{◌≈◌, ≈-refl, ≈-sym, ≈-trans, ⊗-cong}
use Rattle.range.specs.declared.basic.Range.{Range}
use Rattle.range.specs.Rules.{rules, point, magnitudes, mul_magnitudes, even_power, powi}
use Rattle.range.specs.Exact.{fractions}
use Rattle.range.specs.Enclosed.{Ok}
use Rattle.range.proofs.Corners.{one_number}
use Rattle.range.proofs.Contained.{Certain, CertainOf, Contained}
use Rattle.range.proofs.Negative.{mul_neg, both_neg}
use Rattle.range.proofs.Failures.{mul_magnitudes_kept, even_power_kept}
use Rattle.range.proofs.Magnitudes.{Above, never_below, mul_magnitudes_certain, Dropped, dropped}
use Rattle.range.proofs.Recipes.{product_power_contained}

-- ---- powers of magnitudes
abbrev power : Range → ℕ → Range
power = power_by (point one) mul_magnitudes

abbrev exact_power : Fraction → ℕ → Fraction
exact_power = power_by Fraction.one ◌⊗◌

module _ (m : Range) (z : Above m) where
  power_above : (k : ℕ) → Ok (power m (suc k)) → Above (power m (suc k))
  unfolding power_by
  power_above zero O = z
  power_above (suc k) O = never_below (power m (suc k)) m O

  power_certain : {d : Float} {q : Fraction} → Certain d m q → (k : ℕ) → Ok (power m (suc k)) → Certain (product_power strict d (suc k)) (power m (suc k)) (exact_power q (suc k))
  unfolding power_by
  power_certain x zero O = x
  power_certain x (suc k) O =
      let w = mul_magnitudes_kept (power m (suc k)) m O in
      mul_magnitudes_certain (power m (suc k)) m w.0 w.1 (power_above k w.0) z (power_certain x k w.0) x O

-- ---- k + 1 factors, an even number: no sign is seen in the result
record Even (k : ℕ) : Type 0 where
  double : (a : Float) → product_power strict (neg a) (suc k) ≡ product_power strict a (suc k)
  number : (v : Fraction) → exact_power (opp v) (suc k) ≈ exact_power v (suc k)
  is : (v : Fraction) → product_power fractions (some v) (suc k) ≡ some (exact_power v (suc k))
  missing : product_power fractions none (suc k) ≡ none

twice_opposite : (u v : Fraction) → u ⊗ opp v ⊗ opp v ≈ u ⊗ v ⊗ v
twice_opposite u v = (record { cross = omega arith }, record { cross = omega arith })

opposite_square : (v : Fraction) → opp v ⊗ opp v ≈ v ⊗ v
opposite_square v = (record { cross = omega arith }, record { cross = omega arith })

checked_neg : (x : Float) → checked (neg x) ≡ neg (checked x)
unfolding neg
checked_neg nan = refl
checked_neg (inf s) = refl
checked_neg (fin s m e) = refl

two : Even 1
unfolding power_by
two = record { double = λ a. ap checked (both_neg a a); number = opposite_square; is = λ v. refl; missing = refl }

four : Even 3
unfolding power_by
four = record { double = fourth; number = λ v. ≈-trans (twice_opposite (opp v ⊗ opp v) v) (⊗-cong (⊗-cong (opposite_square v) (≈-refl v)) (≈-refl v)); is = λ v. refl; missing = refl }
  where
    third : (a : Float) → checked (mul binary64 (checked (mul binary64 (neg a) (neg a))) (neg a)) ≡ neg (checked (mul binary64 (checked (mul binary64 a a)) a))
    third a = ap (λ (x : Float). checked (mul binary64 (checked x) (neg a))) (both_neg a a) ∙ ap checked (mul_neg _ a) ∙ checked_neg _

    fourth : (a : Float) → checked (mul binary64 (checked (mul binary64 (checked (mul binary64 (neg a) (neg a))) (neg a))) (neg a)) ≡ checked (mul binary64 (checked (mul binary64 (checked (mul binary64 a a)) a)) a)
    fourth a = ap (λ (x : Float). checked (mul binary64 x (neg a))) (third a) ∙ ap checked (both_neg _ a)

-- ---- the rule
module _ (k : ℕ) (even : Even k) where
  -- the power of the magnitudes is that of the double and of the number
  module _ {a : Float} {p : Fraction} {m : Range} (d : Dropped a p m) where
    power_of_double : product_power strict d.double (suc k) ≡ product_power strict a (suc k)
    power_of_double = elim d.of_double [ inl e ↦ ap (λ (x : Float). product_power strict x (suc k)) e | inr e ↦ ap (λ (x : Float). product_power strict x (suc k)) e ∙ even.double a ]

    power_of_exact : exact_power p (suc k) ≈ exact_power d.exact (suc k)
    power_of_exact = elim d.of_exact [
      | inl e ↦ subst (λ (q : Fraction). exact_power p (suc k) ≈ exact_power q (suc k)) (sym e) (≈-refl _)
      | inr e ↦ subst (λ (q : Fraction). exact_power p (suc k) ≈ exact_power q (suc k)) (sym e) (≈-sym (even.number p))
    ]

    restored : {t : Range} → Certain (product_power strict d.double (suc k)) t (exact_power d.exact (suc k)) → Certain (product_power strict a (suc k)) t (exact_power p (suc k))
    restored {t} x =
        let y = subst (λ (b : Float). Certain b t (exact_power d.exact (suc k))) power_of_double x in
        record { double = y.double; number = y.number; ends = y.ends; near = y.near; exact = one_number power_of_exact y.exact }

  module _ (a : Float) (r : Range) where
    certain_of : (o : Option Fraction) → Ok r → CertainOf a r o → Ok (even_power r (suc k)) → CertainOf (product_power strict a (suc k)) (even_power r (suc k)) (product_power fractions o (suc k))
    unfolding even_power
    certain_of none A x O = absurd x
    certain_of (some p) A x O =
        let d = dropped a r p A x in
        rw (even.is p) (restored d (power_certain (magnitudes r) d.above d.certain k O))

    even_power_contained : (o : Option Fraction) → Contained a r o → Contained (product_power strict a (suc k)) (even_power r (suc k)) (product_power fractions o (suc k))
    even_power_contained o x = record { where_ok = λ O. let A = even_power_kept r k O in certain_of o A (x.where_ok A) O }

-- any other power is a product
pub other_powers : (r : Range) (n : ℕ) → (n ≡ 2 → ⊥) → (n ≡ 4 → ⊥) → powi r n ≡ product_power rules r n
unfolding powi
other_powers r n h i = rw (differ 2 h, differ 4 i)
  where
    differ : (k : ℕ) → (n ≡ k → ⊥) → eqb n k ≡ false
    differ k h = is_false (eqb n k) (not_T (eqb n k) (λ t. h (eqb→eq n k t)))

pub powi_contained : {a : Float} {r : Range} {o : Option Fraction} (n : ℕ) → Contained a r o → Contained (product_power strict a n) (powi r n) (product_power fractions o n)
unfolding powi
powi_contained {a} {r} {o} n x = go (eqb n 2) (eqb n 4) (eqb→eq n 2) (eqb→eq n 4)
  where
    go : (i j : Bool) → (T i → n ≡ 2) → (T j → n ≡ 4) → Contained (product_power strict a n) (cond (i || j) (even_power r n) (product_power rules r n)) (product_power fractions o n)
    go true j I J = subst (λ (k : ℕ). Contained (product_power strict a k) (even_power r k) (product_power fractions o k)) (sym (I tt)) (even_power_contained 1 two a r o x)
    go false true I J = subst (λ (k : ℕ). Contained (product_power strict a k) (even_power r k) (product_power fractions o k)) (sym (J tt)) (even_power_contained 3 four a r o x)
    go false false I J = product_power_contained n x
