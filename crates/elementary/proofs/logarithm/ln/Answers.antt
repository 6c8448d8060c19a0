-- The tests tell the cases of the recipe.
use Rattle.std.proofs.Common.{◌≡◌, true, false, T, ℤ, neg_ℤ, sym, refl, ap, ◌∙◌, subst, ap₂, arith, w64}
use mathlib.Core.Option.{some}
use lib.Ieee.{Float, nan, inf, fin, binary64, to_bits, of_bits, in_float, lt}
use lib.Ieee.Bits.{of_bits-to_bits, is_true}
use lib.Ieee.Scale.{finite}
use mir.ValLaws.{to_z-of_z}
use Rattle.std.proofs.lemmas.Float.{T_from_true}
use Rattle.arithmetic.specs.Fraction.{◌≺◌, null}
use Rattle.arithmetic.specs.Value.{value}
use Rattle.arithmetic.specs.Cases.{exponent_of}
use Rattle.arithmetic.specs.Constants.{zero_d}
use Rattle.arithmetic.specs.Recipes as R
use Rattle.arithmetic.specs.Doubles.{plain, scaled}
use Rattle.arithmetic.proofs.Fraction.{≼_trans, ≼-≺-trans}
use Rattle.arithmetic.proofs.Value.{lt→≺}
use Rattle.arithmetic.proofs.Zero.{positive_pattern}
use Rattle.arithmetic.proofs.Cases.{exponent_none}
use Rattle.arithmetic.proofs.Tests.{not_below, zero_by_zero, is_so}
use Rattle.elementary.proofs.Words.{float_word}
use Rattle.elementary.proofs.logarithm.ln.Goals as goal
use Rattle.elementary.proofs.logarithm.ln.Goals.{else-v-via-then-v+else-is_finite, else-v-via-else-v}

-- ---- the recipe, by its cases
ln_some : (v : Float) (e : ℤ) → T (finite v) → exponent_of (value v) ≡ some e → R.ln_of plain (scaled v (neg_ℤ e)) e ≡ R.ln plain v
unfolding R.ln
ln_some v e p h = rw (is_true (finite v) p, h)

ln_none : (v : Float) → lt zero_d v ≡ false → nan ≡ R.ln plain v
unfolding R.ln of_bits
ln_none nan h = refl
ln_none (inf s) h = refl
ln_none (fin s m e) h = rw (exponent_none (value (fin s m e)) (≼_trans (not_below zero_d (fin s m e) tt tt h) (omega arith)))

ln_not_finite : (v : Float) → finite v ≡ false → nan ≡ R.ln plain v
unfolding R.ln
ln_not_finite v h = rw h

-- ---- the function
above_zero : (v : Float) → T (finite v) → lt zero_d v ≡ true → null ≺ value v
unfolding of_bits
above_zero v p h = ≼-≺-trans (omega arith) (lt→≺ zero_d v tt p (subst T (sym h) tt))

pub split-p-requires : goal.split-p-requires
split-p-requires c =
    let n = is_so _ c.args.v c.is_finite.ensures c.if-is_finite.true in
    positive_pattern c.args.v (T_from_true _ c.well_formed.0.1) n (above_zero c.args.v n c.if-v.true)

pub ln_of-requires : goal.ln_of-requires
ln_of-requires c = subst (λ (z : ℤ). T (in_float binary64 z)) (sym (to_z-of_z w64 c.split-p.result.e (float_word c.split-p.result.e c.split-p.ensures.2))) c.split-p.ensures.2

pub returns-then-is_finite : goal.returns-then-is_finite
returns-then-is_finite c =
    let v = c.args.v in
    let is : of_bits binary64 (to_bits binary64 v) ≡ v = of_bits-to_bits binary64 v (T_from_true _ c.well_formed.0.1) in
    let e = c.split-p.result.e in
    c.ln_of.ensures
    ∙ ap₂ (λ (m : Float) (k : ℤ). R.ln_of plain m k) (sym c.split-p.ensures.1 ∙ ap (λ (x : Float). scaled x (neg_ℤ e)) is) (to_z-of_z w64 c.split-p.result.e (float_word c.split-p.result.e c.split-p.ensures.2))
    ∙ ln_some v e (is_so _ c.args.v c.is_finite.ensures c.if-is_finite.true) (ap (λ (x : Float). exponent_of (value x)) (sym is) ∙ c.split-p.ensures.0)

pub returns : goal.returns
returns c =
    let v = c.args.v in
    elim c.else-v.branch [
      | else-v-via-then-v+else-is_finite w ↦ zero_by_zero ∙ ln_not_finite v (sym w.is_finite.ensures ∙ w.if-is_finite.false)
      | else-v-via-else-v w ↦ zero_by_zero ∙ ln_none v w.if-v.false
    ]
