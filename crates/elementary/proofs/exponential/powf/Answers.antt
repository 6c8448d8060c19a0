-- The tests tell the cases of the recipe. Of an infinite base ln is NaN, and so is all after it.
use Rattle.std.proofs.Common.{◌≡◌, Bool, true, false, cond, T, sym, refl, ap, ◌∙◌, subst}
use mathlib.Core.Bool.{false≢true}
use lib.Ieee.{Float, nan, inf, fin, binary64, lt, mul, of_bits}
use lib.Ieee.Scale.{finite}
use Rattle.arithmetic.specs.Basic.{above}
use Rattle.arithmetic.specs.Constants.{zero_d}
use Rattle.arithmetic.specs.Recipes as R
use Rattle.arithmetic.specs.Doubles.{plain, tested}
use Rattle.arithmetic.proofs.Nan.{mul_nan}
use Rattle.arithmetic.proofs.Tests.{below_is, above_is, zero_by_zero}
use Rattle.elementary.proofs.exponential.powf.Goals as goal
use Rattle.elementary.proofs.exponential.powf.Goals.{else-is_finite-via-then-is_finite+then-b+else-is_finite-2, else-is_finite-via-then-is_finite+else-b, else-is_finite-via-else-is_finite}

-- the recipe for a number, by its cases
by_cases : (v b : Float) → finite v ≡ true → R.powf plain v b
    ≡ cond (lt zero_d v) (R.exp plain (mul binary64 b (R.ln plain v))) (cond (lt v zero_d) nan (tested (above zero_d) b zero_d nan))
unfolding R.powf of_bits
by_cases v b e = let p : T (finite v) = subst T (sym e) tt in rw (e, above_is v zero_d p tt, below_is v zero_d p tt)

not_finite : (v b : Float) → finite v ≡ false → nan ≡ R.powf plain v b
unfolding R.powf
not_finite v b e = rw e

infinite : (s : Bool) (b : Float) → R.exp plain (mul binary64 b (R.ln plain (inf s))) ≡ nan
unfolding R.ln R.exp
infinite s b = ap (R.exp plain) (mul_nan b)

over : (v b : Float) → lt zero_d v ≡ true → R.exp plain (mul binary64 b (R.ln plain v)) ≡ R.powf plain v b
over nan b h = absurd (false≢true (unfold lt of_bits in h))
over (inf s) b h = infinite s b ∙ not_finite (inf s) b refl
over (fin s m e) b h = rw (by_cases (fin s m e) b refl, h)

under : (v b : Float) → lt zero_d v ≡ false → lt v zero_d ≡ true → nan ≡ R.powf plain v b
under nan b h k = not_finite nan b refl
under (inf s) b h k = not_finite (inf s) b refl
under (fin s m e) b h k = rw (by_cases (fin s m e) b refl, h, k)

pub returns-then-v : goal.returns-then-v
returns-then-v c =
    c.exp.ensures ∙ ap (λ (l : Float). R.exp plain (mul binary64 c.args.b l)) c.ln.ensures ∙ over c.args.v c.args.b c.if-v.true

pub returns-then-v-2 : goal.returns-then-v-2
returns-then-v-2 c =
    zero_by_zero ∙ under c.args.v c.args.b c.if-v.false c.if-v-2.true

-- a base of zero
module _ (v b : Float) (p : finite v ≡ true) (h : lt zero_d v ≡ false) (k : lt v zero_d ≡ false) where
  at_zero : R.powf plain v b ≡ tested (above zero_d) b zero_d nan
  at_zero = rw (by_cases v b p, h, k)

tested_number : (b x y : Float) → finite b ≡ true → tested (above zero_d) b x y ≡ cond (lt zero_d b) x y
unfolding of_bits
tested_number b x y p = rw (p, above_is b zero_d (subst T (sym p) tt) tt)

either : (b : Float) → lt zero_d b ≡ false → nan ≡ tested (above zero_d) b zero_d nan
either nan h = refl
either (inf s) h = refl
either (fin s m e) h = rw (tested_number (fin s m e) zero_d nan refl, h)

pub returns-then-is_finite-2 : goal.returns-then-is_finite-2
returns-then-is_finite-2 c =
    let v = c.args.v in
    let b = c.args.b in
    rw (at_zero v b (sym c.is_finite.ensures ∙ c.if-is_finite.true) c.if-v.false c.if-v-2.false, tested_number b zero_d nan (sym c.is_finite-then-b.ensures ∙ c.if-is_finite-2.true), c.if-b.true)

pub returns : goal.returns
returns c =
    let v = c.args.v in
    let b = c.args.b in
    let zero : finite v ≡ true → R.powf plain v b ≡ tested (above zero_d) b zero_d nan = λ p. at_zero v b p c.if-v.false c.if-v-2.false in
    zero_by_zero
    ∙ elim c.else-is_finite.branch [
      | else-is_finite-via-then-is_finite+then-b+else-is_finite-2 w ↦ rw (zero (sym c.is_finite.ensures ∙ w.if-is_finite.true), sym w.is_finite-then-b.ensures ∙ w.if-is_finite-2.false)
      | else-is_finite-via-then-is_finite+else-b w ↦ rw (zero (sym c.is_finite.ensures ∙ w.if-is_finite.true)) (either b w.if-b.false)
      | else-is_finite-via-else-is_finite w ↦ not_finite v b (sym c.is_finite.ensures ∙ w.if-is_finite.false)
    ]
