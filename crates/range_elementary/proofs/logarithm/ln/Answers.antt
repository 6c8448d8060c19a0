-- The tests tell the cases of e; proofs/Mantissa.antt and proofs/Testing.antt of crate range have the laws.
use mathlib.Core.Path.{◌≡◌, sym, ap, subst, ◌∙◌}
use mathlib.Core.Bool.{true}
use lib.Dec.{T}
use lib.IntN.{ℤ, neg_ℤ}
use borrow.Author.Rules.{rules}
use lib.Ieee.{Float, binary64, fits, in_float, of_bits, to_bits}
use lib.Ieee.Bits.{of_bits-to_bits}
use lib.Ieee.Scale.{finite}
use mir.Syntax.{w64}
use mir.Val.{to_z, of_z}
use mir.ValLaws.{to_z-of_z}
use Rattle.arithmetic.specs.Fraction.{◌≺◌, null}
use Rattle.arithmetic.specs.Value.{value}
use Rattle.arithmetic.specs.Basic.{exponent}
use Rattle.arithmetic.specs.Recipes as R
use Rattle.arithmetic.proofs.Next.{finite_not_nan}
use Rattle.arithmetic.proofs.Zero.{positive_pattern}
use Rattle.elementary.proofs.Words.{float_word}
use Rattle.range.specs.declared.basic.Range.{Range}
use Rattle.range.specs.Rules as Rules
use Rattle.range.specs.Rules.{ok, range, scale}
use Rattle.range.proofs.Corners.{lower_finite, upper_finite}
use Rattle.range.proofs.Testing.{has_ends, failed_step, none_lower, none_upper, two_steps, one_step_is}
use Rattle.range_elementary.proofs.Mantissa.{Split, not_at_most_zero, at_most_zero, scale_exact}
use Rattle.range_elementary.proofs.logarithm.ln.Goals as goal
use Rattle.range_elementary.proofs.logarithm.ln.Goals.{then-not-is_ok-via-then-not-is_ok, then-not-is_ok-via-else-not-is_ok+then-v, then-not-is_ok-via-else-not-is_ok+else-v+then-v-2}

-- the recipe's text for an e
abbrev body : Range → ℤ → Range
body v e = R.ln_of Rules.rules (scale v (neg_ℤ e)) e

lower_number : (v : Range) → ok v ≡ true → T (finite v.lower)
lower_number v h = lower_finite v (has_ends v h)

upper_number : (v : Range) → ok v ≡ true → T (finite v.upper)
upper_number v h = upper_finite v (has_ends v h)

pub returns-then-not-is_ok : goal.returns-then-not-is_ok
unfolding R.ln
returns-then-not-is_ok c =
    let v = c.args.v in
    c.failed.ensures ∙ sym (elim c.then-not-is_ok.branch [
      | then-not-is_ok-via-then-not-is_ok w ↦ failed_step exponent v (body v) (sym c.is_ok.ensures ∙ w.if-not-is_ok.true)
      | then-not-is_ok-via-else-not-is_ok+then-v w ↦ none_lower exponent v (body v) (at_most_zero v.lower (lower_number v (sym c.is_ok.ensures ∙ w.if-not-is_ok.false)) w.if-v.true)
      | then-not-is_ok-via-else-not-is_ok+else-v+then-v-2 w ↦ none_upper exponent v (body v) (at_most_zero v.upper (upper_number v (sym c.is_ok.ensures ∙ w.if-not-is_ok.false)) w.if-v-2.true)
    ])

-- ---- past the tests of the ends
pub float_to_bits-v : goal.float_to_bits-v
float_to_bits-v c = finite_not_nan c.args.v.lower (lower_number c.args.v (sym c.is_ok.ensures ∙ c.if-not-is_ok.false))

pub split-a-requires : goal.split-a-requires
split-a-requires c =
    let v = c.args.v in
    let p = lower_number v (sym c.is_ok.ensures ∙ c.if-not-is_ok.false) in
    positive_pattern v.lower (search rules) p (not_at_most_zero v.lower p c.if-v.false)

pub float_to_bits-v-2 : goal.float_to_bits-v-2
float_to_bits-v-2 c = finite_not_nan c.args.v.upper (upper_number c.args.v (sym c.is_ok.ensures ∙ c.if-not-is_ok.false))

pub split-b-requires : goal.split-b-requires
split-b-requires c =
    let v = c.args.v in
    let p = upper_number v (sym c.is_ok.ensures ∙ c.if-not-is_ok.false) in
    positive_pattern v.upper (search rules) p (not_at_most_zero v.upper p c.if-v-2.false)

-- what `split` ensures of a pattern, of its double
split_of : (x m : Float) (e : ℤ) → T (fits binary64 x) → Split (of_bits binary64 (to_bits binary64 x)) m e → Split x m e
split_of x m e f s = subst (λ (y : Float). Split y m e) (of_bits-to_bits binary64 x f) s

-- as words
differ : (i j : ℤ) → (of_z w64 i ≡ of_z w64 j → ⊥) → i ≡ j → ⊥
differ i j n e = n (ap (of_z w64) e)

back : (e : ℤ) → T (in_float binary64 e) → to_z w64 (of_z w64 e) ≡ e
back e h = to_z-of_z w64 e (float_word e h)

pub returns-then-a-b : goal.returns-then-a-b
unfolding R.ln
returns-then-a-b c =
    let v = c.args.v in
    let a = split_of v.lower c.split-a.result.m c.split-a.result.e (search rules) c.split-a.ensures in
    let b = split_of v.upper c.split-b.result.m c.split-b.result.e (search rules) c.split-b.ensures in
    c.failed-then-a-b.ensures ∙ sym (two_steps exponent v (body v) c.split-a.result.e c.split-b.result.e a.0 b.0
    (differ c.split-a.result.e c.split-b.result.e c.if-a-b.true))

-- ---- one e
module _ (v : Range) (has : ok v ≡ true) (m n : Float) (e j : ℤ) (fl : T (fits binary64 v.lower)) (fu : T (fits binary64 v.upper))
    (lower_above : null ≺ value v.lower) (upper_above : null ≺ value v.upper)
    (lower_is : Split v.lower m e) (upper_split : Split v.upper n j) (h : of_z w64 e ≡ of_z w64 j) where
  same : j ≡ e
  same = sym (back j upper_split.2) ∙ ap (to_z w64) (sym h) ∙ back e lower_is.2

  upper_is : Split v.upper n e
  upper_is = subst (λ (i : ℤ). Split v.upper n i) same upper_split

  scaled_ends : scale v (neg_ℤ e) ≡ range m n
  scaled_ends =
      scale_exact v has (neg_ℤ e) m n fl fu lower_above upper_above lower_is.1 upper_is.1 (lower_is.3, lower_is.4) (upper_is.3, upper_is.4)

pub returns : goal.returns
unfolding R.ln
returns c =
    let v = c.args.v in
    let has : ok v ≡ true = sym c.is_ok.ensures ∙ c.if-not-is_ok.false in
    let m = c.split-a.result.m in
    let n = c.split-b.result.m in
    let e = c.split-a.result.e in
    let j = c.split-b.result.e in
    let fl : T (fits binary64 v.lower) = search rules in
    let fu : T (fits binary64 v.upper) = search rules in
    let la = not_at_most_zero v.lower (lower_number v has) c.if-v.false in
    let ua = not_at_most_zero v.upper (upper_number v has) c.if-v-2.false in
    let a = split_of v.lower m e fl c.split-a.ensures in
    let b = split_of v.upper n j fu c.split-b.ensures in
    let h : of_z w64 e ≡ of_z w64 j = c.if-a-b.false in
    rw (
      one_step_is exponent v (body v) e has a.0 (upper_is v has m n e j fl fu la ua a b h).0,
      scaled_ends v has m n e j fl fu la ua a b h,
      c.ln_of.ensures,
      back e a.2,
    )
