-- Positive ends: the patterns before and behind are the neighbours', both are finite, and none is -0.
use mathlib.Core.Path.{◌≡◌, refl, sym, ap, ap₂, subst, ◌∙◌}
use Prim.Native.Nat.{ℕ, ◌+◌, ◌-◌, ◌<◌}
use native.Mathlib.Omega.{arith}
use mathlib.Core.Bool.{Bool, true, false, cond, ◌&&◌}
use lib.Dec.{T}
use lib.Ieee.{Float, nan, binary64, fits, lt, le, eq, to_bits, of_bits}
use lib.Ieee.Bits.{is_true}
use lib.Ieee.Scale.{finite}
use Rattle.arithmetic.specs.Constants.{largest, zero_d}
use Rattle.arithmetic.specs.Fraction.{◌≺◌, null}
use Rattle.arithmetic.specs.Value.{value}
use Rattle.arithmetic.specs.Next.{next_up, next_down}
use Rattle.arithmetic.proofs.Fraction.{≺-≼-trans}
use Rattle.arithmetic.proofs.Value.{le→≼, lt→le, le_trans, finite_between}
use Rattle.arithmetic.proofs.Next.{bits_up_plus, bits_down_plus, pattern_finite, real_plus, finite_not_nan}
use Rattle.arithmetic.proofs.Zero.{above_zero, positive_pattern, plus_pattern_zero, below_largest}
use Rattle.range.specs.Rules.{range, failed, plus_zero, before, after}
use Rattle.range.specs.Rules as Rules
use Rattle.range.proofs.Positive.{to_largest}
use Rattle.range.proofs.basic.neighbours.Goals as goal

-- ---- the rule of two ends whose patterns are below the infinity's
plus_zero_is : (a : ℕ) → a < 0x7ff0_0000_0000_0000 → plus_zero (of_bits binary64 a) ≡ of_bits binary64 a
plus_zero_is a h = go (eq (of_bits binary64 a) zero_d) refl
  where
    go : (b : Bool) → eq (of_bits binary64 a) zero_d ≡ b → cond b zero_d (of_bits binary64 a) ≡ of_bits binary64 a
    go true e = sym (plus_pattern_zero a h e)
    go false e = refl

ends_are : (a b : ℕ) → a < 0x7ff0_0000_0000_0000 → b < 0x7ff0_0000_0000_0000 → Rules.ends (of_bits binary64 a) (of_bits binary64 b) ≡ range (of_bits binary64 a) (of_bits binary64 b)
unfolding Rules.ends
ends_are a b h k =
    let x = of_bits binary64 a in
    let y = of_bits binary64 b in
    ap₂ (λ (s t : Bool). cond (s && t) (range (plus_zero x) (plus_zero y)) failed) (is_true (finite x) (pattern_finite binary64 a h)) (is_true (finite y) (pattern_finite binary64 b k))
    ∙ ap₂ range (plus_zero_is a h) (plus_zero_is b k)

-- ---- what is asked of the ends
record Positive (l u : Float) : Type 0 where
  fits_l : T (fits binary64 l)
  fits_u : T (fits binary64 u)
  from_zero : T (lt zero_d l)
  in_order : T (le l u)
  below_largest : T (lt u largest)

module _ (l u : Float) (p : Positive l u) where
  zero_le : T (le zero_d l)
  zero_le = lt→le zero_d l p.from_zero

  u_finite : T (finite u)
  u_finite = to_largest u (le_trans zero_d l u zero_le p.in_order) p.below_largest

  l_finite : T (finite l)
  l_finite = finite_between zero_d l u (pattern_finite binary64 0 (omega arith)) u_finite zero_le p.in_order

  l_above : null ≺ value l
  l_above = above_zero l l_finite (is_true (lt zero_d l) p.from_zero)

  l_pattern : (0 < to_bits binary64 l) × (to_bits binary64 l < 0x7ff0_0000_0000_0000)
  l_pattern = positive_pattern l p.fits_l l_finite l_above

  u_pattern : to_bits binary64 u < 0x7fef_ffff_ffff_ffff
  u_pattern = below_largest u p.fits_u u_finite (≺-≼-trans l_above (le→≼ l u l_finite u_finite p.in_order)) (is_true (lt u largest) p.below_largest)

  before_is : before l ≡ of_bits binary64 (to_bits binary64 l - 1)
  unfolding next_down
  before_is =
      ap (λ (b : Bool). cond b (next_down binary64 l) nan) (is_true (finite l) l_finite)
      ∙ ap (of_bits binary64) (bits_down_plus binary64 (to_bits binary64 l) l_pattern.0 (omega (arith, l_pattern.1)))

  after_is : after u ≡ of_bits binary64 (to_bits binary64 u + 1)
  unfolding next_up
  after_is =
      ap (λ (b : Bool). cond b (next_up binary64 u) nan) (is_true (finite u) u_finite)
      ∙ ap (of_bits binary64) (bits_up_plus binary64 (to_bits binary64 u) (omega (arith, u_pattern)))

  neighbours : range (of_bits binary64 (to_bits binary64 l - 1)) (of_bits binary64 (to_bits binary64 u + 1)) ≡ Rules.outwards l u
  unfolding Rules.outwards
  neighbours = sym (ap₂ Rules.ends before_is after_is ∙ ends_are (to_bits binary64 l - 1) (to_bits binary64 u + 1) (omega (arith, l_pattern.1)) (omega (arith, u_pattern)))

-- ---- the needs
asked : (c : goal.Start) → Positive c.args.l c.args.u
asked c = record {
  fits_l = subst T (sym c.well_formed.0.1) tt;
  fits_u = subst T (sym c.well_formed.1.0.1) tt;
  from_zero = c.requires.0;
  in_order = c.requires.1;
  below_largest = c.requires.2;
}

pub float_to_bits-result : goal.float_to_bits-result
float_to_bits-result c = finite_not_nan c.args.l (l_finite c.args.l c.args.u (asked c))

pub overflow_sub-result : goal.overflow_sub-result
overflow_sub-result c = (l_pattern c.args.l c.args.u (asked c)).0

pub float_from_bits-result : goal.float_from_bits-result
float_from_bits-result c = let h = (l_pattern c.args.l c.args.u (asked c)).1 in real_plus binary64 (to_bits binary64 c.args.l - 1) (omega (arith, h)) (omega (arith, h))

pub float_to_bits-result-2 : goal.float_to_bits-result-2
float_to_bits-result-2 c = finite_not_nan c.args.u (u_finite c.args.l c.args.u (asked c))

pub overflow_add-result : goal.overflow_add-result
overflow_add-result c = omega (arith, u_pattern c.args.l c.args.u (asked c))

pub float_from_bits-result-2 : goal.float_from_bits-result-2
float_from_bits-result-2 c = let h = u_pattern c.args.l c.args.u (asked c) in real_plus binary64 (to_bits binary64 c.args.u + 1) (omega (arith, h)) (omega (arith, h))

pub returns : goal.returns
returns c = neighbours c.args.l c.args.u (asked c)
