-- Zeros by computation; for the rest the code's sum is the next pattern.
use mathlib.Core.Path.{◌≡◌, sym, ap, subst, ◌∙◌}
use Prim.Native.Nat.{ℕ, ◌+◌, ◌-◌, ◌*◌, ◌/◌, ◌^◌}
use native.Mathlib.Omega.{arith}
use mathlib.Core.Bool.{true, false, not}
use lib.Dec.{T}
use lib.Ieee.{Float, binary64, eq, fits, to_bits, of_bits, nan_bits}
use lib.Ieee.Bits.{to_bits-lt}
use Rattle.std.proofs.lemmas.Float.{T_from_true}
use Rattle.arithmetic.specs.Next.{bits_down, next_down}
use Rattle.arithmetic.proofs.Next.{bits_down_is, bits_down_real, next_down_zero, finite_not_nan, pattern_room}
use Rattle.arithmetic.proofs.Tests.{is_so, where_then}
use Rattle.arithmetic.proofs.Zero.{is_zero_is, nonzero_pattern}
use Rattle.operations.proofs.next.next_down.Goals as goal

-- the code's sum is the next pattern
next : (x : Float) → fits binary64 x ≡ true → eq x (of_bits binary64 0) ≡ false → let b = to_bits binary64 x in bits_down binary64 b ≡ b - 1 + b / 2 ^ 63 * 2
next x f z = bits_down_is binary64 (to_bits binary64 x) (to_bits-lt binary64 x (T_from_true _ f)) (nonzero_pattern x (T_from_true _ f) z).0

pub float_from_bits-result : goal.float_from_bits-result
unfolding nan_bits
float_from_bits-result c = tt

pub float_to_bits-b : goal.float_to_bits-b
float_to_bits-b c = finite_not_nan c.args.x (is_so _ c.args.x c.is_finite.ensures c.if-is_finite.true)

pub returns-then-x : goal.returns-then-x
returns-then-x c =
    let z = is_zero_is c.args.x (T_from_true _ c.well_formed.0.1) c.if-x.true in
    sym (ap (next_down binary64) z.1 ∙ next_down_zero z.0)
    ∙ where_then c.is_finite.result c.args.x (next_down binary64 c.args.x) c.is_finite.ensures c.if-is_finite.true

pub overflow_sub-result : goal.overflow_sub-result
overflow_sub-result c = omega (arith, (nonzero_pattern c.args.x (T_from_true _ c.well_formed.0.1) c.if-x.false).0)

pub overflow_mul-result : goal.overflow_mul-result
overflow_mul-result c = omega (arith, pattern_room binary64 c.args.x (T_from_true _ c.well_formed.0.1) (is_so _ c.args.x c.is_finite.ensures c.if-is_finite.true))

pub overflow_add-result-then-is_finite : goal.overflow_add-result-then-is_finite
overflow_add-result-then-is_finite c = omega (arith, pattern_room binary64 c.args.x (T_from_true _ c.well_formed.0.1) (is_so _ c.args.x c.is_finite.ensures c.if-is_finite.true))

pub float_from_bits-result-then-is_finite : goal.float_from_bits-result-then-is_finite
float_from_bits-result-then-is_finite c = let x = c.args.x in subst (λ (b : ℕ). T (not (nan_bits binary64 b))) (next c.args.x c.well_formed.0.1 c.if-x.false) (bits_down_real binary64 x (T_from_true _ c.well_formed.0.1) (is_so _ c.args.x c.is_finite.ensures c.if-is_finite.true))

pub returns-then-is_finite : goal.returns-then-is_finite
unfolding next_down
returns-then-is_finite c =
    ap (of_bits binary64) (sym (next c.args.x c.well_formed.0.1 c.if-x.false))
    ∙ where_then c.is_finite.result c.args.x (next_down binary64 c.args.x) c.is_finite.ensures c.if-is_finite.true
