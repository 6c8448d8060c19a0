-- The two cases of a pattern, as proofs/Significand.antt of crate arithmetic has them.
use mathlib.Core.Path.{◌≡◌}
use Prim.Native.Nat.{◌/◌, ◌^◌, ◌<◌}
use native.Mathlib.Omega.{arith}
use Rattle.arithmetic.proofs.Significand.{shift_room, subnormal, normal}
use Rattle.operations.proofs.parts.parts.Goals as goal

low : (c : goal.Then-field-eq0) → c.args.b < 2 ^ 52
low c = omega arith

pub overflow_sub-shift : goal.overflow_sub-shift
overflow_sub-shift c = shift_room c.args.b c.requires.0 (low c)

pub returns-then-field-eq0 : goal.returns-then-field-eq0
returns-then-field-eq0 c = let p = subnormal c.args.b c.requires.0 (low c) in record { bound = p.0; has_value = p.1 }

pub returns : goal.returns
returns c =
    let b = c.args.b in
    let some : b / 2 ^ 52 ≡ 0 → ⊥ = c.if-field-eq0.false in
    let p = normal b (omega arith) c.requires.1 in
    record { bound = p.0; has_value = p.1 }
