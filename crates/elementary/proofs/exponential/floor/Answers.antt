-- The laws are in proofs/Floor.antt; the rest says that small whole numbers come back from an i64 as they were.
use Rattle.std.proofs.Common.{◌≡◌, ◌^◌, ◌<◌, true, T, ℤ, pos, negsuc, ◌-ℤ◌, sym, ap, ◌∙◌, subst, w64, SFits, to_z, of_z}
use lib.IntN.{ -ℤ_one}
use lib.Signed.{mag}
use lib.Ieee.{Float, binary64, lt, of_int, to_signed, in_float}
use lib.Ieee.Scale.{finite}
use lib.Ieee.Casts.{to_signed_in}
use mir.ValLaws.{to_z-of_z}
use Rattle.arithmetic.specs.Fraction.{◌≼◌, ◌≺◌, whole}
use Rattle.arithmetic.specs.Value.{value}
use Rattle.arithmetic.specs.Cases.{floor_of}
use Rattle.elementary.proofs.Floor.{floor_normal, normal_word, whole_part, floor_below, floor_above, wide}
use Rattle.elementary.proofs.exponential.floor.Goals as goal

-- the whole part comes back from the i64
back : (x : Float) (r : ℤ) → r ≡ to_signed 63 x → to_z w64 (of_z w64 r) ≡ to_signed 63 x
back x r e = to_z-of_z w64 r (record { sfits = subst (λ (z : ℤ). mag z < 2 ^ 63) (sym e) (to_signed_in 63 x) }) ∙ e

test : (x : Float) (r : ℤ) → r ≡ to_signed 63 x → lt x (of_int binary64 (to_z w64 (of_z w64 r))) ≡ lt x (of_int binary64 (to_signed 63 x))
test x r e = ap (λ (z : ℤ). lt x (of_int binary64 z)) (back x r e)

-- where x lies below its whole part
less : (x : Float) (r : ℤ) → T (finite x) × (whole (negsuc 1021) ≼ value x) × (value x ≺ whole (pos 1024)) → r ≡ to_signed 63 x
    → lt x (of_int binary64 (to_z w64 (of_z w64 r))) ≡ true → floor_of (value x) ≡ to_z w64 (of_z w64 r) -ℤ pos 1
less x r p e h = floor_below x p (sym (test x r e) ∙ h) ∙ sym (-ℤ_one (to_signed 63 x)) ∙ ap (λ (z : ℤ). z -ℤ pos 1) (sym (back x r e))

fits : (x : Float) (r : ℤ) → T (finite x) × (whole (negsuc 1021) ≼ value x) × (value x ≺ whole (pos 1024)) → r ≡ to_signed 63 x
    → lt x (of_int binary64 (to_z w64 (of_z w64 r))) ≡ true → SFits w64 (to_z w64 (of_z w64 r) -ℤ pos 1)
fits x r p e h = subst (λ (z : ℤ). SFits w64 z) (less x r p e h) (normal_word (floor_of (value x)) (floor_normal (value x) p.1 p.2))

pub truncating_f64_to_i64-t-requires : goal.truncating_f64_to_i64-t-requires
truncating_f64_to_i64-t-requires c = let w = wide c.args.x c.requires in record { lower_bound = w.0; upper_bound = w.1 }

pub int_to_float-t : goal.int_to_float-t
int_to_float-t c =
    let t = c.truncating_f64_to_i64-t in
    subst (λ (z : ℤ). T (in_float binary64 z)) (sym (back c.args.x t.result t.ensures)) (whole_part c.args.x c.requires).float

pub overflow_sub-result : goal.overflow_sub-result
overflow_sub-result c = let t = c.truncating_f64_to_i64-t in fits c.args.x t.result c.requires t.ensures c.if-x-t.true

pub returns-then-x-t : goal.returns-then-x-t
returns-then-x-t c =
    let t = c.truncating_f64_to_i64-t in
    to_z-of_z w64 _ (fits c.args.x t.result c.requires t.ensures c.if-x-t.true) ∙ sym (less c.args.x t.result c.requires t.ensures c.if-x-t.true)

pub returns-else-x-t : goal.returns-else-x-t
returns-else-x-t c =
    let t = c.truncating_f64_to_i64-t in
    back c.args.x t.result t.ensures ∙ sym (floor_above c.args.x c.requires (sym (test c.args.x t.result t.ensures) ∙ c.if-x-t.false))
