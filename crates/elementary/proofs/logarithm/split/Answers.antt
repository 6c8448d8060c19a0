-- The laws are in proofs/Reduction.antt; the rest says that the exponent comes back from the i64 as it was.
use Rattle.std.proofs.Common.{◌≡◌, ℕ, suc, ◌+◌, ◌*◌, ◌^◌, ◌<◌, false, T, ℤ, pos, ◌-ℤ◌, neg_ℤ, sym, refl, ap, ◌∙◌, subst, arith, w64, SFits, to_z, of_z}
use mathlib.Core.Option.{some}
use lib.IntN.{sub_ℕ}
use lib.Ieee.{Float, fin, binary64, of_bits, in_float}
use mir.ValLaws.{to_z-of_z}
use Rattle.arithmetic.specs.Fraction.{◌≼◌, ◌⊗◌}
use Rattle.arithmetic.specs.Value.{value}
use Rattle.arithmetic.specs.Cases.{exponent_of}
use Rattle.arithmetic.specs.Doubles.{scaled}
use Rattle.elementary.proofs.PowerOfTwo.{not_nan_bits}
use Rattle.elementary.proofs.Reduction.{split_at}
use Rattle.elementary.proofs.Words.{word, sub_word, sub_float}
use Rattle.elementary.proofs.logarithm.split.Goals as goal

-- an exponent below 2100, less suc k, in an i64
module _ (exp k : ℕ) (h : exp < 2100) (l : k < 2100) where
  is : to_z w64 exp -ℤ pos (suc k) ≡ sub_ℕ exp (suc k)
  is = ap (λ (z : ℤ). z -ℤ pos (suc k)) (word exp (omega arith))

  fits : SFits w64 (to_z w64 exp -ℤ pos (suc k))
  fits = subst (λ (z : ℤ). SFits w64 z) (sym is) (sub_word exp (suc k) (omega arith) (omega arith))

  back : to_z w64 (of_z w64 (to_z w64 exp -ℤ pos (suc k))) ≡ sub_ℕ exp (suc k)
  back = to_z-of_z w64 (to_z w64 exp -ℤ pos (suc k)) fits ∙ is

  float : T (in_float binary64 (sub_ℕ exp (suc k)))
  float = sub_float exp (suc k) (omega arith) (omega arith)

pub float_from_bits-result : goal.float_from_bits-result
float_from_bits-result c = not_nan_bits _ (let e = c.parts-p.ensures.bound in omega arith)

pub float_from_bits-result-else-p-lt6755399441055744 : goal.float_from_bits-result-else-p-lt6755399441055744
float_from_bits-result-else-p-lt6755399441055744 c = not_nan_bits _ (let e = c.parts-p.ensures.bound in omega arith)

-- what is left to show of an m and an e
Split : (b : ℕ) (m : Float) (e : ℤ) → Type 0
Split b m e = (exponent_of (value (of_bits binary64 b)) ≡ some e) × (scaled (of_bits binary64 b) (neg_ℤ e) ≡ m) × T (in_float binary64 e)
    × (value m ≼ value (of_bits binary64 b) ⊗ value (fin false 1 (neg_ℤ e))) × (value (of_bits binary64 b) ⊗ value (fin false 1 (neg_ℤ e)) ≼ value m)

pub returns-then-p-lt6755399441055744 : goal.returns-then-p-lt6755399441055744
unfolding Split
returns-then-p-lt6755399441055744 c =
    let p = c.parts-p in
    let e = p.ensures in
    let sig = p.result.sig in
    let exp = p.result.exp in
    let b = c.args.b in
    let r = split_at b sig exp 1022 52 1074 e.bound.0 e.bound.1 (omega arith) refl refl (omega arith) (omega arith) e.has_value in
    subst (λ (z : ℤ). Split b (of_bits binary64 (sig + 1022 * 2 ^ 52)) z) (sym (back exp 1073 e.bound.2 (omega arith))) (r.0, r.1, float exp 1073 e.bound.2 (omega arith), r.2, r.3)

pub returns-else-p-lt6755399441055744 : goal.returns-else-p-lt6755399441055744
unfolding Split
returns-else-p-lt6755399441055744 c =
    let p = c.parts-p in
    let e = p.ensures in
    let sig = p.result.sig in
    let exp = p.result.exp in
    let b = c.args.b in
    let r = split_at b sig exp 1021 53 1073 e.bound.0 e.bound.1 (omega arith) refl refl (omega arith) (omega arith) e.has_value in
    subst (λ (z : ℤ). Split b (of_bits binary64 (sig + 1021 * 2 ^ 52)) z) (sym (back exp 1072 e.bound.2 (omega arith))) (r.0, r.1, float exp 1072 e.bound.2 (omega arith), r.2, r.3)
