-- The tests tell which case of the definition it is.
use mathlib.Core.Path.{◌≡◌, refl, sym, ap, ◌∙◌}
use Prim.Native.Nat.{ℕ, ◌*◌}
use native.Mathlib.Nat.{mul-pos, eq-zero-or-pos}
use native.Mathlib.Omega.{arith}
use mathlib.Core.Bool.{Bool, true, false, true≢false}
use mathlib.Core.Logic.{inl, inr}
use lib.IntN.{pos}
use lib.Dec.{T, eqb, eqb→eq, not_T}
use lib.Ieee.{Float, nan, inf, fin, binary64, up, down, fits, of_bits, lt, eq}
use lib.Ieee.Bits.{cond_no, of_bits-to_bits}
use lib.Ieee.Fits.{up_pos}
use lib.Ieee.Scale.{finite}
use borrow.Author.Tests.{ltb-false}
use Rattle.std.proofs.lemmas.Float.{T_from_true}
use Rattle.arithmetic.specs.Root.{sqrt}
use Rattle.arithmetic.specs.Rounds.{rounds}
use Rattle.arithmetic.proofs.Next.{real_plus}
use Rattle.arithmetic.proofs.Tests.{zero_by_zero, is_so}
use Rattle.arithmetic.proofs.Zero.{is_zero_is, not_zero, above_zero, positive_pattern}
use Rattle.operations.proofs.root.counted_sqrt.Goals as goal
use Rattle.operations.proofs.root.counted_sqrt.Goals.{else-v-2-via-then-v-2+else-is_finite, else-v-2-via-else-v-2}

-- ---- the cases without a loop
abbrev Is : Float → ℕ → Float → Type 0
Is r k v = (r ≡ sqrt v) × (k ≡ rounds v)

root_of_zero : (v : Float) → T (fits binary64 v) → eq v (of_bits binary64 0) ≡ true → Is v 0 v
unfolding sqrt rounds
root_of_zero v h t = let z = is_zero_is v h t in rw z.1 (go z.0)
  where
    go : (s : Bool) → Is (fin s 0 (pos 0)) 0 (fin s 0 (pos 0))
    go true = (refl, refl)
    go false = (refl, refl)

none_above : (v : Float) → finite v ≡ false → Is nan 0 v
unfolding sqrt rounds
none_above nan f = (refl, refl)
none_above (inf s) f = (refl, refl)
none_above (fin s m e) f = absurd (true≢false f)

none_below : (v : Float) → eq v (of_bits binary64 0) ≡ false → lt (of_bits binary64 0) v ≡ false → Is nan 0 v
unfolding sqrt rounds lt of_bits
none_below nan n l = (refl, refl)
none_below (inf s) n l = (refl, refl)
none_below (fin true m e) n l = (sym (cond_no (eqb m 0) (fin true m e) nan (not_T (eqb m 0) (λ t. not_zero true m e n (eqb→eq m 0 t)))), refl)
none_below (fin false m e) n l =
    elim (eq-zero-or-pos m) [
      | inl z ↦ absurd (not_zero false m e n z)
      | inr p ↦ absurd (omega (arith, ltb-false (0 * down e) (m * up e * 1) l, mul-pos p (up_pos e)))
    ]

-- ---- the needs
pub returns-then-v : goal.returns-then-v
returns-then-v c = root_of_zero c.args.v (T_from_true _ c.well_formed.0.1) c.if-v.true

pub root_bits-r-requires : goal.root_bits-r-requires
root_bits-r-requires c =
    positive_pattern c.args.v (T_from_true _ c.well_formed.0.1) (is_so _ c.args.v c.is_finite.ensures c.if-is_finite.true) (above_zero c.args.v (is_so _ c.args.v c.is_finite.ensures c.if-is_finite.true) c.if-v-2.true)

pub float_from_bits-result : goal.float_from_bits-result
float_from_bits-result c = let r = c.root_bits-r in real_plus binary64 r.result.root (omega (arith, r.ensures.0)) (omega (arith, r.ensures.0))

pub returns-then-is_finite : goal.returns-then-is_finite
returns-then-is_finite c =
    let r = c.root_bits-r.ensures in
    let e = of_bits-to_bits binary64 c.args.v (T_from_true _ c.well_formed.0.1) in
    (r.1 ∙ ap sqrt e, r.2 ∙ ap rounds e)

pub returns : goal.returns
returns c =
    rw zero_by_zero
    (elim c.else-v-2.branch [
      | else-v-2-via-then-v-2+else-is_finite w ↦ none_above c.args.v (sym w.is_finite.ensures ∙ w.if-is_finite.false)
      | else-v-2-via-else-v-2 w ↦ none_below c.args.v c.if-v.false w.if-v-2.false
    ])
