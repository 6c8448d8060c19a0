-- The k of exp for a range: both ends of the range of v × E + 0.5 must have it as their floor. That range holds the double that the lower end of v gives, also where the ends
-- of v are the wrong way round; so no other k can serve than that double's.
use mathlib.Core.Path.{◌≡◌, refl, sym, ap, subst, ◌∙◌}
use mathlib.Core.Bool.{Bool, true, false, cond}
use mathlib.Core.Option.{some, some_inj}
use lib.IntN.{ℤ, suc_ℤ}
use lib.Dec.{T}
use lib.Ieee.{Float, binary64, fits, eq, of_bits, mul}
use lib.Ieee.Bits.{is_true}
use lib.Ieee.Fits.{and_l, mul-fits}
use lib.Ieee.Scale.{finite}
use Rattle.arithmetic.specs.Fraction.{Fraction, ◌≼◌, ◌≺◌, ◌⊗◌, whole}
use Rattle.arithmetic.specs.Value.{value, Within}
use Rattle.arithmetic.specs.Cases.{floor_of}
use Rattle.arithmetic.specs.Basic.{floor}
use Rattle.arithmetic.specs.Constants as K
use Rattle.arithmetic.specs.Doubles.{checked, strict}
use Rattle.arithmetic.proofs.Fraction.{≼_trans, ≼-≺-trans, ≺-not-≼}
use Rattle.arithmetic.proofs.Cases.{floor_in, floor_is, pick_convex}
use Rattle.arithmetic.proofs.Agreement.{agreement}
use Rattle.arithmetic.proofs.Enclosure.{Rounds}
use Rattle.elementary.proofs.Place.{place}
use Rattle.range.specs.declared.basic.Range.{Range}
use Rattle.range.specs.Rules.{range, failed, zero, ok, is_zero, outwards, four, point, ends, step, before, after}
use Rattle.range.specs.Rules as Rules
use Rattle.range.specs.Enclosed.{Ok}
use Rattle.range.proofs.Corners.{In, AtEnds, lowest, highest, before_fits, after_fits, low_corners, high_corners, product_ends}
use Rattle.arithmetic.proofs.Agreement.{checked_is}
use Rattle.range.proofs.Contained.{Certain, Contained, zero_doubles, zero_ok, zero_value, in_zero, rounded_range_certain, rounded_ends_certain, constant_contained}
use Rattle.range.proofs.Operations.{zero_times, add_contained}
use Rattle.range.proofs.Testing.{has_ends, one_step_is, two_steps}

abbrev pub places : Range → Range
places v = Rules.add (Rules.mul v (point K.E)) (point K.half)

-- ---- v × E
E_point : point K.E ≡ range K.E K.E
unfolding point ends of_bits fits eq
E_point = refl

E_ok : ok (range K.E K.E) ≡ true
unfolding of_bits
E_ok = refl

E_nonzero : is_zero (range K.E K.E) ≡ false
unfolding of_bits eq
E_nonzero = refl

module _ (v : Range) (fl : T (fits binary64 v.lower)) where
  module _ (A : Ok v) where
    corners : AtEnds (λ x y. Rounds binary64 (mul binary64 x y) (value x ⊗ value y)) v (range K.E K.E)
    corners = product_ends v (range K.E K.E) A (has_ends (range K.E K.E) E_ok)

    abbrev product_if : (zero? : Bool) → Range
    product_if i = cond i zero (four (mul binary64) v (range K.E K.E))

    product : (i : Bool) → (T i → T (is_zero v)) → Ok (product_if i) → Certain (checked (mul binary64 v.lower K.E)) (product_if i) (value v.lower ⊗ value K.E)
    unfolding four outwards
    product true I O =
        let z = in_zero (zero_times (value K.E) (zero_value v.lower fl (is_true (eq v.lower K.zero_d) (and_l (eq v.lower K.zero_d) (eq v.upper K.zero_d) (I tt))))) in
        rounded_range_certain (mul binary64 v.lower K.E) (value v.lower ⊗ value K.E) (value v.lower ⊗ value K.E) corners.low_low zero zero_doubles zero_ok z z
    product false I O =
        let l = lowest (mul binary64) v (range K.E K.E) in
        let h = highest (mul binary64) v (range K.E K.E) in
        rounded_ends_certain (mul binary64 v.lower K.E) (value v.lower ⊗ value K.E) (value v.lower ⊗ value K.E) corners.low_low (before l) (after h) (before_fits l) (after_fits h)
        (λ L H.
        let w : Within (before l) (after h) (value v.lower ⊗ value K.E) = record {
          low = (low_corners (mul binary64) ◌⊗◌ (mul-fits binary64) v (range K.E K.E) corners L).low_low;
          high = (high_corners (mul binary64) ◌⊗◌ (mul-fits binary64) v (range K.E K.E) corners H).low_low;
        } in (w, w)) O

  product_contained : Contained (checked (mul binary64 v.lower K.E)) (Rules.mul v (point K.E)) (some (value v.lower ⊗ value K.E))
  unfolding Rules.mul
  product_contained = record { where_ok = rw (E_point, E_ok, E_nonzero) (go (ok v) (λ t. t)) }
    where
      P : Range
      P = cond (is_zero v) zero (four (mul binary64) v (range K.E K.E))

      go : (b : Bool) → (T b → Ok v) → Ok (cond b P failed) → Certain (checked (mul binary64 v.lower K.E)) (cond b P failed) (value v.lower ⊗ value K.E)
      go true A O = product (A tt) (is_zero v) (λ t. t) O
      go false A O = absurd O

  -- ---- v × E + 0.5
  pub place_in : Ok (places v) → T (finite (place v.lower)) → In (places v) (value (place v.lower))
  place_in O F =
      let c = (add_contained product_contained (constant_contained K.half)).where_ok O in
      let e : checked (place v.lower) ≡ strict.add (checked (mul binary64 v.lower K.E)) (checked K.half) = (agreement.add (record { is = refl }) (record { is = refl })).is in
      subst (λ (x : Float). In (places v) (value x)) (sym e ∙ checked_is (place v.lower) F) c.near

-- ---- one floor for both ends
module _ (r : Range) (O : ok r ≡ true) (q : Fraction) (w : In r q) (f : ℤ → Range) where
  pub one_floor : whole (floor_of q) ≼ value r.lower → value r.upper ≺ whole (suc_ℤ (floor_of q)) → step floor r f ≡ f (floor_of q)
  one_floor l h =
      let i = floor_in q in
      let a = floor_is (value r.lower) (floor_of q) (record { low = l; high = ≼-≺-trans w.low i.high }) in
      let b = floor_is (value r.upper) (floor_of q) (record { low = ≼_trans i.low w.high; high = h }) in
      one_step_is floor r f (floor_of q) O (ap some a) (ap some b)

  -- where the floors were the same, q's would be the same too
  same_floor : floor_of (value r.lower) ≡ floor_of (value r.upper) → (floor_of (value r.lower) ≡ floor_of q) × (floor_of (value r.upper) ≡ floor_of q)
  same_floor e =
      let k : floor_of q ≡ floor_of (value r.lower) = some_inj.0 (pick_convex floor (floor_of (value r.lower)) w.low w.high refl (ap some (sym e))) in
      (sym k, sym e ∙ sym k)

  pub floor_below : value r.lower ≺ whole (floor_of q) → step floor r f ≡ failed
  floor_below h = two_steps floor r f _ _ refl refl (λ e. ≺-not-≼ h (subst (λ (k : ℤ). whole k ≼ value r.lower) (same_floor e).0 (floor_in (value r.lower)).low))

  pub floor_above : whole (suc_ℤ (floor_of q)) ≼ value r.upper → step floor r f ≡ failed
  floor_above h = two_steps floor r f _ _ refl refl (λ e. ≺-not-≼ (subst (λ (k : ℤ). value r.upper ≺ whole (suc_ℤ k)) (same_floor e).1 (floor_in (value r.upper)).high) h)
