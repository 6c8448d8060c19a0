-- The root keeps the order of doubles, so the root of a range holds the root of each double in it; and a choice between its ends is between them.
use Prim.Native.Nat.{ℕ, zero, suc, ◌*◌, ◌≤◌, ◌<◌}
use native.Mathlib.Omega.{arith}
use mathlib.Core.Path.{◌≡◌, refl}
use mathlib.Core.Logic.{inl, inr}
use mathlib.Core.Option.{Option, none, some}
use mathlib.Core.Bool.{Bool, true, false, not, cond, ◌&&◌}
use lib.Dec.{T, eqb}
use lib.IntN.{pos}
use lib.Ieee.{Float, nan, inf, fin, binary64, fits, lt, up}
use lib.Ieee.Fits.{up_pos}
use lib.Ieee.Scale.{finite}
use lib.Ieee.Bits.{is_true}
use Rattle.arithmetic.specs.Fraction.{Fraction, ◌≼◌, ◌≺◌, ◌≺?◌, null}
use Rattle.arithmetic.specs.Value.{value, Within}
use Rattle.arithmetic.specs.Constants.{zero_d}
use Rattle.arithmetic.specs.Doubles.{checked}
use Rattle.arithmetic.specs.Root as Root
use Rattle.arithmetic.proofs.Fraction.{◌≈◌, ≼_refl, ≼_trans, ≺-≼-trans, ≼-or-≻, ≺→≼, ≺-not-≼, ≺?-no, was_no, ⊗-mono}
use Rattle.arithmetic.proofs.Tests.{not_below}
use Rattle.arithmetic.proofs.Nearest.{Nearest, BelowRoot, AboveRoot, middle, square_mono, sqrt_nearest}
use Rattle.arithmetic.proofs.Exact.{zero_fits}
use Rattle.range.specs.declared.basic.Range.{Range}
use Rattle.range.specs.Rules.{failed, ok, is_zero, before, after, outwards, sqrt}
use Rattle.range.specs.Rules as Rules
use Rattle.range.specs.Exact.{chosen, root_by}
use Rattle.range.specs.Enclosed.{Ok}
use Rattle.range.proofs.Corners.{In, lower_finite, upper_finite, before_fits, after_fits, before_below, after_above}
use Rattle.range.proofs.Contained.{Certain, CertainOf, Contained, zero_is, zero_number, zero_doubles, zero_in, in_zero, range_certain, ends_certain}

-- ---- the root of a double that is not below zero
no_digits : (m u : ℕ) → 0 < u → m * u ≤ 0 → eqb m 0 ≡ true
no_digits zero u h k = refl
no_digits (suc m) u h k = absurd (omega (arith, k))

-- a zero is its own root
root_of_zero : (x : Float) → T (finite x) → value x ≈ null → Root.sqrt x ≡ x
unfolding Root.sqrt
root_of_zero nan p z = absurd p
root_of_zero (inf s) p z = absurd p
root_of_zero (fin true m e) p z = rw (no_digits m (up e) (up_pos e) (omega (arith, z)))
root_of_zero (fin false m e) p z = rw (no_digits m (up e) (up_pos e) (omega (arith, z)))

data Kind (x : Float) : Type 0 where
  a_zero : value x ≈ null → Root.sqrt x ≡ x → Kind x
  positive : null ≺ value x → Nearest x (Root.sqrt x) → Kind x

kind : (x : Float) → T (fits binary64 x) → T (finite x) → null ≼ value x → Kind x
kind x f p z = elim (≼-or-≻ (value x) null) [
  | inl h ↦ a_zero (h, z) (root_of_zero x p (h, z))
  | inr h ↦ positive h (sqrt_nearest x f p h)
]

root_double : (x : Float) → T (fits binary64 x) → T (finite x) → null ≼ value x → T (fits binary64 (Root.sqrt x)) × T (finite (Root.sqrt x))
root_double x f p z = elim (kind x f p z) [
  | a_zero h e ↦ rw e (f, p)
  | positive h n ↦ (n.double, n.number)
]

-- A root below zero would have 0 nearer to the exact root.
not_negative : (x : Float) → Nearest x (Root.sqrt x) → null ≼ value (Root.sqrt x)
not_negative x n = elim (≼-or-≻ null (value (Root.sqrt x))) [
  | inl h ↦ h
  | inr h ↦
      let a = (n.above (fin false 0 (pos 0)) (zero_fits false) tt (≺-≼-trans h (omega arith))).0 in
      absurd (omega (arith, a, h))
]

-- ---- it keeps the order: were the root of x above the root of y, their middle would lie below the exact root of x and above that of y
middle_swap : (p q : Fraction) → middle p q ≼ middle q p
middle_swap p q = ⊗-mono (omega arith) (record { cross = omega arith })

apart_roots : {x y c d : Fraction} → x ≼ y → c ≼ d → BelowRoot d x → AboveRoot c y → ⊥
apart_roots h k (inl n) a = ≺-not-≼ (≺-≼-trans a.0 k) (≺→≼ n)
apart_roots h k (inr s) a = ≺-not-≼ a.1 (≼_trans (square_mono (≺→≼ a.0) k) (≼_trans (≺→≼ s) h))

root_mono : (x y : Float) → T (fits binary64 x) → T (fits binary64 y) → T (finite x) → T (finite y) → null ≼ value x → value x ≼ value y → value (Root.sqrt x) ≼ value (Root.sqrt y)
root_mono x y f g p q z h = go (kind x f p z) (kind y g q (≼_trans z h))
  where
    go : Kind x → Kind y → value (Root.sqrt x) ≼ value (Root.sqrt y)
    go (a_zero i e) (a_zero j e') = rw (e, e') h
    go (a_zero i e) (positive j n) = rw e (≼_trans i.0 (not_negative y n))
    go (positive i n) (a_zero j e) = absurd (≺-not-≼ (≺-≼-trans i h) j.0)
    go (positive i n) (positive j m) = elim (≼-or-≻ (value (Root.sqrt x)) (value (Root.sqrt y))) [
      | inl l ↦ l
      | inr l ↦ absurd (apart_roots h (middle_swap (value (Root.sqrt x)) (value (Root.sqrt y))) (n.below (Root.sqrt y) m.double m.number l) (m.above (Root.sqrt x) n.double n.number l))
    ]

-- ---- a proposed fraction that lies between the ends, or the lower end
chosen_certain : (d : Float) (r : Range) (q p : Fraction) → Ok r → Certain d r q → CertainOf d r (chosen r p)
chosen_certain d r q p O x = rw (is_true (ok r) O) (go (p ≺? value r.lower) (value r.upper ≺? p) (was_no p (value r.lower)) (was_no (value r.upper) p))
  where
    certain : {v : Fraction} → In r v → Certain d r v
    certain w = record { double = x.double; number = x.number; ends = x.ends; near = x.near; exact = w }

    least : Certain d r (value r.lower)
    least = certain (record { low = ≼_refl (value r.lower); high = ≼_trans x.near.low x.near.high })

    go : (i j : Bool) → (i ≡ false → value r.lower ≼ p) → (j ≡ false → p ≼ value r.upper) → Certain d r (cond (not i && not j) p (value r.lower))
    go false false I K = certain (record { low = I refl; high = K refl })
    go false true I K = least
    go true j I K = least

-- ---- the rule, by its tests: whether r is [0, 0], and whether its lower end is below 0
abbrev root_if : Range → (r_zero r_negative : Bool) → Range
root_if r i j = cond i Rules.zero (cond j failed (outwards (Root.sqrt r.lower) (Root.sqrt r.upper)))

given_sqrt : (r : Range) → Ok (sqrt r) → Ok r × (sqrt r ≡ root_if r (is_zero r) (lt r.lower zero_d))
unfolding sqrt
given_sqrt r = go (ok r) (λ t. t)
  where
    go : (i : Bool) → (T i → Ok r) → Ok (cond i (root_if r (is_zero r) (lt r.lower zero_d)) failed) → Ok r × (cond i (root_if r (is_zero r) (lt r.lower zero_d)) failed ≡ root_if r (is_zero r) (lt r.lower zero_d))
    go true A O = (A tt, refl)
    go false A O = absurd O

module _ (a : Float) (r : Range) (q : Fraction) (A : Ok r) (x : Certain a r q) where
  outwards_certain : null ≼ value r.lower → Ok (outwards (Root.sqrt r.lower) (Root.sqrt r.upper)) → Certain (checked (Root.sqrt a)) (outwards (Root.sqrt r.lower) (Root.sqrt r.upper)) (value (Root.sqrt a))
  unfolding outwards
  outwards_certain z =
      let l = Root.sqrt r.lower in
      let u = Root.sqrt r.upper in
      let za : null ≼ value a = ≼_trans z x.near.low in
      let L = root_double r.lower x.ends.0 (lower_finite r A) z in
      let U = root_double r.upper x.ends.1 (upper_finite r A) (≼_trans za x.near.high) in
      let F = root_double a x.double x.number za in
      let within : T (finite (before l)) → T (finite (after u)) → Within (before l) (after u) (value (Root.sqrt a)) = λ s t. record {
        low = ≼_trans (before_below l L.0 s) (root_mono r.lower a x.ends.0 x.double (lower_finite r A) x.number z x.near.low);
        high = ≼_trans (root_mono a r.upper x.double x.ends.1 x.number (upper_finite r A) za x.near.high) (after_above u U.0 t);
      } in
      ends_certain (before l) (after u) (before_fits l) (after_fits u) (Root.sqrt a) (value (Root.sqrt a)) F.0 (λ s t. ((F.1, within s t), within s t))

  root_certain : (i j : Bool) → (T i → T (is_zero r)) → lt r.lower zero_d ≡ j → Ok (root_if r i j) → (null ≼ q) × Certain (checked (Root.sqrt a)) (root_if r i j) (value (Root.sqrt a))
  root_certain true j I K O =
      let z = zero_in r x.ends (I tt) x.exact in
      let n = zero_in r x.ends (I tt) x.near in
      (z.1, rw (root_of_zero a x.number n) (range_certain Rules.zero a (value a) zero_doubles x.double (x.number, in_zero n) (in_zero n)))
  root_certain false true I K O = absurd O
  root_certain false false I K O =
      let z : null ≼ value r.lower = ≼_trans zero_is.1 (not_below r.lower zero_d (lower_finite r A) zero_number K) in
      (≼_trans z x.exact.low, outwards_certain z O)

pub root_contained : {a : Float} {r : Range} {o : Option Fraction} (p : Fraction) → Contained a r o → Contained (checked (Root.sqrt a)) (sqrt r) (root_by r o p)
root_contained {a} {r} {o} p y = record { where_ok = λ O. (let g = given_sqrt r O in at o g.0 g.1 (y.where_ok g.0) O) }
  where
    at : (o : Option Fraction) → Ok r → sqrt r ≡ root_if r (is_zero r) (lt r.lower zero_d) → CertainOf a r o → Ok (sqrt r) → CertainOf (checked (Root.sqrt a)) (sqrt r) (root_by r o p)
    at none A e x O = absurd x
    at (some q) A e x O =
        let c : (null ≼ q) × Certain (checked (Root.sqrt a)) (sqrt r) (value (Root.sqrt a)) = rw e (root_certain a r q A x (is_zero r) (lt r.lower zero_d) (λ t. t) refl (rw e at O)) in
        rw (≺?-no c.0) (chosen_certain (checked (Root.sqrt a)) (sqrt r) (value (Root.sqrt a)) p O c.1)
