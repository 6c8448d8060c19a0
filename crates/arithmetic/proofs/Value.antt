-- `le` and `lt` on finite floats are the order of their values. `le` is transitive, the infinities included.
use mathlib.Core.Path.{◌≡◌, sym}
use mathlib.Core.Logic.{◌⊎◌, inl, inr}
use Prim.Native.Nat.{ℕ, ◌+◌, ◌*◌, ◌≤◌, ◌<◌}
use native.Mathlib.Nat.{le_of_lt, le_of_eq, eq-or-lt_of_le}
use native.Mathlib.Omega.{arith}
use mathlib.Core.Bool.{Bool, true, false, not, ◌&&◌, ◌||◌, beq, true≢false}
use lib.Dec.{T, ltb, eqb, ltb→lt, lt→ltb, eqb→eq}
use lib.Ieee.{Float, nan, inf, fin, up, down, lt, le, neg}
use lib.Ieee.Fits.{and_l, and_r, and_i, eq→eqb}
use lib.Ieee.Exact.{HasValue}
use lib.Ieee.Scale.{finite}
use Rattle.arithmetic.specs.Fraction.{◌≼◌, ◌≺◌}
use Rattle.arithmetic.specs.Value.{signed, value}
use Rattle.arithmetic.proofs.Fraction.{≼_trans, ≺→≼}

-- ---- the order of ±a and ±b
or_split : (a b : Bool) → T (a || b) → T a ⊎ T b
or_split true b t = inl tt
or_split false b t = inr t

or_l : (a b : Bool) → T a → T (a || b)
or_l true b t = tt
or_l false b t = absurd t

or_r : (a b : Bool) → T b → T (a || b)
or_r true b t = tt
or_r false b t = t

-- ±a ≤ ±b, for two of one sign: of the two tests the second may name a and b either way round
up_to : (a b : ℕ) → T (ltb a b || (eqb a b && true)) → a ≤ b
up_to a b t = elim (or_split (ltb a b) (eqb a b && true) t) [ inl u ↦ le_of_lt (ltb→lt a b u) | inr u ↦ le_of_eq (eqb→eq a b (and_l (eqb a b) true u)) ]

from_up_to : (a b : ℕ) → a ≤ b → T (ltb a b || (eqb a b && true))
from_up_to a b h = elim (eq-or-lt_of_le h) [ inl p ↦ or_r (ltb a b) (eqb a b && true) (and_i (eqb a b) true (eq→eqb p) tt) | inr q ↦ or_l (ltb a b) (eqb a b && true) (lt→ltb a b q) ]

down_to : (a b : ℕ) → T (ltb b a || (eqb a b && true)) → b ≤ a
down_to a b t = elim (or_split (ltb b a) (eqb a b && true) t) [ inl u ↦ le_of_lt (ltb→lt b a u) | inr u ↦ le_of_eq (sym (eqb→eq a b (and_l (eqb a b) true u))) ]

from_down_to : (a b : ℕ) → b ≤ a → T (ltb b a || (eqb a b && true))
from_down_to a b h = elim (eq-or-lt_of_le h) [ inl p ↦ or_r (ltb b a) (eqb a b && true) (and_i (eqb a b) true (eq→eqb (sym p)) tt) | inr q ↦ or_l (ltb b a) (eqb a b && true) (lt→ltb b a q) ]

both_zero : (a b : ℕ) → T (eqb a b && eqb a 0) → a + b ≤ 0
both_zero a b t = let p : a ≡ b = eqb→eq a b (and_l (eqb a b) (eqb a 0) t) in let q : a ≡ 0 = eqb→eq a 0 (and_r (eqb a b) (eqb a 0) t) in omega arith

from_both_zero : (a b : ℕ) → a + b ≤ 0 → T (eqb a b && eqb a 0)
from_both_zero a b h =
    let p : a ≡ b = omega arith in
    let q : a ≡ 0 = omega arith in
    and_i (eqb a b) (eqb a 0) (eq→eqb p) (eq→eqb q)

negative_le : (a b : ℕ) → T (ltb 0 (a + b) || (eqb a b && eqb a 0))
negative_le a b = go (eq-or-lt_of_le (omega arith))
  where
    go : (0 ≡ a + b) ⊎ (0 < a + b) → T (ltb 0 (a + b) || (eqb a b && eqb a 0))
    go (inl e) = or_r (ltb 0 (a + b)) (eqb a b && eqb a 0) (from_both_zero a b (omega arith))
    go (inr l) = or_l (ltb 0 (a + b)) (eqb a b && eqb a 0) (lt→ltb 0 (a + b) l)

-- ---- `le` is the order of the values
pub le→≼ : (x y : Float) → T (finite x) → T (finite y) → T (le x y) → value x ≼ value y
unfolding le
le→≼ (fin false m e) (fin false n d) p q h = omega (arith, up_to (m * up e * down d) (n * up d * down e) h)
le→≼ (fin false m e) (fin true n d) p q h = omega (arith, both_zero (m * up e * down d) (n * up d * down e) h)
le→≼ (fin true m e) (fin false n d) p q h = omega arith
le→≼ (fin true m e) (fin true n d) p q h = omega (arith, down_to (m * up e * down d) (n * up d * down e) h)
le→≼ (fin s m e) nan p q h = absurd q
le→≼ (fin s m e) (inf t) p q h = absurd q
le→≼ (inf s) y p q h = absurd p
le→≼ nan y p q h = absurd p

pub ≼→le : (x y : Float) → T (finite x) → T (finite y) → value x ≼ value y → T (le x y)
unfolding le
≼→le (fin false m e) (fin false n d) p q h = from_up_to (m * up e * down d) (n * up d * down e) (omega (arith, h))
≼→le (fin false m e) (fin true n d) p q h = from_both_zero (m * up e * down d) (n * up d * down e) (omega (arith, h))
≼→le (fin true m e) (fin false n d) p q h = negative_le (m * up e * down d) (n * up d * down e)
≼→le (fin true m e) (fin true n d) p q h = from_down_to (m * up e * down d) (n * up d * down e) (omega (arith, h))
≼→le (fin s m e) nan p q h = absurd q
≼→le (fin s m e) (inf t) p q h = absurd q
≼→le (inf s) y p q h = absurd p
≼→le nan y p q h = absurd p

-- `lt` is the strict order
pub lt→≺ : (x y : Float) → T (finite x) → T (finite y) → T (lt x y) → value x ≺ value y
unfolding lt
lt→≺ (fin false m e) (fin false n d) p q h = omega (arith, ltb→lt (m * up e * down d) (n * up d * down e) h)
lt→≺ (fin false m e) (fin true n d) p q h = absurd h
lt→≺ (fin true m e) (fin false n d) p q h = omega (arith, ltb→lt 0 (m * up e * down d + n * up d * down e) h)
lt→≺ (fin true m e) (fin true n d) p q h = omega (arith, ltb→lt (n * up d * down e) (m * up e * down d) h)
lt→≺ (fin s m e) nan p q h = absurd q
lt→≺ (fin s m e) (inf t) p q h = absurd q
lt→≺ (inf s) y p q h = absurd p
lt→≺ nan y p q h = absurd p

pub ≺→lt : (x y : Float) → T (finite x) → T (finite y) → value x ≺ value y → T (lt x y)
unfolding lt
≺→lt (fin false m e) (fin false n d) p q h = lt→ltb (m * up e * down d) (n * up d * down e) (omega (arith, h))
≺→lt (fin false m e) (fin true n d) p q h = absurd (omega (arith, h))
≺→lt (fin true m e) (fin false n d) p q h = lt→ltb 0 (m * up e * down d + n * up d * down e) (omega (arith, h))
≺→lt (fin true m e) (fin true n d) p q h = lt→ltb (n * up d * down e) (m * up e * down d) (omega (arith, h))
≺→lt (fin s m e) nan p q h = absurd q
≺→lt (fin s m e) (inf t) p q h = absurd q
≺→lt (inf s) y p q h = absurd p
≺→lt nan y p q h = absurd p

-- ---- `le`, the infinities included
pub lt→le : (x y : Float) → T (lt x y) → T (le x y)
unfolding lt le
lt→le nan y h = absurd h
lt→le (inf s) nan h = absurd h
lt→le (fin s m e) nan h = absurd h
lt→le (inf s) (inf t) h = or_l (s && not t) (beq s t) h
lt→le (inf s) (fin t n d) h = or_l s false h
lt→le (fin s m e) (inf t) h = or_l (not t) false h
lt→le (fin s m e) (fin t n d) h = ≼→le (fin s m e) (fin t n d) tt tt (≺→≼ (lt→≺ (fin s m e) (fin t n d) tt tt h))

ends : (s t u : Bool) → T (s && not t || beq s t) → T (t && not u || beq t u) → T (s && not u || beq s u)
ends true true u h k = k
ends true false true h k = absurd k
ends true false false h k = h
ends false true u h k = absurd h
ends false false u h k = k

pub le_trans : (x y z : Float) → T (le x y) → T (le y z) → T (le x z)
unfolding le
le_trans nan y z h k = absurd h
le_trans (inf s) nan z h k = absurd h
le_trans (fin s m e) nan z h k = absurd h
le_trans (inf s) (inf t) nan h k = absurd k
le_trans (inf s) (inf t) (inf u) h k = ends s t u h k
le_trans (inf true) (inf t) (fin u n d) h k = tt
le_trans (inf false) (inf true) (fin u n d) h k = absurd h
le_trans (inf false) (inf false) (fin u n d) h k = k
le_trans (inf true) (fin t m e) nan h k = absurd k
le_trans (inf true) (fin t m e) (inf true) h k = tt
le_trans (inf true) (fin t m e) (inf false) h k = tt
le_trans (inf true) (fin t m e) (fin u n d) h k = tt
le_trans (inf false) (fin t m e) z h k = absurd h
le_trans (fin s m e) (inf t) nan h k = absurd k
le_trans (fin s m e) (inf true) (inf u) h k = absurd h
le_trans (fin s m e) (inf false) (inf true) h k = absurd k
le_trans (fin s m e) (inf false) (inf false) h k = tt
le_trans (fin s m e) (inf true) (fin u n d) h k = absurd h
le_trans (fin s m e) (inf false) (fin u n d) h k = absurd k
le_trans (fin s m e) (fin t n d) nan h k = absurd k
le_trans (fin s m e) (fin t n d) (inf u) h k = k
le_trans (fin s m e) (fin t n d) (fin u o g) h k =
    ≼→le (fin s m e) (fin u o g) tt tt (≼_trans (le→≼ (fin s m e) (fin t n d) tt tt h) (le→≼ (fin t n d) (fin u o g) tt tt k))

-- what lies between two finite values is finite
pub finite_between : (x y z : Float) → T (finite x) → T (finite z) → T (le x y) → T (le y z) → T (finite y)
unfolding le
finite_between nan y z p q h k = absurd p
finite_between (inf s) y z p q h k = absurd p
finite_between (fin s m e) nan z p q h k = absurd h
finite_between (fin s m e) (fin t n d) z p q h k = tt
finite_between (fin s m e) (inf true) z p q h k = absurd h
finite_between (fin s m e) (inf false) nan p q h k = absurd q
finite_between (fin s m e) (inf false) (inf u) p q h k = absurd q
finite_between (fin s m e) (inf false) (fin u n d) p q h k = absurd k

-- ---- `le` and the sign
pub neg_le : (x y : Float) → T (le x y) → T (le (neg y) (neg x))
unfolding le neg
neg_le nan y h = absurd h
neg_le (inf s) nan h = absurd h
neg_le (fin s m e) nan h = absurd h
neg_le (inf true) (inf true) h = tt
neg_le (inf true) (inf false) h = tt
neg_le (inf false) (inf true) h = absurd h
neg_le (inf false) (inf false) h = tt
neg_le (inf true) (fin t n d) h = tt
neg_le (inf false) (fin t n d) h = absurd h
neg_le (fin s m e) (inf true) h = absurd h
neg_le (fin s m e) (inf false) h = tt
neg_le (fin s m e) (fin t n d) h = ≼→le (fin (not t) n d) (fin (not s) m e) tt tt (turn s t (le→≼ (fin s m e) (fin t n d) tt tt h))
  where
    turn : (s t : Bool) → value (fin s m e) ≼ value (fin t n d) → value (fin (not t) n d) ≼ value (fin (not s) m e)
    turn true true h = omega (arith, h)
    turn true false h = omega (arith, h)
    turn false true h = omega (arith, h)
    turn false false h = omega (arith, h)

-- ---- any fraction that a float equals
pub value_is : (r : Float) (s : Bool) (a c : ℕ) (C : 0 < c) → HasValue r s a c → (value r ≼ signed s a c C) × (signed s a c C ≼ value r)
value_is nan s a c C h = absurd h
value_is (inf t) s a c C h = absurd h
value_is (fin true n g) true a c C h = (omega (arith, h.1), omega (arith, h.1))
value_is (fin false n g) false a c C h = (omega (arith, h.1), omega (arith, h.1))
value_is (fin true n g) false a c C h = absurd (true≢false h.0)
value_is (fin false n g) true a c C h = absurd (true≢false (sym h.0))
