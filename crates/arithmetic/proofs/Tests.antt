-- The tests of the definitions, as a program makes them: by comparing doubles.
use mathlib.Core.Path.{◌≡◌, refl, sym, ap, subst, ◌∙◌}
use native.Mathlib.Omega.{arith}
use mathlib.Core.Bool.{Bool, true, false, cond, not, ◌&&◌, false≢true}
use mathlib.Core.Logic.{inl, inr}
use lib.Dec.{T, not_T, T_not}
use lib.IntN.{pos}
use lib.Ieee.{Float, nan, inf, fin, binary64, of_bits, lt, le, eq, sub, div}
use lib.Ieee.Scale.{finite}
use lib.Ieee.Bits.{is_true}
use Rattle.arithmetic.specs.Fraction.{◌≼◌, ◌≺◌, ◌≺?◌, ◌⊕◌, opp}
use Rattle.arithmetic.specs.Value.{value}
use Rattle.arithmetic.specs.Basic.{below, above, passes}
use Rattle.arithmetic.specs.Doubles.{where_finite, tested}
use Rattle.arithmetic.proofs.Fraction.{≺?→≺, ≺→≺?, ≺-not-≼, ≼-or-≻}
use Rattle.arithmetic.proofs.Value.{lt→≺, ≺→lt, le→≼, ≼→le}
use Rattle.arithmetic.proofs.Rounding.{sub_is, rounded_zero}

-- two tests that imply one another are one
pub iff : (a b : Bool) → (T a → T b) → (T b → T a) → a ≡ b
iff true true f g = refl
iff true false f g = absurd (f tt)
iff false true f g = absurd (g tt)
iff false false f g = refl

-- what a test says, whose negation is tested
pub failed_test : (b : Bool) → not b ≡ true → b ≡ false
failed_test true h = absurd (false≢true h)
failed_test false h = refl

pub passed_test : (b : Bool) → not b ≡ false → b ≡ true
passed_test true h = refl
passed_test false h = absurd (false≢true (sym h))

module _ (x y : Float) (p : T (finite x)) (q : T (finite y)) where
  ≺?-is : (value x ≺? value y) ≡ lt x y
  ≺?-is = iff (value x ≺? value y) (lt x y) (λ t. ≺→lt x y p q (≺?→≺ (value x) (value y) t)) (λ t. ≺→≺? (value x) (value y) (lt→≺ x y p q t))

  pub le_is : le x y ≡ not (lt y x)
  le_is = iff (le x y) (not (lt y x))
      (λ t. not_T (lt y x) (λ u. ≺-not-≼ (lt→≺ y x q p u) (le→≼ x y p q t)))
      (λ t. elim (≼-or-≻ (value x) (value y)) [ inl h ↦ ≼→le x y p q h | inr h ↦ absurd (T_not (lt y x) t (≺→lt y x q p h)) ])

  -- where x is not below y
  pub not_below : lt x y ≡ false → value y ≼ value x
  not_below h = elim (≼-or-≻ (value y) (value x)) [ inl k ↦ k | inr k ↦ absurd (false≢true (sym h ∙ is_true (lt x y) (≺→lt x y p q k))) ]

  -- where x is not at most y
  pub not_at_least : le x y ≡ false → value y ≺ value x
  not_at_least h = elim (≼-or-≻ (value x) (value y)) [ inl k ↦ absurd (false≢true (sym h ∙ is_true (le x y) (≼→le x y p q k))) | inr k ↦ k ]

pub below_is : (x c : Float) → T (finite x) → T (finite c) → passes (below c) (value x) ≡ lt x c
below_is x c p q = ≺?-is x c p q

pub above_is : (x c : Float) → T (finite x) → T (finite c) → passes (above c) (value x) ≡ lt c x
above_is x c p q = ≺?-is c x q p

-- the case at a threshold, as the code works it
pub if_below_is : (x t a b : Float) → T (finite t) → where_finite x (cond (lt x t) a b) ≡ tested (below t) x a b
if_below_is nan t a b q = refl
if_below_is (inf s) t a b q = refl
if_below_is (fin s m e) t a b q = rw (below_is (fin s m e) t tt q)

-- a number less itself is zero, and an infinity less itself is NaN
pub finite_is : (x : Float) → eq (sub binary64 x x) (of_bits binary64 0) ≡ finite x
unfolding sub eq of_bits
finite_is nan = refl
finite_is (inf true) = refl
finite_is (inf false) = refl
finite_is (fin s m e) = ap (λ (y : Float). eq y (fin false 0 (pos 0))) (sub_is binary64 (fin s m e) (fin s m e) tt tt ∙ rounded_zero binary64 (s && not s) (value (fin s m e) ⊕ opp (value (fin s m e))) (none s)) ∙ zeros (s && not s)
  where
    none : (s : Bool) → (value (fin s m e) ⊕ opp (value (fin s m e))).minus ≡ (value (fin s m e) ⊕ opp (value (fin s m e))).plus
    none true = omega arith
    none false = omega arith

    zeros : (z : Bool) → eq (fin z 0 (pos 0)) (fin false 0 (pos 0)) ≡ true
    zeros true = refl
    zeros false = refl

-- ---- how a program writes NaN
abbrev pub zero_over_zero : Float
zero_over_zero = div binary64 (of_bits binary64 0) (of_bits binary64 0)

pub zero_by_zero : zero_over_zero ≡ nan
unfolding div of_bits
zero_by_zero = refl

-- ---- where a program tests whether x is finite, and gives y or NaN
module _ (b : Bool) (x y : Float) (e : b ≡ finite x) where
  pub where_then : b ≡ true → y ≡ where_finite x y
  where_then t = rw (← e, t) refl

  pub where_else : b ≡ false → zero_over_zero ≡ where_finite x y
  where_else t = rw (← e, t) zero_by_zero

pub is_so : (b : Bool) (x : Float) → b ≡ finite x → b ≡ true → T (finite x)
is_so b x e t = subst T (sym (sym e ∙ t)) tt
