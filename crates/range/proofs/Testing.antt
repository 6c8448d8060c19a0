-- A case, as a program tests it: by a limit, with which both ends are compared, and by a whole number, which both ends must have.
use mathlib.Core.Path.{◌≡◌, refl, sym, subst}
use mathlib.Core.Option.{Option, none, some}
use mathlib.Core.Bool.{Bool, true, false, cond}
use lib.Dec.{T, not_T}
use lib.IntN.{ℤ}
use lib.Ieee.{Float, lt}
use lib.Ieee.Bits.{is_false}
use lib.Ieee.Scale.{finite}
use Rattle.arithmetic.specs.Value.{value}
use Rattle.arithmetic.specs.Basic.{Limit, below, above, Step, passes, pick}
use Rattle.arithmetic.proofs.Tests.{below_is, above_is}
use Rattle.range.specs.declared.basic.Range.{Range}
use Rattle.range.specs.Rules.{ok, failed, agreed, equal, one_step, test, step}
use Rattle.range.specs.Enclosed.{Ok}
use Rattle.range.proofs.Corners.{lower_finite, upper_finite}
use Rattle.range.proofs.Choosing.{equal→≡, equal_refl}

pub has_ends : (r : Range) → ok r ≡ true → Ok r
has_ends r k = subst T (sym k) tt

-- ---- by a limit
module _ (r : Range) (t : Float) (f : T (finite t)) (x y : Range) where
  pub below_test : ok r ≡ true → test (below t) r x y ≡ agreed (lt r.lower t) (lt r.upper t) x y
  unfolding test
  below_test k = rw (k, below_is r.lower t (lower_finite r (has_ends r k)) f, below_is r.upper t (upper_finite r (has_ends r k)) f)

  pub above_test : ok r ≡ true → test (above t) r x y ≡ agreed (lt t r.lower) (lt t r.upper) x y
  unfolding test
  above_test k = rw (k, above_is r.lower t (lower_finite r (has_ends r k)) f, above_is r.upper t (upper_finite r (has_ends r k)) f)

-- a failed range has no case
pub failed_case : (l : Limit) (r x y : Range) → ok r ≡ false → test l r x y ≡ failed
unfolding test
failed_case l r x y k = rw k

-- the test, as the code makes it
case_is : (l : Limit) (r x y z : Range) → (ok r ≡ true → test l r x y ≡ z) → cond (ok r) z failed ≡ test l r x y
case_is l r x y z h = go (ok r) refl
  where
    go : (b : Bool) → ok r ≡ b → cond b z failed ≡ test l r x y
    go true e = sym (h e)
    go false e = sym (failed_case l r x y e)

pub case_below : (r : Range) (t : Float) (x y : Range) → T (finite t) → cond (ok r) (agreed (lt r.lower t) (lt r.upper t) x y) failed ≡ test (below t) r x y
case_below r t x y f = case_is (below t) r x y _ (below_test r t f x y)

pub case_above : (r : Range) (t : Float) (x y : Range) → T (finite t) → cond (ok r) (agreed (lt t r.lower) (lt t r.upper) x y) failed ≡ test (above t) r x y
case_above r t x y f = case_is (above t) r x y _ (above_test r t f x y)

-- what is worked where the test fails may be anything elsewhere
pub test_else : (l : Limit) (r x y z : Range) → (ok r ≡ true → passes l (value r.lower) ≡ false → y ≡ z) → test l r x y ≡ test l r x z
unfolding test
test_else l r x y z h = go (ok r) (passes l (value r.lower)) (passes l (value r.upper)) refl refl
  where
    go : (a i j : Bool) → ok r ≡ a → passes l (value r.lower) ≡ i → cond a (agreed i j x y) failed ≡ cond a (agreed i j x z) failed
    go false i j e f = refl
    go true true true e f = refl
    go true true false e f = refl
    go true false true e f = refl
    go true false false e f = h e f

-- ---- by a whole number
fails : (b : Bool) → cond b failed failed ≡ failed
fails true = refl
fails false = refl

module _ (s : Step) (r : Range) (f : ℤ → Range) where
  -- a failed range has no case
  pub failed_step : ok r ≡ false → step s r f ≡ failed
  unfolding step
  failed_step k = rw k

  -- an end without a whole number
  pub none_lower : pick s (value r.lower) ≡ none → step s r f ≡ failed
  unfolding step
  none_lower e = rw e (fails (ok r))

  pub none_upper : pick s (value r.upper) ≡ none → step s r f ≡ failed
  unfolding step
  none_upper e = rw e (go (pick s (value r.lower)))
    where
      go : (o : Option ℤ) → cond (ok r) (one_step o none f) failed ≡ failed
      go none = fails (ok r)
      go (some k) = fails (ok r)

  pub two_steps : (i j : ℤ) → pick s (value r.lower) ≡ some i → pick s (value r.upper) ≡ some j → (i ≡ j → ⊥) → step s r f ≡ failed
  unfolding step
  two_steps i j a b n = rw (a, b, is_false (equal i j) (not_T (equal i j) (λ t. n (equal→≡ i j t)))) (fails (ok r))

  pub one_step_is : (k : ℤ) → ok r ≡ true → pick s (value r.lower) ≡ some k → pick s (value r.upper) ≡ some k → step s r f ≡ f k
  unfolding step
  one_step_is k h a b = rw (h, a, b, equal_refl k)
