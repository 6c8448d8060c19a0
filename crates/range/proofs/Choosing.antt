-- A case that is one for both ends is the case of all that lies between them: by a limit, and by a whole number.
use mathlib.Core.Path.{◌≡◌, refl, sym, ap, ◌∙◌}
use mathlib.Core.Option.{Option, none, some}
use mathlib.Core.Bool.{Bool, true, false, cond}
use lib.Dec.{T, eqb, eqb→eq}
use lib.IntN.{ℤ, pos, negsuc}
use lib.Ieee.{Float}
use lib.Ieee.Fits.{eq→eqb}
use lib.Ieee.Scale.{finite}
use lib.Ieee.Bits.{is_true}
use Rattle.arithmetic.specs.Fraction.{Fraction, ◌≼◌}
use Rattle.arithmetic.specs.Value.{value}
use Rattle.arithmetic.specs.Basic.{Limit, below, above, Step, passes, pick}
use Rattle.arithmetic.specs.Doubles.{strict}
use Rattle.arithmetic.proofs.Fraction.{≼_trans, ≼-≺-trans, ≺-≼-trans, ≺?-yes, ≺?-no, was_yes, was_no}
use Rattle.arithmetic.proofs.Cases.{pick_convex}
use Rattle.range.specs.declared.basic.Range.{Range}
use Rattle.range.specs.Rules.{failed, agreed, equal, one_step, rules}
use Rattle.range.specs.Rules as Rules
use Rattle.range.specs.Exact.{bind, fractions}
use Rattle.range.specs.Enclosed.{Ok}
use Rattle.range.proofs.Contained.{Certain, CertainOf, Contained, given_contained}

-- ---- by a limit
passes_convex : {p q r : Fraction} (l : Limit) (b : Bool) → p ≼ q → q ≼ r → passes l p ≡ b → passes l r ≡ b → passes l q ≡ b
passes_convex {p} {q} {r} (below c) true h k e f = ≺?-yes (≼-≺-trans k (was_yes r (value c) f))
passes_convex {p} {q} {r} (below c) false h k e f = ≺?-no (≼_trans (was_no p (value c) e) h)
passes_convex {p} {q} {r} (above c) true h k e f = ≺?-yes (≺-≼-trans (was_yes (value c) p e) h)
passes_convex {p} {q} {r} (above c) false h k e f = ≺?-no (≼_trans k (was_no (value c) r f))

module _ {x a b : Float} {r s t : Range} {o p q : Option Fraction} where
  pub test_contained : (l : Limit) → Contained x r o → Contained a s p → Contained b t q → Contained (strict.test l x a b) (rules.test l r s t) (fractions.test l o p q)
  unfolding Rules.test
  test_contained l g m n = given_contained x (strict.test l x a b) r (agreed (passes l (value r.lower)) (passes l (value r.upper)) s t) (λ v. cond (passes l v) p q) law g
    where
      law : (v : Fraction) → Ok r → Certain x r v → Ok (agreed (passes l (value r.lower)) (passes l (value r.upper)) s t)
          → CertainOf (strict.test l x a b) (agreed (passes l (value r.lower)) (passes l (value r.upper)) s t) (cond (passes l v) p q)
      law v A X = go (passes l (value r.lower)) (passes l (value r.upper)) refl refl
        where
          one : (i : Bool) → passes l (value r.lower) ≡ i → passes l (value r.upper) ≡ i → (finite x ≡ true) × (passes l (value x) ≡ i) × (passes l v ≡ i)
          one i e f = (is_true (finite x) X.number, passes_convex l i X.near.low X.near.high e f, passes_convex l i X.exact.low X.exact.high e f)

          go : (i j : Bool) → passes l (value r.lower) ≡ i → passes l (value r.upper) ≡ j → Ok (agreed i j s t) → CertainOf (strict.test l x a b) (agreed i j s t) (cond (passes l v) p q)
          go true true e f O = rw ((one true e f).0, (one true e f).1, (one true e f).2) (m.where_ok O)
          go false false e f O = rw ((one false e f).0, (one false e f).1, (one false e f).2) (n.where_ok O)
          go true false e f O = absurd O
          go false true e f O = absurd O

-- ---- by a whole number
pub equal→≡ : (a b : ℤ) → T (equal a b) → a ≡ b
equal→≡ (pos a) (pos b) t = ap pos (eqb→eq a b t)
equal→≡ (pos a) (negsuc b) t = absurd t
equal→≡ (negsuc a) (pos b) t = absurd t
equal→≡ (negsuc a) (negsuc b) t = ap negsuc (eqb→eq a b t)

pub equal_refl : (k : ℤ) → equal k k ≡ true
equal_refl (pos n) = is_true (eqb n n) (eq→eqb {a = n} refl)
equal_refl (negsuc n) = is_true (eqb n n) (eq→eqb {a = n} refl)

module _ {x : Float} {r : Range} {o : Option Fraction} {f : ℤ → Float} {g : ℤ → Range} {k : ℤ → Option Fraction} where
  pub step_contained : (s : Step) → Contained x r o → ((e : ℤ) → Contained (f e) (g e) (k e)) → Contained (strict.step s x f) (rules.step s r g) (fractions.step s o k)
  unfolding Rules.step
  step_contained s h m = given_contained x (strict.step s x f) r (one_step (pick s (value r.lower)) (pick s (value r.upper)) g) (λ v. bind (pick s v) k) law h
    where
      law : (v : Fraction) → Ok r → Certain x r v → Ok (one_step (pick s (value r.lower)) (pick s (value r.upper)) g)
          → CertainOf (strict.step s x f) (one_step (pick s (value r.lower)) (pick s (value r.upper)) g) (bind (pick s v) k)
      law v A X = go (pick s (value r.lower)) (pick s (value r.upper)) refl refl
        where
          both : (e e' : ℤ) (t : Bool) → (T t → e ≡ e') → pick s (value r.lower) ≡ some e → pick s (value r.upper) ≡ some e' → Ok (cond t (g e) failed) → CertainOf (strict.step s x f) (cond t (g e) failed) (bind (pick s v) k)
          both e e' true w i j O =
              let j' : pick s (value r.upper) ≡ some e = j ∙ ap some (sym (w tt)) in
              rw (is_true (finite x) X.number, pick_convex s e X.near.low X.near.high i j', pick_convex s e X.exact.low X.exact.high i j') ((m e).where_ok O)
          both e e' false w i j O = absurd O

          go : (i j : Option ℤ) → pick s (value r.lower) ≡ i → pick s (value r.upper) ≡ j → Ok (one_step i j g) → CertainOf (strict.step s x f) (one_step i j g) (bind (pick s v) k)
          go none j e e' O = absurd O
          go (some i) none e e' O = absurd O
          go (some i) (some j) e e' O = both i j (equal i j) (equal→≡ i j) e e' O
