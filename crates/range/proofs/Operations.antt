-- Sum, difference, product and quotient keep `Contained`.
use Prim.Native.Nat.{ℕ, ◌*◌}
use native.Mathlib.Omega.{arith}
use mathlib.Core.Path.{◌≡◌, refl, sym, ap, ◌∙◌}
use mathlib.Core.Logic.{inl, inr}
use mathlib.Core.Option.{Option, none, some}
use mathlib.Core.Bool.{Bool, true, false, cond, ◌||◌}
use lib.Dec.{T, eqb, eqb→eq, not_T}
use lib.Ieee.{Float, nan, inf, fin, binary64, lt}
use lib.Ieee as Ieee
use lib.Ieee.Scale.{finite}
use lib.Ieee.Bits.{is_false}
use Rattle.arithmetic.specs.Fraction.{Fraction, ◌≺◌, null, ◌⊕◌, ◌⊗◌, ◌⊘◌, recip, Apart}
use Rattle.arithmetic.specs.Value.{value, Within}
use Rattle.arithmetic.specs.Constants.{zero_d}
use Rattle.arithmetic.specs.Doubles.{checked, strict}
use Rattle.arithmetic.proofs.Fraction.{◌≈◌, ≈-trans, ≼_refl, ≼_trans, ≼-≺-trans, ≺-≼-trans, ⊕-mono, ⊗-swap, apart_at}
use Rattle.arithmetic.proofs.Value.{lt→≺}
use Rattle.arithmetic.proofs.Agreement.{of_add}
use Rattle.arithmetic.proofs.Enclosure.{Rounds, add_rounds, mul_rounds, div_rounds}
use Rattle.range.specs.declared.basic.Range.{Range}
use Rattle.range.specs.Rules.{failed, is_zero, apart, before, after, outwards, four, zero, rules}
use Rattle.range.specs.Rules as Rules
use Rattle.range.specs.Exact.{quotient, fractions}
use Rattle.range.specs.Enclosed.{Ok}
use Rattle.range.proofs.Corners.{In, OfDoubles, one_number, lower_finite, upper_finite, before_fits, after_fits, lowest, highest, sum_within, product_within, quotient_within}
use Rattle.range.proofs.Contained.{Certain, CertainOf, Contained, given₂_contained, zero_is, zero_number, zero_doubles, zero_ok, zero_in, in_zero, rounded_range_certain, rounded_ends_certain, neg_contained}

-- ---- with a zero
zero_plus : {p : Fraction} (q : Fraction) → p ≈ null → p ⊕ q ≈ q
zero_plus q z = (≼_trans (⊕-mono z.0 (≼_refl q)) (omega arith), ≼_trans (omega arith) (⊕-mono z.1 (≼_refl q)))

plus_zero_is : (p : Fraction) {q : Fraction} → q ≈ null → p ⊕ q ≈ p
plus_zero_is p z = (≼_trans (⊕-mono (≼_refl p) z.0) (omega arith), ≼_trans (omega arith) (⊕-mono (≼_refl p) z.1))

pub zero_times : {p : Fraction} (q : Fraction) → p ≈ null → p ⊗ q ≈ null
zero_times {p} q z =
    let e : p.plus ≡ p.minus = omega (arith, z) in
    let a : p.plus * q.plus ≡ p.minus * q.plus = ap (λ (x : ℕ). x * q.plus) e in
    let b : p.plus * q.minus ≡ p.minus * q.minus = ap (λ (x : ℕ). x * q.minus) e in
    (omega (arith, a, b), omega (arith, a, b))

times_zero : (p : Fraction) {q : Fraction} → q ≈ null → p ⊗ q ≈ null
times_zero p {q} z = ≈-trans (⊗-swap p q, ⊗-swap q p) (zero_times p z)

-- ---- the rules, by their tests: whether r is [0, 0], whether s is, and whether s does not hold 0
abbrev sum_if : Range → Range → (r_zero s_zero : Bool) → Range
sum_if r s i j = cond i s (cond j r (outwards (Ieee.add binary64 r.lower s.lower) (Ieee.add binary64 r.upper s.upper)))

abbrev product_if : Range → Range → (r_zero s_zero : Bool) → Range
product_if r s i j = cond i zero (cond j zero (four (Ieee.mul binary64) r s))

abbrev quotient_if : Range → Range → (s_apart r_zero : Bool) → Range
quotient_if r s k i = cond k (cond i zero (four (Ieee.div binary64) r s)) failed

-- ---- their laws, for a double a and a number p of r, and b and q of s
module _ (a b : Float) (r s : Range) (p q : Fraction) (A : Ok r) (B : Ok s) (x : Certain a r p) (y : Certain b s q) where
  -- h is an exact operation on a and b, rounded. What is shown of any numbers of r and s holds for p and q, and for a and b.
  module _ (exact : Fraction → Fraction → Fraction) (h : Float) (R : Rounds binary64 h (exact (value a) (value b))) where
    moved : (l u : Float) → ((v w : Fraction) → In r v → In s w → T (finite (before l)) → T (finite (after u)) → Within (before l) (after u) (exact v w)) → Ok (outwards l u) → Certain (checked h) (outwards l u) (exact p q)
    unfolding outwards
    moved l u W = rounded_ends_certain h (exact p q) (exact (value a) (value b)) R (before l) (after u) (before_fits l) (after_fits u) (λ L U. (W p q x.exact y.exact L U, W (value a) (value b) x.near y.near L U))

    unmoved : (t : Range) → OfDoubles t → Ok t → ((v w : Fraction) → In r v → In s w → In t (exact v w)) → Certain (checked h) t (exact p q)
    unmoved t f O W = rounded_range_certain h (exact p q) (exact (value a) (value b)) R t f O (W p q x.exact y.exact) (W (value a) (value b) x.near y.near)

    becomes_zero : ((v w : Fraction) → In r v → In s w → In zero (exact v w)) → Certain (checked h) zero (exact p q)
    becomes_zero = unmoved zero zero_doubles zero_ok

  first_zero : {v : Fraction} → T (is_zero r) → In r v → v ≈ null
  first_zero z = zero_in r x.ends z

  second_zero : {w : Fraction} → T (is_zero s) → In s w → w ≈ null
  second_zero z = zero_in s y.ends z

  sum_rounds : Rounds binary64 (Ieee.add binary64 a b) (value a ⊕ value b)
  sum_rounds = add_rounds binary64 a b x.number y.number

  sum_certain : (i j : Bool) → (T i → T (is_zero r)) → (T j → T (is_zero s)) → Ok (sum_if r s i j) → Certain (strict.add a b) (sum_if r s i j) (p ⊕ q)
  sum_certain true j I K O = unmoved ◌⊕◌ (Ieee.add binary64 a b) sum_rounds s y.ends B (λ v w g h. one_number (zero_plus w (first_zero (I tt) g)) h)
  sum_certain false true I K O = unmoved ◌⊕◌ (Ieee.add binary64 a b) sum_rounds r x.ends A (λ v w g h. one_number (plus_zero_is v (second_zero (K tt) h)) g)
  sum_certain false false I K O = moved ◌⊕◌ (Ieee.add binary64 a b) sum_rounds (Ieee.add binary64 r.lower s.lower) (Ieee.add binary64 r.upper s.upper) (λ v w g h. sum_within r s A B g h) O

  product_rounds : Rounds binary64 (Ieee.mul binary64 a b) (value a ⊗ value b)
  product_rounds = mul_rounds binary64 a b x.number y.number

  product_certain : (i j : Bool) → (T i → T (is_zero r)) → (T j → T (is_zero s)) → Ok (product_if r s i j) → Certain (strict.mul a b) (product_if r s i j) (p ⊗ q)
  unfolding four
  product_certain true j I K O = becomes_zero ◌⊗◌ (Ieee.mul binary64 a b) product_rounds (λ v w g h. in_zero (zero_times w (first_zero (I tt) g)))
  product_certain false true I K O = becomes_zero ◌⊗◌ (Ieee.mul binary64 a b) product_rounds (λ v w g h. in_zero (times_zero v (second_zero (K tt) h)))
  product_certain false false I K O = moved ◌⊗◌ (Ieee.mul binary64 a b) product_rounds (lowest (Ieee.mul binary64) r s) (highest (Ieee.mul binary64) r s) (λ v w g h. product_within r s A B g h) O

  -- a divisor that does not hold 0
  module _ (Z : Apart (value s.lower) (value s.upper)) where
    quotient_rounds : Rounds binary64 (Ieee.div binary64 a b) (value a ⊘ value b)
    quotient_rounds = div_rounds binary64 a b x.number y.number (apart_at Z y.near.low y.near.high)

    divided : (i : Bool) → (T i → T (is_zero r)) → Ok (quotient_if r s true i) → Certain (strict.div a b) (quotient_if r s true i) (p ⊘ q)
    unfolding four
    divided true I O = becomes_zero ◌⊘◌ (Ieee.div binary64 a b) quotient_rounds (λ v w g h. in_zero (zero_times (recip w) (first_zero (I tt) g)))
    divided false I O = moved ◌⊘◌ (Ieee.div binary64 a b) quotient_rounds (lowest (Ieee.div binary64) r s) (highest (Ieee.div binary64) r s) (λ v w g h. quotient_within r s A B g h Z) O

    not_null : eqb q.plus q.minus ≡ false
    not_null = is_false (eqb q.plus q.minus) (not_T (eqb q.plus q.minus) (λ t. differ (apart_at Z y.exact.low y.exact.high) (eqb→eq q.plus q.minus t)))
      where
        differ : Apart q q → q.plus ≡ q.minus → ⊥
        differ (inl h) e = omega (arith, h)
        differ (inr h) e = omega (arith, h)

  quotient_certain : (k i : Bool) → (T k → Apart (value s.lower) (value s.upper)) → (T i → T (is_zero r)) → Ok (quotient_if r s k i) → CertainOf (strict.div a b) (quotient_if r s k i) (quotient p q)
  quotient_certain true i K I O = rw (not_null (K tt)) (divided (K tt) i I O)
  quotient_certain false i K I O = absurd O

pub is_apart : (s : Range) → Ok s → T (apart s) → Apart (value s.lower) (value s.upper)
is_apart s B = go (lt zero_d s.lower) (lt s.upper zero_d) (lt→≺ zero_d s.lower zero_number (lower_finite s B)) (lt→≺ s.upper zero_d (upper_finite s B) zero_number)
  where
    go : (i j : Bool) → (T i → value zero_d ≺ value s.lower) → (T j → value s.upper ≺ value zero_d) → T (i || j) → Apart (value s.lower) (value s.upper)
    go true j I K t = inl (≼-≺-trans zero_is.1 (I tt))
    go false j I K t = inr (≺-≼-trans (K t) zero_is.0)

module _ {a b : Float} {r s : Range} {o o' : Option Fraction} (x : Contained a r o) (y : Contained b s o') where
  pub add_contained : Contained (strict.add a b) (rules.add r s) (fractions.add o o')
  unfolding Rules.add
  add_contained = given₂_contained a b (strict.add a b) r s (sum_if r s (is_zero r) (is_zero s)) (λ p q. some (p ⊕ q)) (λ p q A B g h. sum_certain a b r s p q A B g h (is_zero r) (is_zero s) (λ t. t) (λ t. t)) x y

  pub mul_contained : Contained (strict.mul a b) (rules.mul r s) (fractions.mul o o')
  unfolding Rules.mul
  mul_contained = given₂_contained a b (strict.mul a b) r s (product_if r s (is_zero r) (is_zero s)) (λ p q. some (p ⊗ q)) (λ p q A B g h. product_certain a b r s p q A B g h (is_zero r) (is_zero s) (λ t. t) (λ t. t)) x y

  pub div_contained : Contained (strict.div a b) (rules.div r s) (fractions.div o o')
  unfolding Rules.div
  div_contained = given₂_contained a b (strict.div a b) r s (quotient_if r s (apart s) (is_zero r)) quotient (λ p q A B g h. quotient_certain a b r s p q A B g h (apart s) (is_zero r) (is_apart s B) (λ t. t)) x y

-- ---- a difference is the sum with the negation
checked_twice : (x : Float) → checked (checked x) ≡ checked x
checked_twice nan = refl
checked_twice (inf s) = refl
checked_twice (fin s m e) = refl

sub_checked : (x y : Float) → checked (Ieee.add binary64 x (checked (Ieee.neg y))) ≡ checked (Ieee.sub binary64 x y)
unfolding Ieee.sub
sub_checked x y = of_add x (checked (Ieee.neg y)) ∙ ap (λ (z : Float). checked (Ieee.add binary64 (checked x) z)) (checked_twice (Ieee.neg y)) ∙ sym (of_add x (Ieee.neg y))

sub_exact : (o o' : Option Fraction) → fractions.add o (fractions.neg o') ≡ fractions.sub o o'
sub_exact none o' = refl
sub_exact (some p) none = refl
sub_exact (some p) (some q) = refl

pub sub_contained : {a b : Float} {r s : Range} {o o' : Option Fraction} → Contained a r o → Contained b s o' → Contained (strict.sub a b) (rules.sub r s) (fractions.sub o o')
sub_contained {a} {b} {r} {s} {o} {o'} x y = rw (← sub_checked a b, ← sub_exact o o') (add_contained x (neg_contained y))
