-- The relation of a double, a range and an exact result that every rule keeps: where the range is ok, the double is finite, the exact result is there, and both lie
-- between the ends. Here is what all rules share, and the rules of points and of negation.
use mathlib.Core.Path.{◌≡◌, refl, sym, subst}
use mathlib.Core.Option.{Option, none, some}
use mathlib.Core.Bool.{Bool, true, false, cond, ◌&&◌}
use native.Mathlib.Omega.{arith}
use lib.Dec.{T}
use lib.IntN.{pos}
use lib.Ieee.{Float, nan, inf, fin, binary64, fits, eq, of_bits}
use lib.Ieee as Ieee
use lib.Ieee.Fits.{and_i, and_l, and_r, neg-fits, cond-fits}
use lib.Ieee.Scale.{finite}
use lib.Ieee.Bits.{is_true, of_bits-fits}
use Rattle.arithmetic.specs.Fraction.{Fraction, ◌≼◌, null, opp}
use Rattle.arithmetic.specs.Value.{value, Within}
use Rattle.arithmetic.specs.Constants.{zero_d}
use Rattle.arithmetic.specs.Doubles.{checked, strict}
use Rattle.arithmetic.proofs.Agreement.{checked_is}
use Rattle.arithmetic.proofs.Fraction.{◌≈◌, ≈-trans, ≼_refl, ≼_trans, opp_anti}
use Rattle.arithmetic.proofs.Rounding.{value_neg, finite_neg}
use Rattle.arithmetic.proofs.Zero.{is_zero_is}
use Rattle.arithmetic.proofs.Exact.{rounded_fits}
use Rattle.arithmetic.proofs.Enclosure.{Among, among_finite, among_within, Rounds, among_rounds}
use Rattle.range.specs.declared.basic.Range.{Range}
use Rattle.range.specs.Rules.{range, failed, zero, ok, is_zero, plus_zero, ends, point, rules}
use Rattle.range.specs.Rules as Rules
use Rattle.range.specs.Exact.{bind, bind₂, fractions}
use Rattle.range.specs.Enclosed.{Ok}
use Rattle.range.proofs.Corners.{In, OfDoubles, lower_finite, upper_finite}

-- d is a finite double and q a number, both between the ends of r, which are doubles
pub record Certain (d : Float) (r : Range) (q : Fraction) : Type 0 where
  pub double : T (fits binary64 d)
  pub number : T (finite d)
  pub ends : OfDoubles r
  pub near : In r (value d)
  pub exact : In r q

-- .. where the exact result may be missing: it is there
abbrev pub CertainOf : Float → Range → Option Fraction → Type 0
CertainOf d r none = ⊥
CertainOf d r (some q) = Certain d r q

-- that holds where r is ok
pub record Contained (d : Float) (r : Range) (o : Option Fraction) : Type 0 where
  pub where_ok : Ok r → CertainOf d r o

-- ---- a rule of a failed range fails
module _ (a d : Float) (r g : Range) (k : Fraction → Option Fraction) (law : (q : Fraction) → Ok r → Certain a r q → Ok g → CertainOf d g (k q)) where
  one_result : (o : Option Fraction) → Ok r → CertainOf a r o → Ok g → CertainOf d g (bind o k)
  one_result none A x = absurd x
  one_result (some q) A x = law q A x

  pub given_contained : {o : Option Fraction} → Contained a r o → Contained d (cond (ok r) g failed) (bind o k)
  given_contained {o} x = record { where_ok = go (ok r) (λ t. t) }
    where
      go : (i : Bool) → (T i → Ok r) → Ok (cond i g failed) → CertainOf d (cond i g failed) (bind o k)
      go true A p = one_result o (A tt) (x.where_ok (A tt)) p
      go false A p = absurd p

module _ (a b d : Float) (r s g : Range) (k : Fraction → Fraction → Option Fraction)
    (law : (p q : Fraction) → Ok r → Ok s → Certain a r p → Certain b s q → Ok g → CertainOf d g (k p q)) where
  two_results : (o o' : Option Fraction) → Ok r → Ok s → CertainOf a r o → CertainOf b s o' → Ok g → CertainOf d g (bind₂ o o' k)
  two_results none o' A B x y = absurd x
  two_results (some p) none A B x y = absurd y
  two_results (some p) (some q) A B x y = law p q A B x y

  pub given₂_contained : {o o' : Option Fraction} → Contained a r o → Contained b s o' → Contained d (cond (ok r) (cond (ok s) g failed) failed) (bind₂ o o' k)
  given₂_contained {o} {o'} x y = record { where_ok = go (ok r) (ok s) (λ t. t) (λ t. t) }
    where
      go : (i j : Bool) → (T i → Ok r) → (T j → Ok s) → Ok (cond i (cond j g failed) failed) → CertainOf d (cond i (cond j g failed) failed) (bind₂ o o' k)
      go true true A B p = two_results o o' (A tt) (B tt) (x.where_ok (A tt)) (y.where_ok (B tt)) p
      go true false A B p = absurd p
      go false j A B p = absurd p

-- ---- zeros
either_zero : (s : Bool) → value (fin s 0 (pos 0)) ≈ null
either_zero true = (omega arith, omega arith)
either_zero false = (omega arith, omega arith)

pub zero_is : value zero_d ≈ null
unfolding of_bits
zero_is = either_zero false

pub zero_value : (x : Float) → T (fits binary64 x) → eq x zero_d ≡ true → value x ≈ null
zero_value x f e = let z = is_zero_is x f e in subst (λ (y : Float). value y ≈ null) (sym z.1) (either_zero z.0)

zero_double : T (fits binary64 zero_d)
zero_double = of_bits-fits binary64 0

pub zero_doubles : OfDoubles zero
zero_doubles = (zero_double, zero_double)

pub zero_number : T (finite zero_d)
unfolding of_bits
zero_number = tt

pub zero_ok : Ok zero
zero_ok = and_i (finite zero_d) (finite zero_d) zero_number zero_number

-- what [0, 0] holds
pub in_zero : {q : Fraction} → q ≈ null → In zero q
in_zero h = record { low = ≼_trans zero_is.0 h.1; high = ≼_trans h.0 zero_is.1 }

pub zero_in : (r : Range) {q : Fraction} → OfDoubles r → T (is_zero r) → In r q → q ≈ null
zero_in r f z w = (
  ≼_trans w.high (zero_value r.upper f.1 (is_true (eq r.upper zero_d) (and_r (eq r.lower zero_d) (eq r.upper zero_d) z))).0,
  ≼_trans (zero_value r.lower f.0 (is_true (eq r.lower zero_d) (and_l (eq r.lower zero_d) (eq r.upper zero_d) z))).1 w.low,
)

pub plus_zero_fits : (x : Float) → T (fits binary64 x) → T (fits binary64 (plus_zero x))
plus_zero_fits x f = cond-fits binary64 (eq x zero_d) zero_d x zero_double f

pub plus_zero_value : (x : Float) → T (fits binary64 x) → value (plus_zero x) ≈ value x
plus_zero_value x f = go (eq x zero_d) refl
  where
    go : (b : Bool) → eq x zero_d ≡ b → value (cond b zero_d x) ≈ value x
    go true e = let z = zero_value x f e in ≈-trans zero_is (z.1, z.0)
    go false e = (≼_refl (value x), ≼_refl (value x))

plus_zero_finite : (x : Float) → T (finite x) → T (finite (plus_zero x))
plus_zero_finite x p = go (eq x zero_d)
  where
    go : (b : Bool) → T (finite (cond b zero_d x))
    go true = zero_number
    go false = p

-- ---- ends
-- h is finite, and a number between l and u
abbrev pub Between : Float → Float → Float → Type 0
Between l u h = T (finite h) × Within l u (value h)

pub range_certain : (r : Range) (h : Float) (q : Fraction) → OfDoubles r → T (fits binary64 h) → Between r.lower r.upper h → In r q → Certain (checked h) r q
range_certain r h q f fh (F, w) v = rw (checked_is h F) (record { double = fh; number = F; ends = f; near = w; exact = v })

pub finite_ends : (l u : Float) → Ok (ends l u) → T (finite l) × T (finite u)
unfolding ends
finite_ends l u = go (finite l) (finite u) (λ t. t) (λ t. t)
  where
    go : (a b : Bool) → (T a → T (finite l)) → (T b → T (finite u)) → Ok (cond (a && b) (range (plus_zero l) (plus_zero u)) failed) → T (finite l) × T (finite u)
    go true true L U p = (L tt, U tt)
    go true false L U p = absurd p
    go false b L U p = absurd p

-- the range of two finite ends: they stay the numbers that they are
pub record Made (l u : Float) (t : Range) : Type 0 where
  pub has_ends : Ok t
  pub doubles : OfDoubles t
  pub lower : value t.lower ≈ value l
  pub upper : value t.upper ≈ value u

module _ (l u : Float) (fl : T (fits binary64 l)) (fu : T (fits binary64 u)) where
  plus_zero_within : {q : Fraction} → Within l u q → Within (plus_zero l) (plus_zero u) q
  plus_zero_within w = record { low = ≼_trans (plus_zero_value l fl).0 w.low; high = ≼_trans w.high (plus_zero_value u fu).1 }

  pub ends_made : T (finite l) → T (finite u) → Made l u (ends l u)
  unfolding ends
  ends_made p q = rw (is_true (finite l) p, is_true (finite u) q) (record {
    has_ends = and_i (finite (plus_zero l)) (finite (plus_zero u)) (plus_zero_finite l p) (plus_zero_finite u q);
    doubles = (plus_zero_fits l fl, plus_zero_fits u fu);
    lower = plus_zero_value l fl;
    upper = plus_zero_value u fu;
  })

  pub ends_certain : (h : Float) (q : Fraction) → T (fits binary64 h) → (T (finite l) → T (finite u) → Between l u h × Within l u q) → Ok (ends l u) → Certain (checked h) (ends l u) q
  unfolding ends
  ends_certain h q fh w = go (finite l) (finite u) (λ t. t) (λ t. t)
    where
      go : (a b : Bool) → (T a → T (finite l)) → (T b → T (finite u)) → Ok (cond (a && b) (range (plus_zero l) (plus_zero u)) failed) → Certain (checked h) (cond (a && b) (range (plus_zero l) (plus_zero u)) failed) q
      go true true L U p =
          let W = w (L tt) (U tt) in
          range_certain (range (plus_zero l) (plus_zero u)) h q (plus_zero_fits l fl, plus_zero_fits u fu) fh (W.0.0, plus_zero_within W.0.1) (plus_zero_within W.1)
      go true false L U p = absurd p
      go false b L U p = absurd p

-- ---- the double h is q' rounded; where the ends hold q', they hold h
rounded_double : (h : Float) (q : Fraction) → Rounds binary64 h q → T (fits binary64 h)
rounded_double h q (z, e) = rw e (rounded_fits z q)

rounded_between : (l u h : Float) (q : Fraction) → T (fits binary64 l) → T (fits binary64 u) → T (finite l) → T (finite u) → Rounds binary64 h q → Within l u q → Between l u h
rounded_between l u h q fl fu L U R w =
    let A : Among l u h = among_rounds binary64 h q R L U fl fu w in
    (among_finite L U A, among_within L U A)

module _ (h : Float) (q q' : Fraction) (R : Rounds binary64 h q') where
  -- a range that holds both already
  pub rounded_range_certain : (r : Range) → OfDoubles r → Ok r → In r q → In r q' → Certain (checked h) r q
  rounded_range_certain r f A v w = range_certain r h q f (rounded_double h q' R) (rounded_between r.lower r.upper h q' f.0 f.1 (lower_finite r A) (upper_finite r A) R w) v

  pub rounded_ends_certain : (l u : Float) → T (fits binary64 l) → T (fits binary64 u) → (T (finite l) → T (finite u) → Within l u q × Within l u q') → Ok (ends l u) → Certain (checked h) (ends l u) q
  rounded_ends_certain l u fl fu w = ends_certain l u fl fu h q (rounded_double h q' R) (λ L U. let W = w L U in (rounded_between l u h q' fl fu L U R W.1, W.0))

-- ---- points
pub point_certain : (k : Float) (q : Fraction) → value k ≼ q → q ≼ value k → Ok (point k) → Certain (checked k) (point k) q
unfolding point
point_certain k q h i = go (fits binary64 k) (λ t. t)
  where
    go : (b : Bool) → (T b → T (fits binary64 k)) → Ok (cond b (ends k k) failed) → Certain (checked k) (cond b (ends k k) failed) q
    go true F p = ends_certain k k (F tt) (F tt) k q (F tt) (λ L U. ((L, record { low = ≼_refl (value k); high = ≼_refl (value k) }), record { low = h; high = i })) p
    go false F p = absurd p

pub constant_contained : (k : Float) → Contained (strict.constant k) (rules.constant k) (fractions.constant k)
constant_contained k = record { where_ok = point_certain k (value k) (≼_refl (value k)) (≼_refl (value k)) }

pub none_contained : Contained strict.none rules.none fractions.none
none_contained = record { where_ok = λ p. p }

-- ---- negation
neg_within : (l u : Float) (q : Fraction) → Within l u q → Within (Ieee.neg u) (Ieee.neg l) (opp q)
neg_within l u q w = record { low = rw (value_neg u) (opp_anti w.high); high = rw (value_neg l) (opp_anti w.low) }

pub finite_back : (x : Float) → T (finite (Ieee.neg x)) → T (finite x)
unfolding Ieee.neg
finite_back nan p = p
finite_back (inf s) p = p
finite_back (fin s m e) p = p

module _ (a : Float) (r : Range) where
  neg_certain : (o : Option Fraction) → CertainOf a r o → Ok (ends (Ieee.neg r.upper) (Ieee.neg r.lower)) → CertainOf (strict.neg a) (ends (Ieee.neg r.upper) (Ieee.neg r.lower)) (fractions.neg o)
  neg_certain none x p = absurd x
  neg_certain (some q) x p =
      ends_certain (Ieee.neg r.upper) (Ieee.neg r.lower) (neg-fits binary64 r.upper x.ends.1) (neg-fits binary64 r.lower x.ends.0) (Ieee.neg a) (opp q) (neg-fits binary64 a x.double)
      (λ L U. ((finite_neg a x.number, rw (value_neg a) (neg_within r.lower r.upper (value a) x.near)), neg_within r.lower r.upper q x.exact)) p

pub neg_contained : {a : Float} {r : Range} {o : Option Fraction} → Contained a r o → Contained (strict.neg a) (rules.neg r) (fractions.neg o)
unfolding Rules.neg
neg_contained {a} {r} {o} x = record {
  where_ok = λ p.
      let F = finite_ends (Ieee.neg r.upper) (Ieee.neg r.lower) p in
      neg_certain a r o (x.where_ok (and_i (finite r.lower) (finite r.upper) (finite_back r.lower F.1) (finite_back r.upper F.0))) p;
}
