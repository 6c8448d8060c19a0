-- The product of a range above zero and one below it is the negated product with the other's opposite.
use mathlib.Core.Path.{◌≡◌, refl, sym, ap, ap₂, subst, ◌∙◌}
use mathlib.Core.Bool.{Bool, true, false, not, cond, ◌&&◌}
use Prim.Native.Nat.{ℕ, zero, suc, ◌+◌, ◌-◌, ◌*◌, ◌^◌, ◌/◌, ◌<◌}
use native.Mathlib.Omega.{arith}
use lib.Dec.{T, ltb, eqb}
use lib.IntN.{pos}
use lib.Ieee.{Float, Format, nan, inf, fin, binary64, fits, lt, le, eq, neg, unlike, round, units, odd, of_fields, of_bits, to_bits, top, hid, low, prec, ones, emax, up, down}
use lib.Ieee as Ieee
use lib.Ieee.Bits.{is_true}
use lib.Ieee.Fits.{and_r, neg-fits, mul-fits}
use lib.Ieee.Scale.{finite}
use Rattle.arithmetic.specs.Constants.{largest, zero_d}
use Rattle.arithmetic.specs.Fraction.{null, ◌≼◌, ◌≺◌, opp}
use Rattle.arithmetic.specs.Value.{value}
use Rattle.arithmetic.specs.Next.{next_up, next_down, bits_up, bits_down}
use Rattle.arithmetic.proofs.Next.{read_plus, read_minus, bits_up_is, bits_down_is, bits_up_plus, bits_down_plus, next_up_lt, next_down_lt, next_up_fits, next_down_fits}
use Rattle.arithmetic.proofs.Zero.{is_zero_is, positive_pattern}
use Rattle.arithmetic.proofs.Fraction.{≺-≼-trans, ≺→≼}
use Rattle.arithmetic.proofs.Value.{le→≼, lt→le, le_trans, neg_le, finite_between}
use Rattle.arithmetic.proofs.Rounding.{value_neg, finite_neg}
use Rattle.arithmetic.proofs.Exact.{one_of_value}
use Rattle.arithmetic.proofs.Tests.{not_below}
use Rattle.range.specs.declared.basic.Range.{Range}
use Rattle.range.specs.Rules.{range, failed, ok, plus_zero, before, after, least, greatest, outwards}
use Rattle.range.specs.Rules as Rules
use Rattle.range.proofs.Positive.{Factors, above_nonzero, positive_value, lower_finite, first_row, second_row, first_column, second_column, first_least, second_greatest, product_in_order, positive_product, high, no_zero, to_largest, terms_finite, zero_finite}

-- ---- the opposite double
odd_neg : (d : ℕ) (s : Bool) (q k l : ℕ) → odd d (not s) q k l ≡ neg (odd d s q k l)
unfolding odd neg
odd_neg d s zero k l = refl
odd_neg d s (suc q) k l = refl

units_neg : (f : Format) (s : Bool) (q k : ℕ) → units f (not s) q k ≡ neg (units f s q k)
unfolding units neg
units_neg f s q k = go (ltb (q * 2 ^ k) (2 ^ (low f + suc (emax f))))
  where
    go : (b : Bool) → cond b (odd (suc (prec f)) (not s) q k (low f)) (inf (not s)) ≡ neg (cond b (odd (suc (prec f)) s q k (low f)) (inf s))
    go true = odd_neg (suc (prec f)) s q k (low f)
    go false = refl

round_neg : (f : Format) (s : Bool) (a b : ℕ) → round f (not s) a b ≡ neg (round f s a b)
unfolding round
round_neg f s a b = units_neg f s _ _

unlike_not : (s t : Bool) → unlike s (not t) ≡ not (unlike s t)
unlike_not true true = refl
unlike_not true false = refl
unlike_not false true = refl
unlike_not false false = refl

not_unlike : (s t : Bool) → unlike (not s) t ≡ not (unlike s t)
not_unlike true true = refl
not_unlike true false = refl
not_unlike false true = refl
not_unlike false false = refl

pub neg_neg : (x : Float) → neg (neg x) ≡ x
unfolding neg
neg_neg nan = refl
neg_neg (inf true) = refl
neg_neg (inf false) = refl
neg_neg (fin true m e) = refl
neg_neg (fin false m e) = refl

-- a product with an infinity
infinite_neg : (b s : Bool) → cond b nan (inf (not s)) ≡ neg (cond b nan (inf s))
unfolding neg
infinite_neg true s = refl
infinite_neg false s = refl

pub mul_neg : (x y : Float) → Ieee.mul binary64 x (neg y) ≡ neg (Ieee.mul binary64 x y)
unfolding Ieee.mul neg
mul_neg nan y = refl
mul_neg (inf s) nan = refl
mul_neg (inf s) (inf t) = ap inf (unlike_not s t)
mul_neg (inf s) (fin t n d) = rw (unlike_not s t) (infinite_neg (eqb n 0) (unlike s t))
mul_neg (fin s m e) nan = refl
mul_neg (fin s m e) (inf t) = rw (unlike_not s t) (infinite_neg (eqb m 0) (unlike s t))
mul_neg (fin s m e) (fin t n d) = rw (unlike_not s t) (round_neg binary64 (unlike s t) (m * up e * (n * up d)) (down e * down d))

pub neg_mul : (x y : Float) → Ieee.mul binary64 (neg x) y ≡ neg (Ieee.mul binary64 x y)
unfolding Ieee.mul neg
neg_mul nan y = refl
neg_mul (inf s) nan = refl
neg_mul (inf s) (inf t) = ap inf (not_unlike s t)
neg_mul (inf s) (fin t n d) = rw (not_unlike s t) (infinite_neg (eqb n 0) (unlike s t))
neg_mul (fin s m e) nan = refl
neg_mul (fin s m e) (inf t) = rw (not_unlike s t) (infinite_neg (eqb m 0) (unlike s t))
neg_mul (fin s m e) (fin t n d) = rw (not_unlike s t) (round_neg binary64 (unlike s t) (m * up e * (n * up d)) (down e * down d))

pub both_neg : (x y : Float) → Ieee.mul binary64 (neg x) (neg y) ≡ Ieee.mul binary64 x y
both_neg x y = neg_mul x (neg y) ∙ ap neg (mul_neg x y) ∙ neg_neg (Ieee.mul binary64 x y)

-- ---- its pattern and its neighbours
fields_neg : (f : Format) (x t : ℕ) → of_fields f true x t ≡ neg (of_fields f false x t)
unfolding of_fields neg
fields_neg f zero t = odd_neg (prec f) false t 0 (low f)
fields_neg f (suc x) t = go (eqb (suc x) (ones f)) (eqb t 0)
  where
    go : (b c : Bool) → cond b (cond c (inf true) nan) (odd (prec f) true (hid f + t) x (low f)) ≡ neg (cond b (cond c (inf false) nan) (odd (prec f) false (hid f + t) x (low f)))
    go true true = refl
    go true false = refl
    go false c = odd_neg (prec f) false (hid f + t) x (low f)

pattern_neg : (f : Format) (c : ℕ) → c < top f → of_bits f (top f + c) ≡ neg (of_bits f c)
pattern_neg f c h = read_minus f c h ∙ fields_neg f (c / hid f) _ ∙ ap neg (sym (read_plus f c h))

bits_neg : (x : Float) → T (finite x) → null ≺ value x → to_bits binary64 (neg x) ≡ top binary64 + to_bits binary64 x
unfolding to_bits neg
bits_neg nan p h = absurd p
bits_neg (inf s) p h = absurd p
bits_neg (fin true m e) p h = absurd (omega (arith, h))
bits_neg (fin false m e) p h = omega arith

module _ (x : Float) (f : T (fits binary64 x)) (p : T (finite x)) (h : null ≺ value x) where
  pattern : (0 < to_bits binary64 x) × (to_bits binary64 x < 0x7ff0_0000_0000_0000)
  pattern = positive_pattern x f p h

  abbrev b : ℕ
  b = to_bits binary64 x

  down_from : bits_down binary64 (top binary64 + b) ≡ top binary64 + (b + 1)
  down_from = bits_down_is binary64 (top binary64 + b) (omega (arith, pattern.1)) (λ e. omega (arith, e)) ∙ omega (arith, pattern.1)

  up_from : bits_up binary64 (top binary64 + b) ≡ top binary64 + (b - 1)
  up_from = bits_up_is binary64 (top binary64 + b) (omega (arith, pattern.1)) (λ e. omega (arith, e, pattern.0)) ∙ omega (arith, pattern.0, pattern.1)

  before_neg : next_down binary64 (neg x) ≡ neg (next_up binary64 x)
  unfolding next_down next_up
  before_neg =
      ap (λ (c : ℕ). of_bits binary64 (bits_down binary64 c)) (bits_neg x p h) ∙ ap (of_bits binary64) down_from ∙ pattern_neg binary64 (b + 1) (omega (arith, pattern.1))
      ∙ ap (λ (c : ℕ). neg (of_bits binary64 c)) (sym (bits_up_plus binary64 b (omega (arith, pattern.1))))

  after_neg : next_up binary64 (neg x) ≡ neg (next_down binary64 x)
  unfolding next_down next_up
  after_neg =
      ap (λ (c : ℕ). of_bits binary64 (bits_up binary64 c)) (bits_neg x p h) ∙ ap (of_bits binary64) up_from ∙ pattern_neg binary64 (b - 1) (omega (arith, pattern.1))
      ∙ ap (λ (c : ℕ). neg (of_bits binary64 c)) (sym (bits_down_plus binary64 b pattern.0 (omega (arith, pattern.1))))

-- it is not zero
opposite_nonzero : (x : Float) → T (fits binary64 x) → null ≺ value x → eq (neg x) zero_d ≡ false
unfolding neg
opposite_nonzero x f h = go (eq (neg x) zero_d) refl
  where
    no : (s : Bool) → null ≺ value (neg (fin s 0 (pos 0))) → ⊥
    no true k = omega (arith, k)
    no false k = omega (arith, k)

    go : (b : Bool) → eq (neg x) zero_d ≡ b → eq (neg x) zero_d ≡ false
    go true e =
        let w = is_zero_is (neg x) (neg-fits binary64 x f) e in
        absurd (no w.0 (subst (λ (y : Float). null ≺ value y) (sym (neg_neg x) ∙ ap neg w.1) h))
    go false e = e

-- ---- the least and the greatest of two opposites
module _ (x y : Float) (f : T (fits binary64 x)) (g : T (fits binary64 y)) (p : T (finite x)) (q : T (finite y)) (z : null ≺ value x) (h : T (le x y)) where
  in_order : value x ≼ value y
  in_order = le→≼ x y p q h

  same : lt (neg y) (neg x) ≡ false → x ≡ y
  same e =
      let k : value (neg x) ≼ value (neg y) = not_below (neg y) (neg x) (finite_neg y q) (finite_neg x p) e in
      let k' : opp (value x) ≼ opp (value y) = rw (value_neg x, value_neg y) at k in
      one_of_value x y f g p q (≺-≼-trans z in_order) (omega (arith, k')) in_order

  least_opposite : least (neg x) (neg y) ≡ neg y
  unfolding least
  least_opposite = go (lt (neg y) (neg x)) refl
    where
      go : (b : Bool) → lt (neg y) (neg x) ≡ b → cond b (neg y) (neg x) ≡ neg y
      go true e = refl
      go false e = ap neg (same e)

  greatest_opposite : greatest (neg x) (neg y) ≡ neg x
  unfolding greatest
  greatest_opposite = go (lt (neg y) (neg x)) refl
    where
      go : (b : Bool) → lt (neg y) (neg x) ≡ b → cond b (neg x) (neg y) ≡ neg x
      go true e = refl
      go false e = ap neg (sym (same e))

-- ---- ends whose lower one is above zero
record EndsAbove (l u : Float) : Type 0 where
  lower : T (finite l)
  upper : T (finite u)
  positive_lower : T (lt zero_d l)

ends_above : (l u : Float) → T (lt zero_d (Rules.ends l u).lower) → EndsAbove l u
unfolding Rules.ends lt of_bits
ends_above l u h = go (finite l) (finite u) (eq l zero_d) refl refl refl h
  where
    go : (a b c : Bool) → finite l ≡ a → finite u ≡ b → eq l zero_d ≡ c → T (lt zero_d (cond (a && b) (range (cond c zero_d l) (plus_zero u)) failed).lower) → EndsAbove l u
    go true true false i j k t = record { lower = subst T (sym i) tt; upper = subst T (sym j) tt; positive_lower = t }
    go true true true i j k t = absurd t
    go true false c i j k t = absurd t
    go false b c i j k t = absurd t

ends_nonzero : (l u : Float) → T (finite l) → T (finite u) → eq l zero_d ≡ false → eq u zero_d ≡ false → Rules.ends l u ≡ range l u
unfolding Rules.ends
ends_nonzero l u L U x y = rw (is_true (finite l) L, is_true (finite u) U, x, y)

pub where_finite : (x y : Float) → T (finite (cond (finite x) y nan)) → T (finite x)
where_finite nan y h = absurd h
where_finite (inf s) y h = absurd h
where_finite (fin s m e) y h = tt

-- ---- ends moved outwards
-- where the lower one stays above zero, the opposite ends move to the opposites
module _ (l u : Float) (f : T (fits binary64 l)) (g : T (fits binary64 u)) (i : T (le l u)) (h : T (lt zero_d (outwards l u).lower)) where
  moved : EndsAbove (before l) (after u)
  unfolding outwards
  moved = ends_above (before l) (after u) h

  pub l_finite : T (finite l)
  l_finite = where_finite l (next_down binary64 l) moved.lower

  pub u_finite : T (finite u)
  u_finite = where_finite u (next_up binary64 u) moved.upper

  before_is : before l ≡ next_down binary64 l
  before_is = rw (is_true (finite l) l_finite)

  after_is : after u ≡ next_up binary64 u
  after_is = rw (is_true (finite u) u_finite)

  down_finite : T (finite (next_down binary64 l))
  down_finite = rw before_is at moved.lower

  up_finite : T (finite (next_up binary64 u))
  up_finite = rw after_is at moved.upper

  down_above : null ≺ value (next_down binary64 l)
  down_above = positive_value (next_down binary64 l) down_finite (rw before_is at moved.positive_lower)

  pub l_above : null ≺ value l
  l_above = ≺-≼-trans down_above (≺→≼ (next_down_lt binary64 l f l_finite down_finite))

  u_above : null ≺ value u
  u_above = ≺-≼-trans l_above (le→≼ l u l_finite u_finite i)

  up_above : null ≺ value (next_up binary64 u)
  up_above = ≺-≼-trans u_above (≺→≼ (next_up_lt binary64 u g u_finite up_finite))

  above_is : outwards l u ≡ range (next_down binary64 l) (next_up binary64 u)
  unfolding outwards
  above_is =
      ap₂ Rules.ends before_is after_is
      ∙ ends_nonzero (next_down binary64 l) (next_up binary64 u) down_finite up_finite (above_nonzero (next_down binary64 l) (next_down_fits binary64 l) down_above) (above_nonzero (next_up binary64 u) (next_up_fits binary64 u) up_above)

  below_is : outwards (neg u) (neg l) ≡ range (neg (next_up binary64 u)) (neg (next_down binary64 l))
  unfolding outwards
  below_is =
      let a : before (neg u) ≡ neg (next_up binary64 u) = rw (is_true (finite (neg u)) (finite_neg u u_finite)) (before_neg u g u_finite u_above) in
      let b : after (neg l) ≡ neg (next_down binary64 l) = rw (is_true (finite (neg l)) (finite_neg l l_finite)) (after_neg l f l_finite l_above) in
      ap₂ Rules.ends a b
      ∙ ends_nonzero (neg (next_up binary64 u)) (neg (next_down binary64 l)) (finite_neg (next_up binary64 u) up_finite) (finite_neg (next_down binary64 l) down_finite)
      (opposite_nonzero (next_up binary64 u) (next_up_fits binary64 u) up_above) (opposite_nonzero (next_down binary64 l) (next_down_fits binary64 l) down_above)

  pub outwards_opposite : outwards (neg u) (neg l) ≡ range (neg (outwards l u).upper) (neg (outwards l u).lower)
  outwards_opposite = rw above_is below_is

-- ---- the product
module _ (p w : Range) (t : Factors p w) (f : T (fits binary64 w.upper)) (h : T (lt zero_d (Rules.mul p w).lower)) where
  abbrev ll : Float
  ll = Ieee.mul binary64 p.lower w.lower

  abbrev lu : Float
  lu = Ieee.mul binary64 p.lower w.upper

  abbrev ul : Float
  ul = Ieee.mul binary64 p.upper w.lower

  abbrev uu : Float
  uu = Ieee.mul binary64 p.upper w.upper

  both_ok : T (ok p) × T (ok w)
  unfolding Rules.mul lt of_bits
  both_ok = go (ok p) (ok w) _ h
    where
      go : (i j : Bool) (x : Range) → T (lt zero_d (cond i (cond j x failed) failed).lower) → T i × T j
      go true true x k = (tt, tt)
      go true false x k = absurd k
      go false j x k = absurd k

  U : T (finite p.upper)
  U = and_r (finite p.lower) (finite p.upper) both_ok.0

  W : T (finite w.upper)
  W = and_r (finite w.lower) (finite w.upper) both_ok.1

  fits_ll : T (fits binary64 ll)
  fits_ll = mul-fits binary64 p.lower w.lower

  fits_uu : T (fits binary64 uu)
  fits_uu = mul-fits binary64 p.upper w.upper

  in_rows : T (le ll uu)
  in_rows = product_in_order p w t U W

  above_zero : T (lt zero_d (outwards ll uu).lower)
  above_zero = subst (λ (r : Range). T (lt zero_d r.lower)) (positive_product p w t U W) h

  ll_finite : T (finite ll)
  ll_finite = l_finite ll uu fits_ll fits_uu in_rows above_zero

  uu_finite : T (finite uu)
  uu_finite = u_finite ll uu fits_ll fits_uu in_rows above_zero

  ll_above : null ≺ value ll
  ll_above = l_above ll uu fits_ll fits_uu in_rows above_zero

  lu_finite : T (finite lu)
  lu_finite = finite_between ll lu uu ll_finite uu_finite (first_row p w t U W) (second_column p w t U W)

  ul_finite : T (finite ul)
  ul_finite = finite_between ll ul uu ll_finite uu_finite (first_column p w t U W) (second_row p w t U W)

  lu_above : null ≺ value lu
  lu_above = ≺-≼-trans ll_above (le→≼ ll lu ll_finite lu_finite (first_row p w t U W))

  four_below : Rules.mul p (range (neg w.upper) (neg w.lower)) ≡ outwards (neg uu) (neg ll)
  unfolding Rules.mul Rules.four
  four_below =
      let pl = lower_finite p t.fits_r t.positive_r U in
      let wl = lower_finite w t.fits_s t.positive_s W in
      rw (
        is_true (finite p.lower) pl,
        is_true (finite p.upper) U,
        is_true (finite (neg w.upper)) (finite_neg w.upper W),
        is_true (finite (neg w.lower)) (finite_neg w.lower wl),
        no_zero p t.fits_r t.positive_r U,
        opposite_nonzero w.upper f (positive_value w.upper W (high w t.fits_s t.positive_s)),
        mul_neg p.lower w.upper,
        mul_neg p.lower w.lower,
        mul_neg p.upper w.upper,
        mul_neg p.upper w.lower,
        first_least _ _ (neg_le _ _ (first_row p w t U W)),
        first_least _ _ (neg_le _ _ (second_row p w t U W)),
        least_opposite lu uu (mul-fits binary64 p.lower w.upper) fits_uu lu_finite uu_finite lu_above (second_column p w t U W),
        second_greatest _ _ (neg_le _ _ (first_row p w t U W)),
        second_greatest _ _ (neg_le _ _ (second_row p w t U W)),
        greatest_opposite ll ul fits_ll (mul-fits binary64 p.upper w.lower) ll_finite ul_finite ll_above (first_column p w t U W),
      )

  pub negative_product : Rules.mul p (range (neg w.upper) (neg w.lower)) ≡ range (neg (Rules.mul p w).upper) (neg (Rules.mul p w).lower)
  negative_product = rw (positive_product p w t U W) (four_below ∙ outwards_opposite ll uu fits_ll fits_uu in_rows above_zero)

-- ---- a step of Horner's rule: a product below zero, and a number that outweighs it
pub record StepTests (p w q : Range) (c : Float) : Type 0 where
  pub factors : Factors p w
  pub fits_w : T (fits binary64 w.upper)
  pub product : q ≡ Rules.mul p w
  pub fits_q : T (fits binary64 q.lower)
  pub fits_c : T (fits binary64 c)
  pub product_above : T (lt zero_d q.lower)
  pub number_above : T (lt zero_d c)
  pub sum_above : T (lt zero_d (Ieee.add binary64 (neg q.upper) c))
  pub sum_in_order : T (le (Ieee.add binary64 (neg q.upper) c) (Ieee.add binary64 (neg q.lower) c))
  pub to_limit : T (lt (Ieee.add binary64 (neg q.lower) c) largest)

pub and_false : (b : Bool) → (b && false) ≡ false
and_false true = refl
and_false false = refl

pub step_below : (p w q : Range) (c : Float) → StepTests p w q c
    → Rules.add (Rules.mul p (range (neg w.upper) (neg w.lower))) (Rules.point c) ≡ outwards (Ieee.add binary64 (neg q.upper) c) (Ieee.add binary64 (neg q.lower) c)
unfolding Rules.add Rules.point
step_below p w q c t =
    let l = Ieee.add binary64 (neg q.upper) c in
    let u = Ieee.add binary64 (neg q.lower) c in
    let z : T (le zero_d l) = lt→le zero_d l t.sum_above in
    let U : T (finite u) = to_largest u (le_trans zero_d l u z t.sum_in_order) t.to_limit in
    let highs = terms_finite (neg q.upper) c (finite_between zero_d l u zero_finite U z t.sum_in_order) in
    let lows = terms_finite (neg q.lower) c U in
    let C = highs.1 in
    let nonzero = above_nonzero c t.fits_c (positive_value c C t.number_above) in
    let opposite : Rules.mul p (range (neg w.upper) (neg w.lower)) ≡ range (neg q.upper) (neg q.lower) =
    rw t.product (negative_product p w t.factors t.fits_w (subst (λ (r : Range). T (lt zero_d r.lower)) t.product t.product_above)) in
    rw (
      opposite,
      is_true (fits binary64 c) t.fits_c,
      ends_nonzero c c C C nonzero nonzero,
      is_true (finite (neg q.upper)) highs.0,
      is_true (finite (neg q.lower)) lows.0,
      is_true (finite c) C,
      opposite_nonzero q.lower t.fits_q (positive_value q.lower (subst (λ (x : Float). T (finite x)) (neg_neg q.lower) (finite_neg (neg q.lower) lows.0)) t.product_above),
      and_false (eq (neg q.upper) zero_d),
      nonzero,
    )
