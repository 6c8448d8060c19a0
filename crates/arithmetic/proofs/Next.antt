-- The next float up is above, the next float down is below, no float lies between, and a program may read their patterns.
use mathlib.Core.Path.{◌≡◌, refl, sym, ap, ap₂, subst, ◌∙◌}
use mathlib.Core.Logic.{◌≢◌, ◌⊎◌, inl, inr}
use Prim.Native.Nat.{ℕ, zero, suc, ◌+◌, ◌-◌, ◌*◌, ◌/◌, ◌%◌, ◌^◌, ◌≤◌, ◌<◌}
use native.Mathlib.Nat.{lt_of_not-le, eq-or-lt_of_le, le_of_suc-le-suc, mul-lt-mul_of_pos_right, add-mod_left, mod-eq_of_lt, mul-add-mod_self_left, div-add-mod', mod-lt, pow-succ', le-add_right, div-lt_iff_lt-mul, div-eq_of_lt, div-eq_of_lt-le}
use native.Mathlib.Omega.{arith}
use mathlib.Core.Bool.{Bool, true, false, not, cond}
use lib.Dec.{T, leb, ltb, eqb, ltb→lt, nltb→le, eqb→eq, le→leb, T_not, not_T}
use lib.Arith.{digits_div, digits_mod, lt→nleb, le→nltb, lt_of_le-ne}
use lib.IntN.{pos}
use lib.Pow.{pow_pos}
use lib.Ieee.{Float, nan, inf, fin, Format, binary32, binary64, prec, low, odd, le, fits, hid, ones, top, of_fields, of_bits, to_bits, is_nan, nan_bits}
use lib.Ieee.Bits.{is_true, is_false, of_bits-to_bits, to_bits-lt, of_bits-fits, nan_bits_is, nan_bits_above}
use lib.Ieee.Fits.{eq→eqb}
use lib.Ieee.Exact.{HasValue, odd_sign}
use lib.Ieee.Scale.{finite}
use Rattle.arithmetic.specs.Fraction.{Fraction, ◌≼◌, ◌≺◌}
use Rattle.arithmetic.specs.Value.{signed, value}
use Rattle.arithmetic.specs.Next.{bits_up, bits_down, next_up, next_down}
use Rattle.arithmetic.proofs.Fraction.{≼_refl, ≼_trans, ≺→≼, ≺-not-≼, ≼-≺-trans, ≺-≼-trans}
use Rattle.arithmetic.proofs.Value.{value_is, le→≼}

pub next_up_fits : (f : Format) (x : Float) → T (fits f (next_up f x))
unfolding next_up
next_up_fits f x = of_bits-fits f (bits_up f (to_bits f x))

pub next_down_fits : (f : Format) (x : Float) → T (fits f (next_down f x))
unfolding next_down
next_down_fits f x = of_bits-fits f (bits_down f (to_bits f x))

-- ---- the magnitude of a pattern without its sign, in units of the smallest value: by the exponent's field and the digits, h being the weight of the leading digit
abbrev pub steps : ℕ → ℕ → ℕ → ℕ
steps h zero t = t * 1
steps h (suc k) t = (h + t) * 2 ^ k

abbrev pub size_of : Format → ℕ → ℕ
size_of f c = steps (hid f) (c / hid f) (c % hid f)

-- it grows with the pattern
next_digit : (h x t : ℕ) → steps h x t < steps h x (suc t)
next_digit h zero t = omega arith
next_digit h (suc k) t = mul-lt-mul_of_pos_right (omega arith) (pow_pos k)

next_field : (h x t : ℕ) → suc t ≡ h → steps h x t < steps h (suc x) 0
next_field h zero t e = omega arith
next_field h (suc k) t e = rw pow-succ' (omega (arith, mul-lt-mul_of_pos_right (less h t e) (pow_pos k)))
  where
    less : (h t : ℕ) → suc t ≡ h → h + t < 2 * h
    less h t e = omega arith

grows : (h c : ℕ) → 0 < h → steps h (c / h) (c % h) < steps h (suc c / h) (suc c % h)
grows h c H = go (eq-or-lt_of_le (mod-lt c H))
  where
    x : ℕ
    x = c / h

    t : ℕ
    t = c % h

    is : x * h + t ≡ c
    is = div-add-mod' c h

    go : (suc t ≡ h) ⊎ (suc t < h) → steps h x t < steps h (suc c / h) (suc c % h)
    go (inr l) =
        let e : x * h + suc t ≡ suc c = omega (arith, is) in
        rw (← e, digits_div x l, digits_mod x l) (next_digit h x t)
    go (inl q) =
        let e : suc x * h + 0 ≡ suc c = omega (arith, is) in
        rw (← e, digits_div (suc x) H, digits_mod (suc x) H) (next_field h x t q)

-- ---- what a pattern is read as
of_bits_is : (f : Format) (b : ℕ) → of_bits f b ≡ of_fields f (leb (top f) b) (b % top f / hid f) (b % hid f)
unfolding of_bits
of_bits_is f b = refl

pub read_plus : (f : Format) (c : ℕ) → c < top f → of_bits f c ≡ of_fields f false (c / hid f) (c % hid f)
read_plus f c h =
    of_bits_is f c
    ∙ ap₂ (λ (s : Bool) (y : ℕ). of_fields f s (y / hid f) (c % hid f)) (is_false (leb (top f) c) (lt→nleb (top f) c h)) (mod-eq_of_lt h)

pub read_minus : (f : Format) (c : ℕ) → c < top f → of_bits f (top f + c) ≡ of_fields f true (c / hid f) (c % hid f)
read_minus f c h =
    of_bits_is f (top f + c)
    ∙ ap₂ (λ (s : Bool) (y : ℕ). of_fields f s (y / hid f) ((top f + c) % hid f)) (is_true (leb (top f) (top f + c)) (le→leb (top f) (top f + c) (le-add_right (top f) c))) (add-mod_left (top f) c ∙ mod-eq_of_lt h)
    ∙ ap (λ (y : ℕ). of_fields f true (c / hid f) y) (mul-add-mod_self_left (hid f) (suc (ones f)) c)

pub fields_value : (f : Format) (s : Bool) (x t : ℕ) → T (finite (of_fields f s x t)) → HasValue (of_fields f s x t) s (steps (hid f) x t) (2 ^ low f)
unfolding of_fields
fields_value f s zero t h = odd_sign (prec f) s t 0 (low f)
fields_value f s (suc x) t h = go (eqb (suc x) (ones f)) (eqb t 0) h
  where
    go : (b c : Bool) → T (finite (cond b (cond c (inf s) nan) (odd (prec f) s (hid f + t) x (low f)))) → HasValue (cond b (cond c (inf s) nan) (odd (prec f) s (hid f + t) x (low f))) s ((hid f + t) * 2 ^ x) (2 ^ low f)
    go false c h = odd_sign (prec f) s (hid f + t) x (low f)
    go true true h = absurd h
    go true false h = absurd h

-- the exponent's field of a finite value is not the highest
fields_not_ones : (f : Format) (s : Bool) (x t : ℕ) → T (finite (of_fields f s x t)) → x ≡ ones f → ⊥
unfolding of_fields
fields_not_ones f s zero t h e = omega arith
fields_not_ones f s (suc x) t h e = go (eqb (suc x) (ones f)) (eqb t 0) (eq→eqb e) h
  where
    go : (b c : Bool) → T b → T (finite (cond b (cond c (inf s) nan) (odd (prec f) s (hid f + t) x (low f)))) → ⊥
    go true true u h = h
    go true false u h = h
    go false c u h = u

hid_pos : (f : Format) → 0 < hid f
hid_pos f = pow_pos (prec f - 1)

-- so the next pattern is an infinity's at most, and has the same sign
pub below_inf : (f : Format) (s : Bool) (c : ℕ) → c < top f → T (finite (of_fields f s (c / hid f) (c % hid f))) → suc c ≤ ones f * hid f
below_inf f s c h p =
    let x_le : c / hid f < suc (ones f) = (div-lt_iff_lt-mul (hid_pos f)).1 (omega (arith, h)) in
    let x_lt : c / hid f < ones f = lt_of_le-ne (le_of_suc-le-suc x_le) (fields_not_ones f s (c / hid f) (c % hid f) p) in
    (div-lt_iff_lt-mul (hid_pos f)).0 x_lt

room : (f : Format) (s : Bool) (c : ℕ) → c < top f → T (finite (of_fields f s (c / hid f) (c % hid f))) → suc c < top f
room f s c h p = omega (arith, below_inf f s c h p, hid_pos f)

-- and a pattern below the infinity's is a finite value's
odd_finite : (d : ℕ) (s : Bool) (q k l : ℕ) → T (finite (odd d s q k l))
unfolding odd
odd_finite d s zero k l = tt
odd_finite d s (suc q) k l = tt

fields_finite : (f : Format) (s : Bool) (x t : ℕ) → x ≢ ones f → T (finite (of_fields f s x t))
unfolding of_fields
fields_finite f s zero t n = odd_finite (prec f) s t 0 (low f)
fields_finite f s (suc x) t n = go (eqb (suc x) (ones f)) (eqb t 0) (eqb→eq (suc x) (ones f))
  where
    go : (b c : Bool) → (T b → suc x ≡ ones f) → T (finite (cond b (cond c (inf s) nan) (odd (prec f) s (hid f + t) x (low f))))
    go true c e = absurd (n (e tt))
    go false c e = odd_finite (prec f) s (hid f + t) x (low f)

fields_below : (f : Format) (s : Bool) (c : ℕ) → c < ones f * hid f → T (finite (of_fields f s (c / hid f) (c % hid f)))
fields_below f s c h =
    let k : c / hid f < ones f = (div-lt_iff_lt-mul (hid_pos f)).1 h in
    fields_finite f s (c / hid f) (c % hid f) (λ e. omega (arith, k, e))

pub pattern_finite : (f : Format) (c : ℕ) → c < ones f * hid f → T (finite (of_bits f c))
pattern_finite f c h = rw (read_plus f c (omega (arith, h))) (fields_below f false c h)

-- up to the infinity's, it is none of a NaN
pub real_plus : (f : Format) (c : ℕ) → c < top f → c ≤ ones f * hid f → T (not (nan_bits f c))
real_plus f c h k = subst (λ (b : Bool). T (not b)) (sym (nan_bits_above f c ∙ ap (ltb (ones f * hid f)) (mod-eq_of_lt h))) (le→nltb (ones f * hid f) c k)

real_minus : (f : Format) (c : ℕ) → c < top f → c ≤ ones f * hid f → T (not (nan_bits f (top f + c)))
real_minus f c h k = subst (λ (b : Bool). T (not b)) (sym (nan_bits_above f (top f + c) ∙ ap (ltb (ones f * hid f)) (add-mod_left (top f) c ∙ mod-eq_of_lt h))) (le→nltb (ones f * hid f) c k)

-- ---- the floats in their order: the place of the two zeros is `top f`, those of the patterns with the sign clear follow, and those with the sign set precede it
-- the value at the place n
abbrev at : Format → ℕ → Fraction
at f n = record { plus = size_of f (n - top f); minus = size_of f (top f - n); den = 2 ^ low f; above = pow_pos (low f) }

zero_size : (f : Format) → size_of f 0 ≡ 0
zero_size binary32 = refl
zero_size binary64 = refl

at_grows : (f : Format) (n : ℕ) → at f n ≺ at f (suc n)
at_grows f n = go (ltb n (top f)) (ltb→lt n (top f)) (nltb→le n (top f))
  where
    times : {a b : ℕ} → a < b → a * 2 ^ low f < b * 2 ^ low f
    times h = mul-lt-mul_of_pos_right h (pow_pos (low f))

    go : (t : Bool) → (T t → n < top f) → (T (not t) → top f ≤ n) → at f n ≺ at f (suc n)
    go true h k =
        let e : top f - n ≡ suc (top f - suc n) = omega (arith, h tt) in
        let e' : n - top f ≡ 0 = omega (arith, h tt) in
        let e'' : suc n - top f ≡ 0 = omega (arith, h tt) in
        record { cross = rw (e, e', e'') (omega (arith, times (grows (hid f) (top f - suc n) (hid_pos f)))) }
    go false h k =
        let e : suc n - top f ≡ suc (n - top f) = omega (arith, k tt) in
        let e' : top f - n ≡ 0 = omega (arith, k tt) in
        let e'' : top f - suc n ≡ 0 = omega (arith, k tt) in
        record { cross = rw (e, e', e'') (omega (arith, times (grows (hid f) (n - top f) (hid_pos f)))) }

at_mono : (f : Format) (n m : ℕ) → n ≤ m → at f n ≼ at f m
at_mono f n zero h = let e : n ≡ 0 = omega arith in rw e (≼_refl (at f 0))
at_mono f n (suc m) h = elim (eq-or-lt_of_le h) [ inl e ↦ rw e (≼_refl (at f (suc m))) | inr l ↦ ≼_trans (at_mono f n m (le_of_suc-le-suc l)) (≺→≼ (at_grows f m)) ]

-- x has the place n, and is finite where that is nearer to the zeros than an infinity's, and no NaN where it is as near
record Place (f : Format) (n : ℕ) (x : Float) : Type 0 where
  inner : T (finite x) → (top f < n + ones f * hid f) × (n < top f + ones f * hid f)
  number : top f < n + ones f * hid f → n < top f + ones f * hid f → T (finite x)
  real : top f ≤ n + ones f * hid f → n ≤ top f + ones f * hid f → T (not (is_nan x))
  is : T (finite x) → (value x ≼ at f n) × (at f n ≼ value x)

neqb→ne : (a b : ℕ) → T (not (eqb a b)) → a ≢ b
neqb→ne a b n e = T_not (eqb a b) n (eq→eqb e)

one_lt_top : (f : Format) → 1 < top f
one_lt_top f = omega (arith, hid_pos f)

module _ (f : Format) where
  read_value : (s : Bool) (c : ℕ) (x : Float) → x ≡ of_fields f s (c / hid f) (c % hid f) → T (finite x)
      → (value x ≼ signed s (size_of f c) (2 ^ low f) (pow_pos (low f))) × (signed s (size_of f c) (2 ^ low f) (pow_pos (low f)) ≼ value x)
  read_value s c x e p = value_is x s (size_of f c) (2 ^ low f) (pow_pos (low f)) (rw e (fields_value f s (c / hid f) (c % hid f) (rw e at p)))

  plus_place : (c n : ℕ) → c < top f → n ≡ top f + c → Place f n (of_bits f c)
  plus_place c n h e =
      let r = read_plus f c h in
      let d : n - top f ≡ c = omega (arith, e) in
      let d' : top f - n ≡ 0 = omega (arith, e) in
      record {
        inner = λ p. let k = below_inf f false c h (rw r at p) in (omega (arith, e, k), omega (arith, e, k));
        number = λ l u. rw r (fields_below f false c (omega (arith, e, u)));
        real = λ l u. rw (← nan_bits_is f c) (real_plus f c h (omega (arith, e, u)));
        is = λ p. rw (d, d', zero_size f) (read_value false c (of_bits f c) r p);
      }

  minus_place : (b c n : ℕ) → b ≡ top f + c → c < top f → n + c ≡ top f → Place f n (of_bits f b)
  minus_place b c n i h e =
      let r = ap (of_bits f) i ∙ read_minus f c h in
      let d : n - top f ≡ 0 = omega (arith, e) in
      let d' : top f - n ≡ c = omega (arith, e) in
      record {
        inner = λ p. let k = below_inf f true c h (rw r at p) in (omega (arith, e, k), omega (arith, e, k));
        number = λ l u. rw r (fields_below f true c (omega (arith, e, l)));
        real = λ l u. rw (← nan_bits_is f b, i) (real_minus f c h (omega (arith, e, l)));
        is = λ p. rw (d, d', zero_size f) (read_value true c (of_bits f b) r p);
      }

-- the places of a float and of its neighbours
record Neighbours (f : Format) (x up down : Float) : Type 0 where
  place : ℕ
  here : Place f (suc place) x
  above : Place f (suc (suc place)) up
  below : Place f place down

neighbours : (f : Format) (b : ℕ) → b < 2 * top f → T (finite (of_bits f b)) → Neighbours f (of_bits f b) (of_bits f (bits_up f b)) (of_bits f (bits_down f b))
unfolding bits_up bits_down
neighbours f b B p = go (ltb b (top f)) (eqb b 0) (eqb b (top f)) (ltb→lt b (top f)) (nltb→le b (top f)) (eqb→eq b 0) (neqb→ne b 0) (eqb→eq b (top f)) (neqb→ne b (top f))
  where
    plus : (d : ℕ) → b < top f → Place f (top f + b - 1) (of_bits f d) → Neighbours f (of_bits f b) (of_bits f (suc b)) (of_bits f d)
    plus d h k = record {
      place = top f + b - 1;
      here = plus_place f b _ h (omega (arith, one_lt_top f));
      above = plus_place f (suc b) _ (room f false b h (rw (read_plus f b h) at p)) (omega (arith, one_lt_top f));
      below = k;
    }

    minus : (c u : ℕ) → b ≡ top f + c → Place f (suc (top f - c)) (of_bits f u) → Neighbours f (of_bits f b) (of_bits f u) (of_bits f (suc b))
    minus c u e k =
        let h : c < top f = omega (arith, e, B) in
        let r = room f true c h (rw (ap (of_bits f) e ∙ read_minus f c h) at p) in
        let i : top f - c ≡ suc (top f - c - 1) = omega (arith, h) in
        record {
          place = top f - c - 1;
          here = minus_place f b c _ e h (omega (arith, h));
          above = rw i at k;
          below = minus_place f (suc b) (suc c) _ (omega (arith, e)) r (omega (arith, h));
        }

    go : (t u v : Bool) → (T t → b < top f) → (T (not t) → top f ≤ b) → (T u → b ≡ 0) → (T (not u) → b ≢ 0) → (T v → b ≡ top f) → (T (not v) → b ≢ top f)
        → Neighbours f (of_bits f b) (of_bits f (cond t (suc b) (cond v 1 (b - 1)))) (of_bits f (cond t (cond u (suc (top f)) (b - 1)) (suc b)))
    go true true v h i j k l m = plus _ (h tt) (minus_place f _ 1 _ (omega arith) (one_lt_top f) (omega (arith, j tt, one_lt_top f)))
    go true false v h i j k l m = plus _ (h tt) (plus_place f (b - 1) _ (omega (arith, h tt)) (omega (arith, k tt)))
    go false u true h i j k l m = minus 0 1 (omega (arith, l tt)) (plus_place f 1 _ (one_lt_top f) (omega arith))
    go false u false h i j k l m = minus (b - top f) _ (omega (arith, i tt)) (minus_place f (b - 1) (b - top f - 1) _ (omega (arith, i tt, m tt)) (omega (arith, B)) (omega (arith, i tt, m tt, B)))

around : (f : Format) (x : Float) → T (fits f x) → T (finite x) → Neighbours f x (next_up f x) (next_down f x)
unfolding next_up next_down
around f x h p =
    let e : of_bits f (to_bits f x) ≡ x = of_bits-to_bits f x h in
    subst (λ (y : Float). Neighbours f y (next_up f x) (next_down f x)) e (neighbours f (to_bits f x) (to_bits-lt f x h) (subst (λ (y : Float). T (finite y)) (sym e) p))

-- ---- the laws
module _ (f : Format) (x : Float) (h : T (fits f x)) (p : T (finite x)) where
  pub next_up_lt : T (finite (next_up f x)) → value x ≺ value (next_up f x)
  next_up_lt k = let a = around f x h p in ≼-≺-trans (a.here.is p).0 (≺-≼-trans (at_grows f _) (a.above.is k).1)

  pub next_down_lt : T (finite (next_down f x)) → value (next_down f x) ≺ value x
  next_down_lt k = let a = around f x h p in ≼-≺-trans (a.below.is k).0 (≺-≼-trans (at_grows f _) (a.here.is p).1)

-- no float lies between a float and the next one
module _ (f : Format) (x y : Float) (h : T (fits f x)) (k : T (fits f y)) (p : T (finite x)) (q : T (finite y)) (l : value x ≺ value y) where
  abbrev a : Neighbours f x (next_up f x) (next_down f x)
  a = around f x h p

  abbrev b : Neighbours f y (next_up f y) (next_down f y)
  b = around f y k q

  in_order : a.place < b.place
  in_order = lt_of_not-le (λ n. ≺-not-≼ l (≼_trans (b.here.is q).0 (≼_trans (at_mono f (suc b.place) (suc a.place) (omega (arith, n))) (a.here.is p).1)))

  pub next_up_least : T (finite (next_up f x)) × (value (next_up f x) ≼ value y)
  next_up_least =
      let w : T (finite (next_up f x)) = a.above.number (omega (arith, a.here.inner p)) (omega (arith, in_order, b.here.inner q)) in
      (w, ≼_trans (a.above.is w).0 (≼_trans (at_mono f (suc (suc a.place)) (suc b.place) (omega (arith, in_order))) (b.here.is q).1))

  pub next_down_greatest : T (finite (next_down f y)) × (value x ≼ value (next_down f y))
  next_down_greatest =
      let w : T (finite (next_down f y)) = b.below.number (omega (arith, in_order, a.here.inner p)) (omega (arith, b.here.inner q)) in
      (w, ≼_trans (a.here.is p).0 (≼_trans (at_mono f (suc a.place) b.place (omega (arith, in_order))) (b.below.is w).1))

-- ---- the laws as ones of `le`, the infinities included. (Past the greatest infinity there is no number, and past the least comes the least number.)
past_inf : (f : Format) → next_up f (inf false) ≡ nan
unfolding next_up of_bits to_bits
past_inf binary32 = refl
past_inf binary64 = refl

past_minus_inf : (f : Format) → next_down f (inf true) ≡ nan
unfolding next_down of_bits to_bits
past_minus_inf binary32 = refl
past_minus_inf binary64 = refl

pub not_le_inf : (u : Float) → T (finite u) → T (not (le u (inf true)))
unfolding le
not_le_inf nan h = absurd h
not_le_inf (inf s) h = absurd h
not_le_inf (fin s m e) h = tt

pub not_inf_le : (u : Float) → T (finite u) → T (not (le (inf false) u))
unfolding le
not_inf_le nan h = absurd h
not_inf_le (inf s) h = absurd h
not_inf_le (fin s m e) h = tt

≺→not-le : (x y : Float) → T (finite x) → T (finite y) → value x ≺ value y → T (not (le y x))
≺→not-le x y p q h = not_T (le y x) (λ k. ≺-not-≼ h (le→≼ y x q p k))

pub next_up_over : (f : Format) (x : Float) → T (fits f x) → T (not (is_nan x)) → T (finite (next_up f x)) → T (not (le (next_up f x) x))
next_up_over f nan h n k = absurd (unfold is_nan in n)
next_up_over f (inf true) h n k = not_le_inf (next_up f (inf true)) k
next_up_over f (inf false) h n k = absurd (subst (λ (y : Float). T (finite y)) (past_inf f) k)
next_up_over f (fin s m e) h n k = ≺→not-le (fin s m e) (next_up f (fin s m e)) tt k (next_up_lt f (fin s m e) h tt k)

pub next_down_under : (f : Format) (x : Float) → T (fits f x) → T (not (is_nan x)) → T (finite (next_down f x)) → T (not (le x (next_down f x)))
next_down_under f nan h n k = absurd (unfold is_nan in n)
next_down_under f (inf false) h n k = not_inf_le (next_down f (inf false)) k
next_down_under f (inf true) h n k = absurd (subst (λ (y : Float). T (finite y)) (past_minus_inf f) k)
next_down_under f (fin s m e) h n k = ≺→not-le (next_down f (fin s m e)) (fin s m e) k tt (next_down_lt f (fin s m e) h tt k)

-- ---- a program may read the next pattern: it is none of a NaN
pub finite_not_nan : (x : Float) → T (finite x) → T (not (is_nan x))
unfolding is_nan
finite_not_nan nan p = p
finite_not_nan (inf s) p = absurd p
finite_not_nan (fin s m e) p = tt

module _ (f : Format) (x : Float) (h : T (fits f x)) (p : T (finite x)) where
  pub bits_up_real : T (not (nan_bits f (bits_up f (to_bits f x))))
  unfolding next_up
  bits_up_real = let a = around f x h p in rw (nan_bits_is f (bits_up f (to_bits f x))) (a.above.real (omega (arith, a.here.inner p)) (omega (arith, a.here.inner p)))

  pub bits_down_real : T (not (nan_bits f (bits_down f (to_bits f x))))
  unfolding next_down
  bits_down_real = let a = around f x h p in rw (nan_bits_is f (bits_down f (to_bits f x))) (a.below.real (omega (arith, a.here.inner p)) (omega (arith, a.here.inner p)))

-- ---- the next pattern as a program works it out: the sign is a number, and zeros are left aside
sign_set : (f : Format) (b : ℕ) → top f ≤ b → b < 2 * top f → b / top f ≡ 1
sign_set f b h B = div-eq_of_lt-le (top f) (omega arith) (omega arith)

pub bits_up_is : (f : Format) (b : ℕ) → b < 2 * top f → b ≢ top f → bits_up f b ≡ b + 1 - b / top f * 2
unfolding bits_up
bits_up_is f b B n = go (ltb b (top f)) (eqb b (top f)) (ltb→lt b (top f)) (nltb→le b (top f)) (eqb→eq b (top f))
  where
    go : (t u : Bool) → (T t → b < top f) → (T (not t) → top f ≤ b) → (T u → b ≡ top f) → cond t (suc b) (cond u 1 (b - 1)) ≡ b + 1 - b / top f * 2
    go true u h k e = omega (arith, div-eq_of_lt (h tt))
    go false true h k e = absurd (n (e tt))
    go false false h k e = omega (arith, sign_set f b (k tt) B)

pub bits_down_is : (f : Format) (b : ℕ) → b < 2 * top f → b ≢ 0 → bits_down f b ≡ b - 1 + b / top f * 2
unfolding bits_down
bits_down_is f b B n = go (ltb b (top f)) (eqb b 0) (ltb→lt b (top f)) (nltb→le b (top f)) (eqb→eq b 0)
  where
    go : (t u : Bool) → (T t → b < top f) → (T (not t) → top f ≤ b) → (T u → b ≡ 0) → cond t (cond u (suc (top f)) (b - 1)) (suc b) ≡ b - 1 + b / top f * 2
    go true true h k e = absurd (n (e tt))
    go true false h k e = omega (arith, div-eq_of_lt (h tt))
    go false u h k e = omega (arith, sign_set f b (k tt) B, one_lt_top f)

-- where the sign is clear
pub bits_up_plus : (f : Format) (b : ℕ) → b < top f → bits_up f b ≡ b + 1
bits_up_plus f b h = bits_up_is f b (omega (arith, h)) (λ e. omega (arith, h, e)) ∙ omega (arith, div-eq_of_lt h)

pub bits_down_plus : (f : Format) (b : ℕ) → 0 < b → b < top f → bits_down f b ≡ b - 1
bits_down_plus f b z h = bits_down_is f b (omega (arith, h)) (λ e. omega (arith, z, e)) ∙ omega (arith, div-eq_of_lt h)

pub next_up_zero : (s : Bool) → next_up binary64 (fin s 0 (pos 0)) ≡ of_bits binary64 1
unfolding next_up to_bits
next_up_zero true = refl
next_up_zero false = refl

pub next_down_zero : (s : Bool) → next_down binary64 (fin s 0 (pos 0)) ≡ of_bits binary64 (2 ^ 63 + 1)
unfolding next_down to_bits
next_down_zero true = refl
next_down_zero false = refl

-- one more than a finite value's pattern is a pattern too
pub pattern_room : (f : Format) (x : Float) → T (fits f x) → T (finite x) → to_bits f x + 1 < 2 * top f
pattern_room f x h p = go (to_bits f x) (to_bits-lt f x h) (subst (λ (y : Float). T (finite y)) (sym (of_bits-to_bits f x h)) p) (ltb (to_bits f x) (top f)) (ltb→lt (to_bits f x) (top f)) (nltb→le (to_bits f x) (top f))
  where
    go : (b : ℕ) → b < 2 * top f → T (finite (of_bits f b)) → (t : Bool) → (T t → b < top f) → (T (not t) → top f ≤ b) → b + 1 < 2 * top f
    go b B q true h k = omega (arith, h tt, one_lt_top f)
    go b B q false h k =
        let e : b ≡ top f + (b - top f) = omega (arith, k tt) in
        let l : b - top f < top f = omega (arith, k tt, B) in
        omega (arith, k tt, room f true (b - top f) l (rw (ap (of_bits f) e ∙ read_minus f (b - top f) l) at q))
