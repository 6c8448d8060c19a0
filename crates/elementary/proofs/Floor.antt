-- The floor of a double from -1022 to 1024, by its whole part and one comparison.
use Rattle.std.proofs.Common.{◌≡◌, ℕ, zero, suc, ◌-◌, ◌*◌, ◌/◌, ◌^◌, ◌<◌, ◌≤◌, min, Bool, true, false, cond, T, ℤ, pos, negsuc, neg_ℤ, sym, ◌∙◌, subst, inl, inr, le_trans, div-lt_iff_lt-mul, div-mul-le_self, le_of_mul-le-mul_right, arith, le→leb, lt→ltb, leb→le, w64, SFits}
use mathlib.Core.Bool.{false≢true}
use lib.IntN.{suc_ℤ, pred_ℤ, suc-pred}
use lib.Ieee.Bits.{is_true}
use lib.Ieee.{Float, nan, inf, fin, binary64, up, down, lt, le, of_int, to_signed, in_float}
use lib.Ieee.Fits.{down_pos}
use lib.Ieee.Scale.{finite}
use Rattle.arithmetic.specs.Fraction.{Fraction, ◌≼◌, ◌≺◌, whole}
use Rattle.arithmetic.specs.Value.{value, signed}
use Rattle.arithmetic.specs.Cases.{floor_of}
use Rattle.arithmetic.proofs.Fraction.{≼_trans, ≺-≼-trans, ≼-≺-trans, ≼-or-≻}
use Rattle.arithmetic.proofs.Value.{≼→le, ≺→lt, lt→≺}
use Rattle.arithmetic.proofs.Cases.{In, floor_is, floor_in}
use Rattle.arithmetic.proofs.Exact.{whole_exact}
use Rattle.elementary.specs.Exponents.{Normal}

-- from -1022, and below 1024
abbrev pub Bounded : Float → Type 0
Bounded x = T (finite x) × (whole (negsuc 1021) ≼ value x) × (value x ≺ whole (pos 1024))

-- the exponent of a normal double
pub floor_normal : (q : Fraction) → whole (negsuc 1021) ≼ q → q ≺ whole (pos 1024) → Normal (floor_of q)
floor_normal q l h = go (floor_of q) (floor_in q)
  where
    go : (k : ℤ) → In whole k q → Normal k
    go (pos n) i = (tt, le→leb n 1023 (omega (arith, ≼-≺-trans i.low h)))
    go (negsuc zero) i = (tt, tt)
    go (negsuc (suc n)) i = (le→leb (suc n) 1021 (omega (arith, ≼-≺-trans l i.high)), tt)

pub normal_float : (k : ℤ) → Normal k → T (in_float binary64 k)
unfolding in_float
normal_float (pos n) h = le→leb n (2 ^ 53) (omega (arith, leb→le n 1023 h.1))
normal_float (negsuc n) h = lt→ltb n (2 ^ 53) (omega (arith, leb→le n 1021 h.0))

pub normal_word : (k : ℤ) → Normal k → SFits w64 k
normal_word (pos n) h = record { sfits = omega (arith, leb→le n 1023 h.1) }
normal_word (negsuc n) h = record { sfits = omega (arith, leb→le n 1021 h.0) }

-- the next whole number
pub next_float : (k : ℤ) → Normal k → T (in_float binary64 (suc_ℤ k))
unfolding in_float
next_float (pos n) h = le→leb (suc n) (2 ^ 53) (omega (arith, leb→le n 1023 h.1))
next_float (negsuc zero) h = tt
next_float (negsuc (suc n)) h = lt→ltb n (2 ^ 53) (omega (arith, leb→le (suc n) 1021 h.0))

pub next_word : (k : ℤ) → Normal k → SFits w64 (suc_ℤ k)
next_word (pos n) h = record { sfits = omega (arith, leb→le n 1023 h.1) }
next_word (negsuc zero) h = record { sfits = omega arith }
next_word (negsuc (suc n)) h = record { sfits = omega (arith, leb→le (suc n) 1021 h.0) }

-- ---- the whole part: cut towards zero
pub record WholePart (x : Float) (t : ℤ) : Type 0 where
  pub low : whole (pred_ℤ t) ≼ value x
  pub high : value x ≺ whole (suc_ℤ t)
  pub float : T (in_float binary64 t)

-- a magnitude M / d, at most 1024, and its whole part c
module _ (M d c : ℕ) (D : 0 < d) (small : M ≤ 1024 * d) (lo : c * d ≤ M) (hi : M < suc c * d) where
  few : c ≤ 1024
  few = le_of_mul-le-mul_right (le_trans lo small) D

  plus_low : (c : ℕ) → c * d ≤ M → whole (pred_ℤ (pos c)) ≼ signed false M d D
  plus_low zero l = omega arith
  plus_low (suc k) l = omega (arith, l)

  minus_low : (c : ℕ) → M < suc c * d → whole (pred_ℤ (neg_ℤ (pos c))) ≼ signed true M d D
  minus_low zero h = omega (arith, h)
  minus_low (suc k) h = omega (arith, h)

  minus_high : (c : ℕ) → c * d ≤ M → signed true M d D ≺ whole (suc_ℤ (neg_ℤ (pos c)))
  minus_high zero l = omega arith
  minus_high (suc zero) l = omega (arith, l)
  minus_high (suc (suc k)) l = omega (arith, l)

  float : (s : Bool) → T (in_float binary64 (cond s (neg_ℤ (pos c)) (pos c)))
  unfolding in_float
  float true = go c few
    where
      go : (c : ℕ) → c ≤ 1024 → T (in_float binary64 (neg_ℤ (pos c)))
      go zero h = tt
      go (suc k) h = lt→ltb k (2 ^ 53) (omega arith)
  float false = le→leb c (2 ^ 53) (omega (arith, few))

pub whole_part : (x : Float) → Bounded x → WholePart x (to_signed 63 x)
unfolding to_signed
whole_part nan h = absurd h.0
whole_part (inf s) h = absurd h.0
whole_part (fin s m e) h = go s (small s h.1 h.2)
  where
    M : ℕ
    M = m * up e

    c : ℕ
    c = M / down e

    lo : c * down e ≤ M
    lo = div-mul-le_self M (down e)

    hi : M < suc c * down e
    hi = (div-lt_iff_lt-mul (down_pos e)).0 (omega arith)

    small : (s : Bool) → whole (negsuc 1021) ≼ value (fin s m e) → value (fin s m e) ≺ whole (pos 1024) → M ≤ 1024 * down e
    small true l u = omega (arith, l)
    small false l u = omega (arith, u)

    go : (s : Bool) → M ≤ 1024 * down e → WholePart (fin s m e) (cond s (neg_ℤ (pos (min c (2 ^ 63)))) (pos (min c (2 ^ 63 - 1))))
    go true b =
        let D = down_pos e in
        let k : min c (2 ^ 63) ≡ c = omega (arith, few M (down e) c D b lo hi) in
        rw k (record { low = minus_low M (down e) c D b lo hi c hi; high = minus_high M (down e) c D b lo hi c lo; float = float M (down e) c D b lo hi true })
    go false b =
        let D = down_pos e in
        let k : min c (2 ^ 63 - 1) ≡ c = omega (arith, few M (down e) c D b lo hi) in
        rw k (record { low = plus_low M (down e) c D b lo hi c lo; high = omega (arith, hi); float = float M (down e) c D b lo hi false })

-- ---- the floor: one less where x lies below its whole part
module _ (x : Float) (B : Bounded x) where
  pub floor_below : lt x (of_int binary64 (to_signed 63 x)) ≡ true → floor_of (value x) ≡ pred_ℤ (to_signed 63 x)
  floor_below h =
      let w = whole_part x B in
      let z = whole_exact (to_signed 63 x) w.float in
      floor_is (value x) (pred_ℤ (to_signed 63 x)) (record { low = w.low; high = rw (suc-pred (to_signed 63 x)) (≺-≼-trans (lt→≺ x (of_int binary64 (to_signed 63 x)) B.0 z.0 (subst T (sym h) tt)) z.1) })

  pub floor_above : lt x (of_int binary64 (to_signed 63 x)) ≡ false → floor_of (value x) ≡ to_signed 63 x
  floor_above h =
      let w = whole_part x B in
      let z = whole_exact (to_signed 63 x) w.float in
      floor_is (value x) (to_signed 63 x) (record { low = elim (≼-or-≻ (whole (to_signed 63 x)) (value x)) [ inl k ↦ k | inr k ↦ absurd (false≢true (sym h ∙ is_true _ (≺→lt x (of_int binary64 (to_signed 63 x)) B.0 z.0 (≺-≼-trans k z.2)))) ]; high = w.high })

-- what the truncation asks
pub wide : (x : Float) → Bounded x → T (le (fin true 1 (pos 63)) x) × T (lt x (fin false 1 (pos 63)))
wide x B = (≼→le (fin true 1 (pos 63)) x tt B.0 (≼_trans (record { cross = leb→le _ _ tt }) B.1), ≺→lt x (fin false 1 (pos 63)) B.0 tt (≺-≼-trans B.2 (record { cross = leb→le _ _ tt })))
