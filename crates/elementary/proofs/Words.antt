-- Small whole numbers in an i64, and as doubles.
use Rattle.std.proofs.Common.{◌≡◌, ℕ, suc, ◌-◌, ◌^◌, ◌<◌, ◌≤◌, Bool, true, false, cond, T, ltb, ℤ, pos, negsuc, refl, arith, le→leb, ltb→lt, lt→ltb, leb→le, w64, SFits, to_z, ltb-true}
use lib.IntN.{sub_ℕ}
use lib.Signed.{mag}
use lib.Ieee.{binary64, in_float}
use mir.ValLaws.{to_z-of_z}

pub word : (n : ℕ) → n < 2 ^ 62 → to_z w64 n ≡ pos n
word n h = to_z-of_z w64 (pos n) (record { sfits = wide n h })
  where
    wide : (n : ℕ) → n < 2 ^ 62 → n < 2 ^ 63
    wide n h = omega arith

pub sub_word : (a b : ℕ) → a < 2 ^ 62 → b < 2 ^ 62 → SFits w64 (sub_ℕ a b)
sub_word a b h k = record { sfits = go (ltb a b) (ltb-true a b) }
  where
    go : (t : Bool) → (t ≡ true → a < b) → mag (cond t (negsuc (b - suc a)) (pos (a - b))) < 2 ^ 63
    go true l = let z = l refl in omega arith
    go false l = omega arith

pub sub_float : (a b : ℕ) → a < 2 ^ 52 → b < 2 ^ 52 → T (in_float binary64 (sub_ℕ a b))
unfolding in_float
sub_float a b h k = go (ltb a b) (ltb-true a b)
  where
    go : (t : Bool) → (t ≡ true → a < b) → T (in_float binary64 (cond t (negsuc (b - suc a)) (pos (a - b))))
    go true l = let z = l refl in lt→ltb (b - suc a) (2 ^ 53) (omega arith)
    go false l = le→leb (a - b) (2 ^ 53) (omega arith)

pub float_word : (z : ℤ) → T (in_float binary64 z) → SFits w64 z
unfolding in_float
float_word (pos n) t = record { sfits = let h : n ≤ 2 ^ 53 = leb→le n (2 ^ 53) t in omega arith }
float_word (negsuc n) t = record { sfits = let h : n < 2 ^ 53 = ltb→lt n (2 ^ 53) t in omega arith }
