-- Reading undoes writing, and writing undoes reading: for numbers, and for doubles where they are no NaN's.
use Prim.Native.Nat.{ℕ, zero, suc, ◌+◌, ◌*◌, ◌/◌, ◌%◌, ◌^◌, ◌≤◌, ◌<◌}
use mathlib.Core.Path.{◌≡◌, refl, sym, ap, ap₂, ◌∙◌}
use mathlib.Core.Bool.{not}
use mathlib.Core.List.{List, [], ◌∷◌, ◌++◌, append_assoc}
use native.Mathlib.Nat.{div-one, div-add-mod', div-div-eq-div-mul, div-lt_iff_lt-mul, pow-suc, pow-succ', add-zero, le_of_suc-le-suc}
use native.Mathlib.Omega.{arith}
use lib.Arith.{digits_div, digits_mod, digits_lt}
use lib.Dec.{T}
use lib.ListN.{length, get_or, take, drop, length-append, length-drop}
use lib.Seq.{get_or_at, get_or-drop, take-suc}
use lib.Ieee.{Float, binary64, nan, fits, is_nan, of_bits, to_bits}
use lib.Ieee.Bits.{of_bits-fits, of_bits-to_bits, to_bits-lt, to_bits-of_bits}
use Rattle.big_endian.specs.Bytes.{big_endian, bytes_of, double_at, double_bytes, doubles_bytes}
use Rattle.big_endian.proofs.Written.{length_bytes, length_double}

-- the last byte of a number stands behind those of the rest
bytes_snoc : (n count : ℕ) → bytes_of n (suc count) ≡ bytes_of (n / 256) count ++ n % 256 ∷ []
unfolding bytes_of
bytes_snoc n zero = ap (λ (m : ℕ). m % 256 ∷ []) (div-one n)
bytes_snoc n (suc count) =
    let e : n / 256 ^ suc count ≡ n / 256 / 256 ^ count = rw (pow-succ' 256 count) (sym (div-div-eq-div-mul n 256 (256 ^ count))) in
    ap₂ (λ (b : ℕ) (bs : List ℕ). b % 256 ∷ bs) e (bytes_snoc n count)

-- ---- a number that was written is read
pub read_written : (count n : ℕ) (p q : List ℕ) → n < 256 ^ count → big_endian (p ++ bytes_of n count ++ q) (length p) count ≡ n
unfolding big_endian
read_written zero n p q h = omega arith
read_written (suc count) n p q h =
    let b = bytes_of (n / 256) count in
    let s = p ++ b ++ (n % 256 ∷ q) in
    let e : p ++ bytes_of n (suc count) ++ q ≡ s = rw (bytes_snoc n count) (simp append_assoc) in
    let i : n / 256 < 256 ^ count = (div-lt_iff_lt-mul {k = 256} (omega arith)).1 (rw pow-suc at h) in
    let first : big_endian s (length p) count ≡ n / 256 = read_written count (n / 256) p (n % 256 ∷ q) i in
    let l : length (p ++ b) ≡ length p + count = length-append p b ∙ ap (λ (k : ℕ). length p + k) (length_bytes (n / 256) count) in
    let last : get_or s (length p + count) 0 ≡ n % 256 = get_or_at (p ++ b) (n % 256) q 0 (length p + count) l in
    ap (λ (x : List ℕ). big_endian x (length p) count * 256 + get_or x (length p + count) 0) e ∙ ap₂ (λ (a c : ℕ). a * 256 + c) first last ∙ div-add-mod' n 256

-- ---- bytes that were read are written
module _ (s : List ℕ) (bytes : (i : ℕ) → get_or s i 0 < 256) where
  pub number_below : (at count : ℕ) → big_endian s at count < 256 ^ count
  unfolding big_endian
  number_below at zero = omega arith
  number_below at (suc count) = rw (pow-suc 256 count) (digits_lt (number_below at count) (bytes (at + count)))

  pub written_read : (at count : ℕ) → at + count ≤ length s → bytes_of (big_endian s at count) count ≡ take count (drop at s)
  unfolding big_endian bytes_of
  written_read at zero h = refl
  written_read at (suc count) h =
      let n = big_endian s at count in
      let b = get_or s (at + count) 0 in
      let k : count < length (drop at s) = rw length-drop (omega arith) in
      bytes_snoc (n * 256 + b) count
      ∙ rw (digits_div n (bytes (at + count)), digits_mod n (bytes (at + count)), written_read at count (omega arith), ← get_or-drop at s count 0) (sym (take-suc (drop at s) count 0 k))

  -- a double that is no NaN
  pub written_double : (at : ℕ) → at + 8 ≤ length s → T (not (is_nan (double_at s at))) → double_bytes (double_at s at) ≡ take 8 (drop at s)
  unfolding double_at double_bytes
  written_double at h k = ap (λ (n : ℕ). bytes_of n 8) (to_bits-of_bits binary64 (big_endian s at 8) (number_below at 8) k) ∙ written_read at 8 h

-- ---- a double that was written is read
pub read_double : (x : Float) (p q : List ℕ) → T (fits binary64 x) → double_at (p ++ double_bytes x ++ q) (length p) ≡ x
unfolding double_at double_bytes
read_double x p q h = ap (of_bits binary64) (read_written 8 (to_bits binary64 x) p q (to_bits-lt binary64 x h)) ∙ of_bits-to_bits binary64 x h

-- the k-th of several
pub read_doubles : (xs : List Float) (k : ℕ) (p q : List ℕ) → k < length xs → T (fits binary64 (get_or xs k nan))
    → double_at (p ++ doubles_bytes xs ++ q) (length p + 8 * k) ≡ get_or xs k nan
read_doubles [] k p q h f = absurd (none k h)
  where
    none : (k : ℕ) → k < 0 → ⊥
    none k h = omega arith
read_doubles (x ∷ xs) zero p q h f = rw add-zero (simp append_assoc (simp append_assoc at (read_double x p (doubles_bytes xs ++ q) f)))
read_doubles (x ∷ xs) (suc k) p q h f =
    let p₁ = p ++ double_bytes x in
    let l : length p₁ + 8 * k ≡ length p + 8 * suc k = omega (arith, length-append p (double_bytes x), length_double x) in
    let e : p₁ ++ doubles_bytes xs ++ q ≡ p ++ doubles_bytes (x ∷ xs) ++ q = simp append_assoc in
    ap₂ double_at (sym e) (sym l) ∙ read_doubles xs k p₁ q (le_of_suc-le-suc h) f

-- what is read is a double
pub read_fits : (s : List ℕ) (at : ℕ) → T (fits binary64 (double_at s at))
unfolding double_at
read_fits s at = of_bits-fits binary64 (big_endian s at 8)
