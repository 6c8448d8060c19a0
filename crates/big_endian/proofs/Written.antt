-- Bytes that are written piece by piece over a buffer, and the bytes of a list of doubles.
use Prim.Native.Nat.{ℕ, zero, suc, ◌+◌, ◌*◌, ◌≤◌}
use mathlib.Core.Path.{◌≡◌, refl, sym, ap, ap₂, ◌∙◌}
use mathlib.Core.List.{List, [], ◌∷◌, ◌++◌, append_assoc, append-nil}
use native.Mathlib.Omega.{arith}
use lib.ListN.{length, take, drop, replicate, length-append, take-append-drop}
use lib.Seq.{take-append_seam, drop-append-add, drop-drop, length-take-le}
use lib.Ieee.{Float, of_bits, to_bits}
use Rattle.std.proofs.lemmas.List.{replicate-append-replicate}
use Rattle.arithmetic.specs.Constants.{zero_d}
use Rattle.big_endian.specs.Bytes.{bytes_of, double_bytes, doubles_bytes, written}

pub length_bytes : (n count : ℕ) → length (bytes_of n count) ≡ count
unfolding bytes_of
length_bytes n zero = refl
length_bytes n (suc count) = ap suc (length_bytes n count)

pub length_double : (x : Float) → length (double_bytes x) ≡ 8
unfolding double_bytes bytes_of
length_double x = refl

pub length_doubles : (xs : List Float) → length (doubles_bytes xs) ≡ 8 * length xs
length_doubles [] = refl
length_doubles (x ∷ xs) = length-append (double_bytes x) (doubles_bytes xs) ∙ omega (arith, length_double x, length_doubles xs)

-- of two lists one after the other, and one double more
pub doubles_append : (xs ys : List Float) → doubles_bytes (xs ++ ys) ≡ doubles_bytes xs ++ doubles_bytes ys
doubles_append [] ys = refl
doubles_append (x ∷ xs) ys = rw (doubles_append xs ys) (sym (append_assoc (double_bytes x) (doubles_bytes xs) (doubles_bytes ys)))

pub doubles_snoc : (xs : List Float) (x : Float) → doubles_bytes (xs ++ x ∷ []) ≡ doubles_bytes xs ++ double_bytes x
doubles_snoc xs x = doubles_append xs (x ∷ []) ∙ ap (λ (l : List ℕ). doubles_bytes xs ++ l) (append-nil (double_bytes x))

-- the bytes of +0
zero_bytes : double_bytes zero_d ≡ replicate 8 0
unfolding double_bytes bytes_of of_bits to_bits
zero_bytes = refl

pub zeros_bytes : (n : ℕ) → doubles_bytes (replicate n zero_d) ≡ replicate (8 * n) 0
zeros_bytes zero = refl
zeros_bytes (suc n) =
    let e : 8 + 8 * n ≡ 8 * suc n = omega arith in
    ap₂ ◌++◌ zero_bytes (zeros_bytes n) ∙ replicate-append-replicate 8 (8 * n) 0 ∙ ap (λ (k : ℕ). replicate k 0) e

-- b behind the bytes a
pub extend : (a b l : List ℕ) {n m : ℕ} → length a ≡ n → length b ≡ m → take n (written l a) ++ b ++ drop (n + m) (written l a) ≡ written l (a ++ b)
extend a b l e f = rw (← e, ← f) (simp (take-append_seam, drop-append-add, drop-drop, length-append))

-- the bytes a once more, and b behind them
pub again : (a b l : List ℕ) → written (written l a) (a ++ b) ≡ written l (a ++ b)
again a b l = simp (drop-append-add, drop-drop, length-append)

-- ---- doubles behind a header, which are the first n bytes of l
abbrev pub begun : List ℕ → ℕ → List Float → List ℕ
begun l n xs = take n l ++ doubles_bytes xs

module _ (l : List ℕ) (n : ℕ) (h : n ≤ length l) where
  length_begun : (xs : List Float) → length (begun l n xs) ≡ n + 8 * length xs
  length_begun xs = length-append (take n l) (doubles_bytes xs) ∙ rw (length-take-le n l h, length_doubles)

  pub none_yet : l ≡ written l (begun l n [])
  none_yet = rw (append-nil, length-take-le n l h) (sym (take-append-drop n l))

  pub double_more : (xs : List Float) (x : Float) {l₁ l₂ : List ℕ} → l₁ ≡ written l (begun l n xs)
      → l₂ ≡ take (n + 8 * length xs) l₁ ++ double_bytes x ++ drop (n + 8 * length xs + 8) l₁
      → l₂ ≡ written l (begun l n (xs ++ x ∷ []))
  double_more xs x {l₁} e₁ e₂ =
      let grown : begun l n (xs ++ x ∷ []) ≡ begun l n xs ++ double_bytes x = rw (doubles_snoc, append_assoc) refl in
      e₂ ∙ rw (e₁, grown) (extend (begun l n xs) (double_bytes x) l (length_begun xs) (length_double x))
