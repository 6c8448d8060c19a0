-- An answer that is written piece by piece.
use Prim.Native.Nat.{ℕ, ◌+◌, ◌*◌, ◌/◌, ◌%◌, ◌<◌, ◌≤◌}
use mathlib.Core.Path.{◌≡◌, ◌∙◌}
use mathlib.Core.List.{List, [], ◌∷◌, ◌++◌}
use native.Mathlib.Numerals.{add-one}
use native.Mathlib.Omega.{arith}
use lib.ListN.{length, get_or, take, drop}
use lib.Seq.{take-suc, take-length, length-take-le}
use lib.Ieee.{Float, nan}
use Rattle.big_endian.specs.Bytes.{bytes_of, double_bytes, doubles_bytes, written}
use Rattle.big_endian.proofs.Written as Written
use Rattle.big_endian.proofs.Written.{again, begun, length_doubles}
use Rattle.answer.specs.declared.Answer.{Answer}
use Rattle.answer.specs.Answer.{answer_bytes, answer_with, code_of, doubles_of}

-- one double more behind the header
pub double_more : (l : List ℕ) (xs : List Float) → 4 ≤ length l → (k : ℕ) {l₁ l₂ : List ℕ} → k < length xs
    → l₁ ≡ written l (begun l 4 (take k xs))
    → l₂ ≡ take (4 + 8 * k) l₁ ++ double_bytes (get_or xs k nan) ++ drop (4 + 8 * k + 8) l₁
    → l₂ ≡ written l (begun l 4 (take (k + 1) xs))
double_more l xs h k {l₁} i e₁ e₂ =
    let x = get_or xs k nan in
    let count : length (take k xs) ≡ k = length-take-le k xs (omega arith) in
    rw (add-one k, take-suc xs k nan i) (Written.double_more l 4 h (take k xs) x e₁ (rw count e₂))

-- a length below 256
short : (m : ℕ) → m < 256 → bytes_of m 2 ≡ 0 ∷ m ∷ []
unfolding bytes_of
short m h =
    let e : m / 256 % 256 ≡ 0 = omega arith in
    let f : m / 1 % 256 ≡ m = omega arith in
    rw (e, f)

pub whole_answer : (l : List ℕ) (code : ℕ) (xs : List Float) {l₁ l₂ : List ℕ} → length xs ≤ 31
    → l₁ ≡ written l (0 ∷ (2 + 8 * length xs) ∷ 1 ∷ code ∷ [])
    → l₂ ≡ written l₁ (take 4 l₁ ++ doubles_bytes (take (length xs) xs))
    → l₂ ≡ written l (answer_with code xs)
whole_answer l code xs h e₁ e₂ = e₂ ∙ rw (e₁, take-length xs, short (2 + 8 * length xs) (omega arith)) (again (0 ∷ (2 + 8 * length xs) ∷ 1 ∷ code ∷ []) (doubles_bytes xs) l)

-- ---- a buffer that has room for an answer
pub length_answer : (code : ℕ) (xs : List Float) → length (answer_with code xs) ≡ 4 + 8 * length xs
unfolding bytes_of
length_answer code xs = omega (arith, length_doubles xs)

pub room : {a b : Answer} {n : ℕ} → a ≡ b → length (answer_bytes a) ≤ n → 4 + 8 * length (doubles_of b) ≤ n
room {b = b} e h = rw (← length_answer (code_of b) (doubles_of b), ← e) h
