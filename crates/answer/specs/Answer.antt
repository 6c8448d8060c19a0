-- The answer of a case: its code, its doubles and its bytes, by document 01, and by document 02's M-100 for slopes.
use Rattle.std.specs.Prelude.{ℕ, ◌+◌, ◌*◌, ◌≡◌, refl, List, [], ◌∷◌, ◌++◌, length, Float}
use Rattle.range.specs.declared.basic.Range.{Range}
use Rattle.dual.specs.declared.basic.Dual.{Dual}
use Rattle.big_endian.specs.Bytes.{bytes_of, double_bytes, doubles_bytes}
use Rattle.refusal.specs.declared.Refusal.{Refusal}
use Rattle.refusal.specs.Code.{code}
use Rattle.answer.specs.declared.Answer.{Answer}
use Rattle.answer.specs.declared.Answer.TheVariants.{Energies, Ends, Slopes, Refused}

-- "An answer: length, version 1, code byte.", and the doubles that follow it. "Length is 2 bytes, big-endian, and counts what follows it."
abbrev pub answer_with : ℕ → List Float → List ℕ
answer_with code doubles = bytes_of (2 + 8 * length doubles) 2 ++ (1 ∷ code ∷ doubles_bytes doubles)

-- "The answer of a case is either the three energies or one number of refusal."
abbrev pub code_of : Answer → ℕ
code_of (Energies x y z) = 0
code_of (Ends x y z) = 0
code_of (Slopes x y z) = 0
code_of (Refused refusal) = code refusal

-- "Code 0: energies are followed by 3 doubles (28 bytes in all), ends by 3 pairs lower, upper (52 bytes)."
-- M-100: "The answer is three pairs value, slope, in 52 bytes as for ends"
abbrev pub doubles_of : Answer → List Float
doubles_of (Energies x y z) = x ∷ y ∷ z ∷ []
doubles_of (Ends x y z) = x.lower ∷ x.upper ∷ y.lower ∷ y.upper ∷ z.lower ∷ z.upper ∷ []
doubles_of (Slopes x y z) = x.value ∷ x.slope ∷ y.value ∷ y.slope ∷ z.value ∷ z.slope ∷ []
doubles_of (Refused refusal) = []

abbrev pub answer_bytes : Answer → List ℕ
answer_bytes a = answer_with (code_of a) (doubles_of a)

-- "A refusal is four bytes: 00 02 01 and the code.": of any number, and so of a refusal's
pub code_bytes : (k : ℕ) → answer_with k [] ≡ 0x00 ∷ 0x02 ∷ 0x01 ∷ k ∷ []
unfolding bytes_of
code_bytes k = refl

pub refusal_bytes : (refusal : Refusal) → answer_bytes (Refused refusal) ≡ 0x00 ∷ 0x02 ∷ 0x01 ∷ code refusal ∷ []
refusal_bytes refusal = code_bytes (code refusal)

pub energies_bytes : (x y z : Float) → length (answer_bytes (Energies x y z)) ≡ 28
unfolding bytes_of double_bytes
energies_bytes x y z = refl

pub ends_bytes : (x y z : Range) → length (answer_bytes (Ends x y z)) ≡ 52
unfolding bytes_of double_bytes
ends_bytes x y z = refl

pub slopes_bytes : (x y z : Dual) → length (answer_bytes (Slopes x y z)) ≡ 52
unfolding bytes_of double_bytes
slopes_bytes x y z = refl
