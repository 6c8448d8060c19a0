-- Numbers and doubles as bytes, the most significant first, and bytes laid over a buffer.
use Rattle.std.specs.Prelude.{ℕ, zero, suc, ◌+◌, ◌*◌, ◌/◌, ◌%◌, ◌^◌, List, [], ◌∷◌, ◌++◌, length, get_or, drop, Float}
use Rattle.std.specs.Float.{binary64}
use Rattle.std.specs.Float.Ieee.{of_bits, to_bits}

-- the number that the `count` bytes from `at` on are; a byte past the end counts as 0
unfoldable pub big_endian : List ℕ → ℕ → ℕ → ℕ
big_endian s at zero = 0
big_endian s at (suc count) = big_endian s at count * 256 + get_or s (at + count) 0

-- the last `count` bytes of a number
unfoldable pub bytes_of : ℕ → ℕ → List ℕ
bytes_of n zero = []
bytes_of n (suc count) = (n / 256 ^ count) % 256 ∷ bytes_of n count

-- "A double is IEEE 754 binary64, big-endian."
unfoldable pub double_at : List ℕ → ℕ → Float
double_at s at = of_bits binary64 (big_endian s at 8)

unfoldable pub double_bytes : Float → List ℕ
double_bytes x = bytes_of (to_bits binary64 x) 8

abbrev pub doubles_bytes : List Float → List ℕ
doubles_bytes [] = []
doubles_bytes (x ∷ xs) = double_bytes x ++ doubles_bytes xs

-- a buffer after `bytes` were written at its start: "Bytes past the answer are untouched."
abbrev pub written : List ℕ → List ℕ → List ℕ
written buffer bytes = bytes ++ drop (length bytes) buffer
