-- The next float up and the next float down, by the bit pattern. proofs/Next.antt shows that each is the next.
use Rattle.std.specs.Prelude.{ℕ, suc, ◌-◌, cond, ltb, eqb, Float}
use Rattle.std.specs.Float.{Format}
use Rattle.std.specs.Float.Ieee.{top, to_bits, of_bits}

-- Patterns count the floats from +0 up and, from `top`, the pattern of -0, down. So the next is one more where the sign is clear, and one less where it is set.
-- The two zeros have the same neighbours.
unfoldable pub bits_up : Format → ℕ → ℕ
bits_up f b = cond (ltb b (top f)) (suc b) (cond (eqb b (top f)) 1 (b - 1))

unfoldable pub bits_down : Format → ℕ → ℕ
bits_down f b = cond (ltb b (top f)) (cond (eqb b 0) (suc (top f)) (b - 1)) (suc b)

-- Above the largest float comes the infinity.
unfoldable pub next_up : Format → Float → Float
unfolding bits_up
next_up f x = of_bits f (bits_up f (to_bits f x))

unfoldable pub next_down : Format → Float → Float
unfolding bits_down
next_down f x = of_bits f (bits_down f (to_bits f x))
