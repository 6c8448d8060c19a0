-- The square root of a double as IEEE 754 has it: the nearest double, ties to even, worked in whole numbers. proofs/Nearest.antt shows that it is the nearest.
use Rattle.std.specs.Prelude.{◌≡◌, refl, ℕ, zero, suc, ◌+◌, ◌*◌, ◌/◌, ◌^◌, true, false, cond, leb, eqb, ℤ, pos, negsuc, Float}
use Rattle.std.specs.Float.{nan, inf, fin, binary64}
use Rattle.std.specs.Float.Ieee.{up, down, size, round}

-- The largest r with r * r ≤ n, for an n below 4 ^ d: the root of n / 4, doubled, with one more binary digit.
unfoldable pub root_in : ℕ → ℕ → ℕ
root_in zero n = zero
root_in (suc d) n = let r = 2 * root_in d (n / 4) in cond (leb ((r + 1) * (r + 1)) n) (r + 1) r

unfoldable pub root : ℕ → ℕ
unfolding root_in
root n = root_in (size n) n

-- The root of n units of 4 ^ -1074, that is of n / 2 ^ 2148, rounded to a double. In units of 2 ^ -1074, the smallest double, it is r where r * r is n,
-- and lies between r and r + 1 otherwise, where r + 1 / 2 stands for it: `round` takes halves of the unit.
-- A double's root has 538 binary digits or more in front of that unit's, and 53 are kept, so all that lies between r and r + 1 is rounded alike.
unfoldable pub rounded_root : ℕ → Float
unfolding root
rounded_root n = let r = root n in round binary64 false (2 * r + cond (eqb (r * r) n) 0 1) (2 ^ 1075)

-- The double m * 2 ^ e in units of 4 ^ -1074, a whole number of them.
abbrev pub in_fourths : ℕ → ℤ → ℕ
in_fourths m e = m * up e * 2 ^ 2148 / down e

-- A zero is its own root. Below zero, and for what is not finite, there is no rule.
unfoldable pub sqrt : Float → Float
unfolding rounded_root
sqrt nan = nan
sqrt (inf s) = nan
sqrt (fin true m e) = cond (eqb m 0) (fin true m e) nan
sqrt (fin false m e) = cond (eqb m 0) (fin false m e) (rounded_root (in_fourths m e))

-- ---- 2.25, 2, the smallest double above zero and the largest, whose root 0x1.fffffffffffffp511 is 2 ^ 512 less a bit
quarter : sqrt (fin false 9 (negsuc 1)) ≡ fin false 3 (negsuc 0)
unfolding sqrt round
quarter = refl

two : sqrt (fin false 1 (pos 1)) ≡ fin false 0x16a09e667f3bcd (negsuc 51)
unfolding sqrt round
two = refl

least : sqrt (fin false 1 (negsuc 1073)) ≡ fin false 1 (negsuc 536)
unfolding sqrt round
least = refl

most : sqrt (fin false 0x1fffffffffffff (pos 971)) ≡ fin false 0x1fffffffffffff (pos 459)
unfolding sqrt round
most = refl
