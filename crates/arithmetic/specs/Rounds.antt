-- The rounds of a root that is worked one binary digit a round, from its leading 1: up to the first round at which the square of the digits found is the whole argument.
use Rattle.std.specs.Prelude.{◌≡◌, refl, ℕ, zero, suc, ◌-◌, ◌*◌, ◌/◌, ◌^◌, ◌<◌, Bool, true, false, cond, eqb, pos, negsuc, Float}
use Rattle.std.specs.Float.{nan, inf, fin}
use Rattle.std.specs.Float.Ieee.{size}
use Rattle.arithmetic.specs.Root.{root, in_fourths}

-- The first j binary digits of r, from its leading 1, with zeros in place of the others.
unfoldable pub first_digits : ℕ → ℕ → ℕ
unfolding size
first_digits j r = let p = 2 ^ (size r - j) in r / p * p

-- n is the square of the first j digits of r
unfoldable pub exact_at : ℕ → ℕ → ℕ → Bool
unfolding first_digits
exact_at n r j = let d = first_digits j r in eqb (d * d) n

-- The least number from j on that passes the test p, or j + k where none of k numbers does.
unfoldable pub least_from : (ℕ → Bool) → ℕ → ℕ → ℕ
least_from p j zero = j
least_from p j (suc k) = cond (p j) j (least_from p (suc j) k)

-- The full number of rounds: the 53 digits that a double keeps, and one more, which tells whether the rest is below or above a half.
-- It is never a half: a number of 54 digits that ends in 1 has a square that no double holds. So 54 digits are enough to round: proofs/RoundedRoot.antt.
abbrev pub full_rounds : ℕ
full_rounds = 54

-- The least j such that the square of the first j digits of n's root is the whole of n, or the full number where no j below it has that: proofs/Rounds.antt:rounds-least.
unfoldable pub rounds_in : ℕ → ℕ
unfolding root exact_at least_from
rounds_in n = least_from (exact_at n (root n)) 0 full_rounds

-- The rounds of a double's root. A zero takes none, and what has no root takes none.
unfoldable pub rounds : Float → ℕ
unfolding rounds_in
rounds nan = 0
rounds (inf s) = 0
rounds (fin true m e) = 0
rounds (fin false m e) = rounds_in (in_fourths m e)

-- n is the square of a number with j binary digits or fewer, the zeros behind them not counted. So it is exactly where the j-th round is exact: proofs/Rounds.antt:exact-where-square.
abbrev pub SquareOf : ℕ → ℕ → Type 0
SquareOf j n = (d : ℕ) × (k : ℕ) × (d < 2 ^ j) × (d * 2 ^ k * (d * 2 ^ k) ≡ n)

-- ---- the rounds of 2.25, whose root is 1.1 in binary digits; of 1, 4, 100 and 2; of the smallest double above zero, 4 ^ -537, and the largest; of zero
quarter : rounds (fin false 9 (negsuc 1)) ≡ 2
unfolding rounds
quarter = refl

one : rounds (fin false 1 (pos 0)) ≡ 1
unfolding rounds
one = refl

four : rounds (fin false 1 (pos 2)) ≡ 1
unfolding rounds
four = refl

hundred : rounds (fin false 25 (pos 2)) ≡ 3
unfolding rounds
hundred = refl

two : rounds (fin false 1 (pos 1)) ≡ 54
unfolding rounds
two = refl

least : rounds (fin false 1 (negsuc 1073)) ≡ 1
unfolding rounds
least = refl

most : rounds (fin false 0x1fffffffffffff (pos 971)) ≡ 54
unfolding rounds
most = refl

nothing : rounds (fin false 0 (pos 0)) ≡ 0
unfolding rounds
nothing = refl
