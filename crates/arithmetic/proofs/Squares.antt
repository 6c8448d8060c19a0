-- `root n` is the largest number whose square is at most n.
use mathlib.Core.Path.{◌≡◌, refl}
use Prim.Native.Nat.{ℕ, zero, suc, ◌+◌, ◌*◌, ◌/◌, ◌^◌, ◌≤◌, ◌<◌}
use native.Mathlib.Nat.{mul-le-mul, mul-le-mul_right, lt_of_le_of_lt, lt_of_lt_of_le, lt_of_not-le, not-le_of_lt, pow-suc}
use native.Mathlib.Omega.{arith}
use mathlib.Core.Bool.{Bool, true, false, not, cond}
use lib.Dec.{T, leb, leb→le, nleb→lt}
use lib.Pow.{pow_pos}
use lib.Ieee.{size}
use lib.Ieee.Digits.{size-lt}
use Rattle.arithmetic.specs.Root.{root_in, root}

-- r is the largest number whose square is at most n
pub record IsRoot (r n : ℕ) : Type 0 where
  pub low : r * r ≤ n
  pub high : n < (r + 1) * (r + 1)

pub less_of_squares : (x y : ℕ) → x * x < y * y → x < y
less_of_squares x y h = lt_of_not-le (λ (g : y ≤ x). not-le_of_lt h (mul-le-mul g g))

-- one more binary digit
digit : (q n : ℕ) → IsRoot q (n / 4) → IsRoot (cond (leb ((2 * q + 1) * (2 * q + 1)) n) (2 * q + 1) (2 * q)) n
digit q n f = go (leb ((2 * q + 1) * (2 * q + 1)) n) (leb→le ((2 * q + 1) * (2 * q + 1)) n) (nleb→lt ((2 * q + 1) * (2 * q + 1)) n)
  where
    go : (b : Bool) → (T b → (2 * q + 1) * (2 * q + 1) ≤ n) → (T (not b) → n < (2 * q + 1) * (2 * q + 1)) → IsRoot (cond b (2 * q + 1) (2 * q)) n
    go true h k = record { low = h tt; high = omega (arith, f) }
    go false h k = record { low = omega (arith, f); high = k tt }

root_in_is : (d n : ℕ) → n < 4 ^ d → IsRoot (root_in d n) n
unfolding root_in
root_in_is zero n h = record { low = omega arith; high = omega arith }
root_in_is (suc d) n h = digit (root_in d (n / 4)) n (root_in_is d (n / 4) (omega (arith, pow-suc 4 d)))

pub four : (k : ℕ) → 4 ^ k ≡ 2 ^ k * 2 ^ k
four zero = refl
four (suc k) = rw (pow-suc 4 k, pow-suc 2 k, four k) (omega arith)

pub root_is : (n : ℕ) → IsRoot (root n) n
unfolding root
root_is n = root_in_is (size n) n (rw four (lt_of_lt_of_le (size-lt n) (omega (arith, mul-le-mul_right (2 ^ size n) (pow_pos (size n))))))

-- the root of n is one number
pub root_unique : (r n : ℕ) → IsRoot r n → r ≡ root n
root_unique r n f =
    let g : IsRoot (root n) n = root_is n in
    let a : r < root n + 1 = less_of_squares r (root n + 1) (lt_of_le_of_lt f.low g.high) in
    let b : root n < r + 1 = less_of_squares (root n) (r + 1) (lt_of_le_of_lt g.low f.high) in
    omega arith

pub exact_root : (r n : ℕ) → r * r ≡ n → r ≡ root n
exact_root r n e = root_unique r n (record { low = omega arith; high = omega arith })
