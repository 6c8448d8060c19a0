-- What code that counts by hand asks at each turn over components and pairs: that its places are inside the arrays, and that fewer are left.
use Rattle.std.proofs.Common.{ℕ, suc, ◌+◌, ◌-◌, ◌*◌, ◌/◌, ◌%◌, ◌<◌, ◌≤◌, le_refl, suc-mul, mul-le-mul, arith, lit≤, w64, Fits}
use Rattle.uvtheory.proofs.Loops.{row_of, column_of, some_rows, square_le}

-- of an access to doubles, and to pairs of them
pub record At (size i : ℕ) : Type 0 where
  pub below : i < size
  pub fits : Fits w64 (i * 8)
  pub wide : Fits w64 (i * 16)
  pub next : Fits w64 (i + 1)

pub at : (size i : ℕ) → size ≤ 64 → i < size → At size i
at size i h l = record { below = l; fits = omega arith; wide = omega arith; next = omega arith }

-- of the i-th of n components, and that fewer are left after it
pub record InRow (n i : ℕ) : Type 0 where
  pub place : At 8 i
  pub less : n - (i + 1) < n - i

pub in_row : (n i : ℕ) → n ≤ 8 → i < n → InRow n i
in_row n i h l = record { place = at 8 i (lit≤ tt) (omega arith); less = omega arith }

-- of the k-th pair of n components, of the two components, and of the pair the other way round; and that fewer pairs are left after it
pub record Bounds (n k : ℕ) : Type 0 where
  pub some : 0 < n
  pub row : At 8 (k / n)
  pub column : At 8 (k % n)
  pub pair : At 64 k
  pub mirror_row : Fits w64 (k % n * n)
  pub mirror_place : Fits w64 (k % n * n + k / n)
  pub mirror : At 64 (k % n * n + k / n)
  pub less : n * n - (k + 1) < n * n - k

pub pair_within : (n k : ℕ) → n ≤ 8 → k < n * n → Bounds n k
pair_within n k h l =
    let s = square_le n h in
    let r = row_of n k l in
    let c = column_of n k l in
    let z : suc (k % n) * n ≤ n * n = mul-le-mul c (le_refl n) in
    let m : k % n * n + k / n < 64 = omega (arith, suc-mul (k % n) n, z) in record {
      some = some_rows n k l;
      row = at 8 (k / n) (lit≤ tt) (omega arith);
      column = at 8 (k % n) (lit≤ tt) (omega arith);
      pair = at 64 k (lit≤ tt) (omega arith);
      mirror_row = omega arith;
      mirror_place = omega arith;
      mirror = at 64 (k % n * n + k / n) (lit≤ tt) m;
      less = omega arith;
    }
