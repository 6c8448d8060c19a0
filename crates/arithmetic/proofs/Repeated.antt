-- Sums and powers, by one term and by one factor more.
use Rattle.std.proofs.Common.{◌≡◌, ℕ, zero, suc, ◌+◌, ◌≤◌, refl, add-one, arith}
use Rattle.arithmetic.specs.Arithmetic.{sum_by, power_by}

module _ {V : Type 0} (start : V) (plus : V → V → V) where
  pub empty_sum : (f : ℕ → V) → sum_by start plus 0 f ≡ start
  unfolding sum_by
  empty_sum f = refl

  pub longer_sum : (n : ℕ) (f : ℕ → V) → sum_by start plus (n + 1) f ≡ plus (sum_by start plus n f) (f n)
  unfolding sum_by
  longer_sum n f = rw add-one

pub single_factor : {V : Type 0} (one : V) (times : V → V → V) (v : V) → power_by one times v 1 ≡ v
unfolding power_by
single_factor one times v = refl

pub longer_power : {V : Type 0} (one : V) (times : V → V → V) (v : V) (i : ℕ) → 1 ≤ i → power_by one times v (i + 1) ≡ times (power_by one times v i) v
unfolding power_by
longer_power one times v zero h = absurd (no h)
  where
    no : 1 ≤ 0 → ⊥
    no h = omega arith
longer_power one times v (suc i) h = rw add-one
