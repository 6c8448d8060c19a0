-- How large a record can be: there are at most 28 pairs, and 105 doubles.
use Prim.Native.Nat.{ℕ, ◌-◌, ◌*◌, ◌≤◌}
use mathlib.Core.Bool.{Bool, true, false, cond}
use lib.Dec.{eqb}
use native.Mathlib.Nat.{mul-le-mul}
use native.Mathlib.Omega.{arith}
use Rattle.case_record.specs.declared.layout.Header.{Header}
use Rattle.case_record.specs.Layout.{layout_of, l_pairs, pairs}

pub product : (n : ℕ) → n ≤ 8 → n * (n - 1) ≤ 56
product n h = mul-le-mul {m₂ = 7} h (omega arith)

pub few_pairs : (n : ℕ) → n ≤ 8 → pairs n ≤ 28
few_pairs n h = omega (arith, product n h)

-- of l_ij there are none, or as many
pub few_of_pairs : (h : Header) → l_pairs h ≤ pairs h.n
few_of_pairs h = go (eqb h.version 2)
  where
    go : (b : Bool) → cond b (pairs h.n) 0 ≤ pairs h.n
    go true = omega arith
    go false = omega arith

pub few_l_pairs : (h : Header) → h.n ≤ 8 → l_pairs h ≤ 28
few_l_pairs h l = omega (arith, few_of_pairs h, few_pairs h.n l)

pub few_doubles : (h : Header) → h.n ≤ 8 → (layout_of h).doubles ≤ 105
few_doubles h l = omega (arith, few_pairs h.n l, few_l_pairs h l)
