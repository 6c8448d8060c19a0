-- What the loop over the digits of a root keeps, round by round, and what that makes of its last round.
use mathlib.Core.Path.{◌≡◌, refl, sym, ap, ◌∙◌, subst}
use Prim.Native.Nat.{ℕ, suc, ◌+◌, ◌-◌, ◌*◌, ◌/◌, ◌%◌, ◌^◌, ◌≤◌, ◌<◌}
use native.Mathlib.Nat.{mul_assoc, mul_right_comm, mul-mul-mul_comm, mul-pos, mul-one, eq_of_mul-eq-mul_right, lt_of_lt_of_le, lt_of_not-le, mul-le-mul, mod-eq_of_lt, pow-suc}
use native.Mathlib.Numerals.{add-one}
use native.Mathlib.Omega.{arith}
use mathlib.Core.Bool.{Bool, true, false}
use mathlib.Core.Logic.{◌⊎◌, inl, inr}
use lib.Pow.{pow-add, pow_pos, pow_mono, shl_exact}
use lib.Ieee.{size}
use Rattle.arithmetic.specs.Root.{root}
use Rattle.arithmetic.specs.Rounds.{exact_at, least_from, rounds_in}
use Rattle.arithmetic.proofs.Squares.{root_unique, exact_root, less_of_squares, four}
use Rattle.arithmetic.proofs.RoundedRoot.{root_size}
use Rattle.arithmetic.proofs.Rounds.{Square, square_exact, exact_square, least_here, least_next}

-- After i rounds the root has i digits, and its square and the remainder are the 2 * i digits of a that were taken in
pub record Found (a i radicand root remainder : ℕ) : Type 0 where
  pub few : i ≤ 54
  pub digits : root < 2 ^ i
  pub left : remainder ≤ 2 * root
  pub to_come : radicand < 2 ^ 54
  pub taken_in : (root * root + remainder) * 2 ^ 54 + radicand ≡ a * 4 ^ i

-- 2 ^ (54 - i), the weight of the last of i digits
abbrev weight : ℕ → ℕ
weight i = 2 ^ (54 - i)

weights : (i : ℕ) → i ≤ 54 → weight i * weight i * 4 ^ i ≡ 2 ^ 54 * 2 ^ 54
weights i h =
    let e : 54 - i + i ≡ 54 = omega arith in
    let s : weight i * 2 ^ i ≡ 2 ^ 54 = sym (pow-add 2 (54 - i) i) ∙ ap (λ (k : ℕ). 2 ^ k) e in
    rw four (mul-mul-mul_comm (weight i) (weight i) (2 ^ i) (2 ^ i) ∙ ap (λ (x : ℕ). x * x) s)

weighed : (d i : ℕ) → i ≤ 54 → d * weight i * (d * weight i) * 4 ^ i ≡ d * d * 2 ^ 54 * 2 ^ 54
weighed d i h = by (weight i) (4 ^ i) (2 ^ 54) (weights i h)
  where
    by : (p q t : ℕ) → p * p * q ≡ t * t → d * p * (d * p) * q ≡ d * d * t * t
    by p q t e = omega (arith, ap (λ (x : ℕ). d * d * x) e)

four_pos : (i : ℕ) → 0 < 4 ^ i
four_pos i = rw four (mul-pos (pow_pos i) (pow_pos i))

-- none of the rounds before the i-th was the last
abbrev pub Onward : ℕ → ℕ → Type 0
Onward a i = let n = a * 2 ^ 54 in least_from (exact_at n (root n)) i (54 - i) ≡ rounds_in n

module _ (a i w r m : ℕ) (f : Found a i w r m) where
  pub root_below : r < 2 ^ 54
  root_below = lt_of_lt_of_le f.digits (pow_mono f.few)

  -- 27 rounds take in all of a
  pub early : 0 < w → i < 27
  early p = lt_of_not-le none
    where
      none : 27 ≤ i → ⊥
      none g =
          let e : i - 27 + 27 ≡ i = omega arith in
          let t : a * 4 ^ i ≡ a * 4 ^ (i - 27) * 2 ^ 54 = ap (λ (k : ℕ). a * 4 ^ k) (sym e) ∙ ap (λ (x : ℕ). a * x) (pow-add 4 (i - 27) 27) ∙ sym (mul_assoc a _ _) in
          omega arith

  -- the square of the digits found is the whole, where nothing is left and nothing is to come
  found_square : w + m ≡ 0 → r * weight i * (r * weight i) ≡ a * 2 ^ 54
  found_square z =
      let e : r * r * 2 ^ 54 ≡ a * 4 ^ i = omega arith in
      eq_of_mul-eq-mul_right (4 ^ i) (four_pos i) _ _ (weighed r i f.few ∙ ap (λ (x : ℕ). x * 2 ^ 54) e ∙ mul_right_comm a (4 ^ i) (2 ^ 54))

  square_found : Square (weight i) (a * 2 ^ 54) → w + m ≡ 0
  square_found q =
      let d = q.0 in
      let e : d * d * 2 ^ 54 ≡ a * 4 ^ i =
      eq_of_mul-eq-mul_right (2 ^ 54) (pow_pos 54) _ _ (sym (weighed d i f.few) ∙ ap (λ (x : ℕ). x * 4 ^ i) q.1 ∙ mul_right_comm a (2 ^ 54) (4 ^ i)) in
      let s : r * r + m ≡ d * d = omega arith in
      let l : d < r + 1 = less_of_squares d (r + 1) (omega arith) in
      let k : d * d ≤ r * r = mul-le-mul (omega arith) (omega arith) in
      omega arith

  -- one more round, if there is one, with the root and the remainder that `step` gives
  pub another : (w' r' m' : ℕ) → i < 54 → w' ≡ w % 2 ^ 52 * 4 → r' ≤ 2 * r + 1 → m' ≤ 2 * r' → r' * r' + m' ≡ 4 * (r * r + m) + w / 2 ^ 52 → Found a (i + 1) w' r' m'
  another w' r' m' h e b l s =
      let p : 2 ^ (i + 1) ≡ 2 ^ i * 2 = rw add-one (pow-suc 2 i) in
      let q : a * 4 ^ (i + 1) ≡ 4 * (a * 4 ^ i) = rw (add-one i, pow-suc 4 i) (omega arith) in
      record { few = omega arith; digits = omega arith; left = l; to_come = omega arith; taken_in = omega arith }

  module _ (lo : 2 ^ 52 ≤ a) (hi : a < 2 ^ 54) where
    abbrev n : ℕ
    n = a * 2 ^ 54

    root_digits : size (root n) ≡ 54
    root_digits = subst (λ (x : ℕ). size (root x) ≡ 54) (mul-one n) (root_size n 0 (omega arith) (omega arith))

    pub onward : i < 54 → 0 < w + m → Onward a i → Onward a (i + 1)
    onward h p o =
        let e : suc (54 - suc i) ≡ 54 - i = omega arith in
        rw add-one (sym (least_next (exact_at n (root n)) i (54 - suc i) (not_yet _ refl)) ∙ ap (least_from (exact_at n (root n)) i) e ∙ o)
      where
        not_yet : (b : Bool) → exact_at n (root n) i ≡ b → exact_at n (root n) i ≡ false
        not_yet true t = absurd (omega (arith, square_found (exact_square n 54 i root_digits t)))
        not_yet false t = t

    pub ends : Onward a i → (w + m ≡ 0) ⊎ (54 ≤ i) → (r * 2 ^ (54 - i) % 2 ^ 64 ≡ root n) × (i ≡ rounds_in n)
    unfolding least_from
    ends o (inl z) =
        let s = found_square z in (
          shl_exact i (54 - i) 64 f.digits (omega arith) ∙ exact_root _ n s,
          sym (least_here (exact_at n (root n)) i (54 - i) (square_exact n 54 i root_digits (r, s))) ∙ o,
        )
    ends o (inr h) =
        let e : i ≡ 54 = omega arith in
        let g : Found a 54 w r m = subst (λ (k : ℕ). Found a k w r m) e f in
        let full : 54 ≡ rounds_in n = subst (Onward a) e o in
        let s : r * r + m ≡ n = omega arith in
        rw e (mod-eq_of_lt (omega arith) ∙ mul-one r ∙ root_unique r n (record { low = omega arith; high = omega arith }), full)

pub none_found : (a : ℕ) → a < 2 ^ 54 → Found a 0 a 0 0 × Onward a 0
unfolding rounds_in
none_found a h = (record { few = omega arith; digits = omega arith; left = omega arith; to_come = h; taken_in = omega arith }, refl)
