-- The rounds of a root: which number they are, where a round is exact, that leaving there loses no digit, and that the unit does not matter.
use mathlib.Core.Path.{◌≡◌, refl, sym, ap, ◌∙◌, subst}
use Prim.Native.Nat.{ℕ, zero, suc, ◌+◌, ◌-◌, ◌*◌, ◌/◌, ◌%◌, ◌^◌, ◌≤◌, ◌<◌}
use native.Mathlib.Nat.{mul_assoc, mul-div_cancel, mul-pos, mul-one, eq_of_mul-eq-mul_right, lt_of_lt_of_le, lt_of_mul-lt-mul_right, eq-or-lt_of_le}
use native.Mathlib.Omega.{arith}
use mathlib.Core.Bool.{Bool, true, false, cond, true≢false}
use mathlib.Core.Logic.{inl, inr}
use borrow.Author.Tests.{eq-eqb, eqb-true}
use lib.Pow.{pow-add, pow_pos, pow_mono, shl_lt}
use lib.Ieee.{Float, nan, inf, fin, binary64, size, of_bits}
use lib.Ieee.Digits.{size-lt, size-le}
use lib.Ieee.Exact.{HasValue}
use Rattle.arithmetic.specs.Root.{root}
use Rattle.arithmetic.specs.Rounds.{first_digits, exact_at, least_from, full_rounds, rounds_in, rounds, SquareOf}
use Rattle.arithmetic.proofs.Significand.{Parts}
use Rattle.arithmetic.proofs.Squares.{exact_root}
use Rattle.arithmetic.proofs.RoundedRoot.{root_size, in_fourths_is, radicand, in_squares, shifted_range}

-- ---- `least_from` is the least
pub record Least (p : ℕ → Bool) (j k l : ℕ) : Type 0 where
  pub from : j ≤ l
  pub most : l ≤ j + k
  pub passes : l < j + k → p l ≡ true
  pub before : (i : ℕ) → j ≤ i → i < l → p i ≡ false

pub least_here : (p : ℕ → Bool) (j k : ℕ) → p j ≡ true → least_from p j k ≡ j
unfolding least_from
least_here p j zero t = refl
least_here p j (suc k) t = rw t refl

pub least_next : (p : ℕ → Bool) (j k : ℕ) → p j ≡ false → least_from p j (suc k) ≡ least_from p (suc j) k
unfolding least_from
least_next p j k t = rw t refl

least_is : (p : ℕ → Bool) (j k : ℕ) → Least p j k (least_from p j k)
unfolding least_from
least_is p j zero = record { from = omega arith; most = omega arith; passes = (λ h. absurd (omega arith)); before = (λ i h l. absurd (omega arith)) }
least_is p j (suc k) = go (p j) refl (least_is p (suc j) k)
  where
    go : (b : Bool) → p j ≡ b → Least p (suc j) k (least_from p (suc j) k) → Least p j (suc k) (cond b j (least_from p (suc j) k))
    go true e r = record { from = omega arith; most = omega arith; passes = (λ h. e); before = (λ i h l. absurd (omega arith)) }
    go false e r =
        record {
          from = omega (arith, r.from);
          most = omega (arith, r.most);
          passes = (λ h. r.passes (omega arith));
          before = (λ i h l. elim (eq-or-lt_of_le h) [ inl s ↦ subst (λ (x : ℕ). p x ≡ false) s e | inr m ↦ r.before i m l ]);
        }

pub rounds_least : (n : ℕ) → Least (exact_at n (root n)) 0 full_rounds (rounds_in n)
unfolding rounds_in
rounds_least n = least_is (exact_at n (root n)) 0 full_rounds

-- ---- where a round is exact
-- n is the square of a multiple of p: with s digits in the root and p = 2 ^ (s - j), of j of them
abbrev pub Square : ℕ → ℕ → Type 0
Square p n = (d : ℕ) × (d * p * (d * p) ≡ n)

module _ (n s j : ℕ) (e : size (root n) ≡ s) where
  pub square_exact : Square (2 ^ (s - j)) n → exact_at n (root n) j ≡ true
  unfolding exact_at first_digits
  square_exact q =
      let p = 2 ^ (s - j) in
      let r : q.0 * p ≡ root n = exact_root (q.0 * p) n q.1 in
      let c : root n / p * p ≡ root n = ap (λ (x : ℕ). x / p * p) (sym r) ∙ ap (λ (x : ℕ). x * p) (mul-div_cancel q.0 (pow_pos (s - j))) ∙ r in
      eq-eqb _ n (rw (e, c, ← r) q.1)

  pub exact_square : exact_at n (root n) j ≡ true → Square (2 ^ (s - j)) n
  unfolding exact_at first_digits
  exact_square t = let p = 2 ^ (s - j) in (root n / p, subst (λ (x : ℕ). root n / 2 ^ (x - j) * 2 ^ (x - j) * (root n / 2 ^ (x - j) * 2 ^ (x - j)) ≡ n) e (eqb-true _ n t))

module _ (n j : ℕ) where
  abbrev s : ℕ
  s = size (root n)

  -- the round is exact where n is the square of a number with j digits, and only there
  pub exact_where_square : (exact_at n (root n) j ≡ true → SquareOf j n) × (SquareOf j n → exact_at n (root n) j ≡ true)
  exact_where_square = (there, back)
    where
      there : exact_at n (root n) j ≡ true → SquareOf j n
      there t =
          let q = exact_square n s j refl t in
          let p = 2 ^ (s - j) in
          let e : q.0 * p ≡ root n = exact_root (q.0 * p) n q.1 in
          let h : q.0 * p < 2 ^ j * p = rw (e, ← pow-add) (lt_of_lt_of_le (size-lt (root n)) (pow_mono (omega arith))) in
          (q.0, s - j, lt_of_mul-lt-mul_right p h, q.1)

      back : SquareOf j n → exact_at n (root n) j ≡ true
      back q =
          let d = q.0 in
          let k = q.1 in
          let few : s ≤ j + k = size-le (root n) (j + k) (rw (← exact_root (d * 2 ^ k) n q.3) (shl_lt j k q.2)) in
          let e : k - (s - j) + (s - j) ≡ k = omega arith in
          let same : d * 2 ^ (k - (s - j)) * 2 ^ (s - j) ≡ d * 2 ^ k = mul_assoc d _ _ ∙ ap (λ (x : ℕ). d * x) (sym (pow-add 2 (k - (s - j)) (s - j)) ∙ ap (λ (x : ℕ). 2 ^ x) e) in
          square_exact n s j refl (d * 2 ^ (k - (s - j)), ap (λ (x : ℕ). x * x) same ∙ q.3)

  -- leaving there loses no digit
  pub exact_is_whole : exact_at n (root n) j ≡ true → first_digits j (root n) ≡ root n
  unfolding exact_at
  exact_is_whole t = exact_root (first_digits j (root n)) n (eqb-true _ n t)

pub left_early : (n : ℕ) → rounds_in n < full_rounds → first_digits (rounds_in n) (root n) ≡ root n
left_early n h = exact_is_whole n (rounds_in n) ((rounds_least n).passes h)

-- ---- in units p * p times as fine
same_least : (p q : ℕ → Bool) (j k : ℕ) → ((i : ℕ) → i < j + k → p i ≡ q i) → least_from p j k ≡ least_from q j k
unfolding least_from
same_least p q j zero h = refl
same_least p q j (suc k) h = rw (h j (omega arith), same_least p q (suc j) k (λ i l. h i (omega arith))) refl

same_test : (a b : Bool) → (a ≡ true → b ≡ true) → (b ≡ true → a ≡ true) → a ≡ b
same_test true b f g = sym (f refl)
same_test false true f g = g refl
same_test false false f g = refl

module _ (m j : ℕ) (lo : 2 ^ 106 ≤ m) (hi : m < 2 ^ 108) where
  abbrev finer : ℕ
  finer = m * (2 ^ j * 2 ^ j)

  weight_finer : (i : ℕ) → i < 54 → 2 ^ (suc (53 + j) - i) ≡ 2 ^ (54 - i) * 2 ^ j
  weight_finer i h = let e : suc (53 + j) - i ≡ 54 - i + j = omega arith in ap (λ (k : ℕ). 2 ^ k) e ∙ pow-add 2 (54 - i) j

  products : (d q p : ℕ) → d * (q * p) * (d * (q * p)) ≡ d * q * (d * q) * (p * p)
  products d q p = omega arith

  exact_finer : (i : ℕ) → i < 54 → exact_at finer (root finer) i ≡ exact_at m (root m) i
  exact_finer i h =
      let e = subst (λ (x : ℕ). size (root x) ≡ 54) (mul-one m) (root_size m 0 lo hi) in
      let e' = root_size m j lo hi in
      let q = 2 ^ (54 - i) in
      let p = 2 ^ j in
      same_test _ _ (λ t. let s = rw (weight_finer i h) at (exact_square finer (suc (53 + j)) i e' t) in
      square_exact m 54 i e (s.0, eq_of_mul-eq-mul_right (p * p) (mul-pos (pow_pos j) (pow_pos j)) _ _ (sym (products s.0 q p) ∙ s.1)))
      (λ t. let s = exact_square m 54 i e t in
      square_exact finer (suc (53 + j)) i e' (rw (weight_finer i h) (s.0, products s.0 q p ∙ ap (λ (x : ℕ). x * (p * p)) s.1)))

  rounds_finer : rounds_in finer ≡ rounds_in m
  unfolding rounds_in
  rounds_finer = same_least (exact_at finer (root finer)) (exact_at m (root m)) 0 full_rounds exact_finer

-- ---- the rounds of a positive double, by its value
rounds_by_value : (x : Float) (a : ℕ) → HasValue x false a (2 ^ 1126) → rounds x ≡ rounds_in (a * 2 ^ 1022)
unfolding rounds
rounds_by_value nan a v = absurd v
rounds_by_value (inf s) a v = absurd v
rounds_by_value (fin true m e) a v = absurd (true≢false v.0)
rounds_by_value (fin false m e) a v = ap rounds_in (in_fourths_is m a e v.1)

pub rounds_are : (b sig exp : ℕ) → Parts b sig exp → rounds (of_bits binary64 b) ≡ rounds_in (radicand sig exp)
rounds_are b sig exp c =
    let s = shifted_range sig (exp % 2) c.0.0 c.0.1 (omega arith) in
    rounds_by_value (of_bits binary64 b) (sig * 2 ^ exp) c.1 ∙ ap rounds_in (in_squares sig exp) ∙ rounds_finer (radicand sig exp) (exp / 2 + 484) (omega (arith, s.0)) (omega (arith, s.1))
