-- The laws of fractions: the order, how sums, products and quotients keep it, and the laws of sums and products.
use mathlib.Core.Path.{◌≡◌, sym, subst, ◌∙◌}
use mathlib.Core.Logic.{◌⊎◌, inl, inr}
use Prim.Native.Nat.{ℕ, ◌+◌, ◌-◌, ◌*◌, ◌≤◌, ◌<◌, max}
use native.Mathlib.Nat.{le_of_mul-le-mul_right, lt_of_mul-lt-mul_right, mul-le-mul_right, mul-lt-mul_of_pos_right, le_of_eq, le_refl, lt_irrefl, lt_trans, not-le_of_lt}
use native.Mathlib.Omega.{arith}
use mathlib.Core.Bool.{Bool, true, false, not, cond, true≢false}
use lib.Dec.{T, ltb, ltb→lt, lt→ltb, nltb→le, not_T}
use lib.Arith.{le→nltb}
use lib.Ieee.Bits.{is_true, is_false}
use Rattle.arithmetic.specs.Fraction.{Fraction, ◌≼◌, ◌≺◌, ◌≺?◌, null, one, ◌⊕◌, opp, ◌⊖◌, ◌⊗◌, gap, recip, ◌⊘◌, Apart}

-- ---- the order
pub ≼_refl : (x : Fraction) → x ≼ x
≼_refl x = record { cross = le_refl _ }

trans : (p n d p' n' d' p'' n'' d'' : ℕ) → 0 < d' → p * d' + n' * d ≤ p' * d + n * d' → p' * d'' + n'' * d' ≤ p'' * d' + n' * d'' → p * d'' + n'' * d ≤ p'' * d + n * d''
trans p n d p' n' d' p'' n'' d'' D h k =
    let l : (p * d'' + n'' * d) * d' ≤ (p'' * d + n * d'') * d' = omega (arith, mul-le-mul_right d'' h, mul-le-mul_right d k) in
    le_of_mul-le-mul_right l D

pub ≼_trans : {x y z : Fraction} → x ≼ y → y ≼ z → x ≼ z
≼_trans {x} {y} {z} h k = record { cross = trans x.plus x.minus x.den y.plus y.minus y.den z.plus z.minus z.den y.above h.cross k.cross }

trans_lt : (p n d p' n' d' p'' n'' d'' : ℕ) → 0 < d' → 0 < d'' → p * d' + n' * d < p' * d + n * d' → p' * d'' + n'' * d' ≤ p'' * d' + n' * d'' → p * d'' + n'' * d < p'' * d + n * d''
trans_lt p n d p' n' d' p'' n'' d'' D D'' h k =
    let l : (p * d'' + n'' * d) * d' < (p'' * d + n * d'') * d' = omega (arith, mul-lt-mul_of_pos_right h D'', mul-le-mul_right d k) in
    lt_of_mul-lt-mul_right d' l

pub ≺-≼-trans : {x y z : Fraction} → x ≺ y → y ≼ z → x ≺ z
≺-≼-trans {x} {y} {z} h k = record { cross = trans_lt x.plus x.minus x.den y.plus y.minus y.den z.plus z.minus z.den y.above z.above h.cross k.cross }

trans_lt' : (p n d p' n' d' p'' n'' d'' : ℕ) → 0 < d → p * d' + n' * d ≤ p' * d + n * d' → p' * d'' + n'' * d' < p'' * d' + n' * d'' → p * d'' + n'' * d < p'' * d + n * d''
trans_lt' p n d p' n' d' p'' n'' d'' D h k =
    let l : (p * d'' + n'' * d) * d' < (p'' * d + n * d'') * d' = omega (arith, mul-le-mul_right d'' h, mul-lt-mul_of_pos_right k D) in
    lt_of_mul-lt-mul_right d' l

pub ≼-≺-trans : {x y z : Fraction} → x ≼ y → y ≺ z → x ≺ z
≼-≺-trans {x} {y} {z} h k = record { cross = trans_lt' x.plus x.minus x.den y.plus y.minus y.den z.plus z.minus z.den x.above h.cross k.cross }

pub ≼-or-≻ : (x y : Fraction) → (x ≼ y) ⊎ (y ≺ x)
≼-or-≻ x y = go (ltb b a) (nltb→le b a) (ltb→lt b a)
  where
    a : ℕ
    a = x.plus * y.den + y.minus * x.den

    b : ℕ
    b = y.plus * x.den + x.minus * y.den

    go : (t : Bool) → (T (not t) → a ≤ b) → (T t → b < a) → (x ≼ y) ⊎ (y ≺ x)
    go true h k = inr (record { cross = omega (arith, k tt) })
    go false h k = inl (record { cross = omega (arith, h tt) })

pub ≺→≼ : {x y : Fraction} → x ≺ y → x ≼ y
≺→≼ h = omega (arith, h)

pub ≺-not-≼ : {x y : Fraction} → x ≺ y → y ≼ x → ⊥
≺-not-≼ h k = omega (arith, h, k)

pub ≺-irrefl : {x : Fraction} → x ≺ x → ⊥
≺-irrefl h = omega (arith, h)

-- ---- the test of the order
pub ≺?→≺ : (x y : Fraction) → T (x ≺? y) → x ≺ y
≺?→≺ x y t = record { cross = ltb→lt _ _ t }

pub ≺→≺? : (x y : Fraction) → x ≺ y → T (x ≺? y)
≺→≺? x y h = lt→ltb _ _ h.cross

pub ≺?-yes : {x y : Fraction} → x ≺ y → (x ≺? y) ≡ true
≺?-yes {x} {y} h = is_true (x ≺? y) (≺→≺? x y h)

pub ≺?-no : {x y : Fraction} → y ≼ x → (x ≺? y) ≡ false
≺?-no {x} {y} h = is_false (x ≺? y) (not_T (x ≺? y) (λ t. ≺-not-≼ (≺?→≺ x y t) h))

pub was_yes : (x y : Fraction) → (x ≺? y) ≡ true → x ≺ y
was_yes x y e = ≺?→≺ x y (subst (λ (b : Bool). T b) (sym e) tt)

pub was_no : (x y : Fraction) → (x ≺? y) ≡ false → y ≼ x
was_no x y e = elim (≼-or-≻ y x) [ inl h ↦ h | inr h ↦ absurd (true≢false (sym (≺?-yes h) ∙ e)) ]

-- ---- the sum, and the negation
add_both : (p n d p' n' d' q m c q' m' c' : ℕ) → p * d' + n' * d ≤ p' * d + n * d' → q * c' + m' * c ≤ q' * c + m * c'
    → (p * c + q * d) * (d' * c') + (n' * c' + m' * d') * (d * c) ≤ (p' * c' + q' * d') * (d * c) + (n * c + m * d) * (d' * c')
add_both p n d p' n' d' q m c q' m' c' h k =
    let h' : p * c * (d' * c') + n' * c' * (d * c) ≤ p' * c' * (d * c) + n * c * (d' * c') = omega (arith, mul-le-mul_right (c * c') h) in
    let k' : q * d * (d' * c') + m' * d' * (d * c) ≤ q' * d' * (d * c) + m * d * (d' * c') = omega (arith, mul-le-mul_right (d * d') k) in
    omega arith

pub ⊕-mono : {x x' y y' : Fraction} → x ≼ x' → y ≼ y' → x ⊕ y ≼ x' ⊕ y'
⊕-mono {x} {x'} {y} {y'} h k = record {
  cross = add_both x.plus x.minus x.den x'.plus x'.minus x'.den y.plus y.minus y.den y'.plus y'.minus y'.den h.cross k.cross;
}

pub opp_anti : {x y : Fraction} → x ≼ y → opp y ≼ opp x
opp_anti h = omega (arith, h)

-- ---- the product
-- with a first factor nu + k over nu, which is k / du
scale : (nu k du pv nv dv py ny dy : ℕ) → pv * dy + ny * dv ≤ py * dv + nv * dy
    → ((nu + k) * pv + nu * nv) * (du * dy) + ((nu + k) * ny + nu * py) * (du * dv) ≤ ((nu + k) * py + nu * ny) * (du * dv) + ((nu + k) * nv + nu * pv) * (du * dy)
scale nu k du pv nv dv py ny dy h = omega (arith, mul-le-mul_right (k * du) h)

pub ⊗-mono : {u v y : Fraction} → null ≼ u → v ≼ y → u ⊗ v ≼ u ⊗ y
⊗-mono {u} {v} {y} z h = record { cross = go u.plus (u.plus - u.minus) (omega (arith, z)) }
  where
    go : (pu k : ℕ) → pu ≡ u.minus + k
        → (pu * v.plus + u.minus * v.minus) * (u.den * y.den) + (pu * y.minus + u.minus * y.plus) * (u.den * v.den) ≤ (pu * y.plus + u.minus * y.minus) * (u.den * v.den) + (pu * v.minus + u.minus * v.plus) * (u.den * y.den)
    go pu k e = rw e (scale u.minus k u.den v.plus v.minus v.den y.plus y.minus y.den h.cross)

pub ⊗-anti : {u v y : Fraction} → u ≼ null → v ≼ y → u ⊗ y ≼ u ⊗ v
⊗-anti {u} {v} {y} z h =
    let s : opp u ⊗ v ≼ opp u ⊗ y = ⊗-mono (omega (arith, z)) h in
    omega (arith, s)

pub ⊗-swap : (u v : Fraction) → u ⊗ v ≼ v ⊗ u
⊗-swap u v = omega arith

-- every number lies on one side of zero
pub side : (u : Fraction) → (null ≼ u) ⊎ (u ≼ null)
side u = elim (≼-or-≻ null u) [ inl h ↦ inl h | inr h ↦ inr (≺→≼ h) ]

-- one factor fixed, the other between two ends
pub least_at : (u : Fraction) {l v y w : Fraction} → l ≼ u ⊗ v → l ≼ u ⊗ w → v ≼ y → y ≼ w → l ≼ u ⊗ y
least_at u a b h k = elim (side u) [ inl z ↦ ≼_trans a (⊗-mono z h) | inr z ↦ ≼_trans b (⊗-anti z k) ]

pub greatest_at : (u : Fraction) {l v y w : Fraction} → u ⊗ v ≼ l → u ⊗ w ≼ l → v ≼ y → y ≼ w → u ⊗ y ≼ l
greatest_at u a b h k = elim (side u) [ inl z ↦ ≼_trans (⊗-mono z k) b | inr z ↦ ≼_trans (⊗-anti z h) a ]

-- x between a and b, and y between c and d
module _ {a b c d x y : Fraction} (ax : a ≼ x) (xb : x ≼ b) (cy : c ≼ y) (yd : y ≼ d) where
  pub product_least : {l : Fraction} → l ≼ a ⊗ c → l ≼ a ⊗ d → l ≼ b ⊗ c → l ≼ b ⊗ d → l ≼ x ⊗ y
  product_least p q r s =
      ≼_trans (least_at y (≼_trans (least_at a p q cy yd) (⊗-swap a y)) (≼_trans (least_at b r s cy yd) (⊗-swap b y)) ax xb) (⊗-swap y x)

  pub product_greatest : {l : Fraction} → a ⊗ c ≼ l → a ⊗ d ≼ l → b ⊗ c ≼ l → b ⊗ d ≼ l → x ⊗ y ≼ l
  product_greatest p q r s =
      ≼_trans (⊗-swap x y) (greatest_at y (≼_trans (⊗-swap y a) (greatest_at a p q cy yd)) (≼_trans (⊗-swap y b) (greatest_at b r s cy yd)) ax xb)

-- ---- the quotient
-- both above zero
over : (n k d n' k' d' g g' : ℕ) → (n + k) * d' + n' * d ≤ (n' + k') * d + n * d' → g ≡ k → g' ≡ k' → d' * g + 0 * g' ≤ d * g' + 0 * g
over n k d n' k' d' g g' h e e' = rw (e, e') (omega (arith, h))

-- both below zero: n k and n' k' the other way round
under : (p k d p' k' d' g g' : ℕ) → p * d' + (p' + k') * d ≤ p' * d + (p + k) * d' → g ≡ k → g' ≡ k' → 0 * g + d * g' ≤ 0 * g' + d' * g
under p k d p' k' d' g g' h e e' = rw (e, e') (omega (arith, h))

back : (n p : ℕ) → n < p → p ≡ n + (p - n)
back n p a = omega arith

only_over : (p n : ℕ) → n < p → max 1 (p - n + (n - p)) ≡ p - n
only_over p n a = omega arith

only_under : (p n : ℕ) → p < n → max 1 (p - n + (n - p)) ≡ n - p
only_under p n a = omega arith

-- the tests that `recip` makes, as variables t and t', for two numbers on one side of zero
module _ (p n d p' n' d' : ℕ) (h : p * d' + n' * d ≤ p' * d + n * d') where
  abbrev Flipped : Bool → Bool → Type 0
  Flipped t t' =
      cond t' d' 0 * max 1 (p - n + (n - p)) + cond t 0 d * max 1 (p' - n' + (n' - p')) ≤ cond t d 0 * max 1 (p' - n' + (n' - p')) + cond t' 0 d' * max 1 (p - n + (n - p))

  flip_over : (t t' : Bool) → (T (not t) → p ≤ n) → (T (not t') → p' ≤ n') → n < p → n' < p' → Flipped t t'
  flip_over true true f f' a a' =
      over n (p - n) d n' (p' - n') d' (max 1 (p - n + (n - p))) (max 1 (p' - n' + (n' - p'))) (subst (λ (z : ℕ). z * d' + n' * d ≤ (n' + (p' - n')) * d + n * d') (back n p a) (subst (λ (z : ℕ). p * d' + n' * d ≤ z * d + n * d') (back n' p' a') h)) (only_over p n a) (only_over p' n' a')
  flip_over true false f f' a a' = absurd (not-le_of_lt a' (f' tt))
  flip_over false t' f f' a a' = absurd (not-le_of_lt a (f tt))

  flip_under : (t t' : Bool) → (T t → n < p) → (T t' → n' < p') → p < n → p' < n' → Flipped t t'
  flip_under false false f f' a a' =
      under p (n - p) d p' (n' - p') d' (max 1 (p - n + (n - p))) (max 1 (p' - n' + (n' - p'))) (subst (λ (z : ℕ). p * d' + (p' + (n' - p')) * d ≤ p' * d + z * d') (back p n a) (subst (λ (z : ℕ). p * d' + z * d ≤ p' * d + n * d') (back p' n' a') h)) (only_under p n a) (only_under p' n' a')
  flip_under false true f f' a a' = absurd (lt_irrefl _ (lt_trans a' (f' tt)))
  flip_under true t' f f' a a' = absurd (lt_irrefl _ (lt_trans a (f tt)))

pub recip_over : {y y' : Fraction} → null ≺ y → y ≼ y' → recip y' ≼ recip y
recip_over {y} {y'} z h =
    let z' : null ≺ y' = ≺-≼-trans z h in
    record { cross = flip_over y.plus y.minus y.den y'.plus y'.minus y'.den h.cross (ltb y.minus y.plus) (ltb y'.minus y'.plus) (nltb→le y.minus y.plus) (nltb→le y'.minus y'.plus) (omega (arith, z)) (omega (arith, z')) }

pub recip_under : {y y' : Fraction} → y' ≺ null → y ≼ y' → recip y' ≼ recip y
recip_under {y} {y'} z' h =
    let z : y ≺ null = ≼-≺-trans h z' in
    record { cross = flip_under y.plus y.minus y.den y'.plus y'.minus y'.den h.cross (ltb y.minus y.plus) (ltb y'.minus y'.plus) (ltb→lt y.minus y.plus) (ltb→lt y'.minus y'.plus) (omega (arith, z)) (omega (arith, z')) }

pub apart_at : {c y d : Fraction} → Apart c d → c ≼ y → y ≼ d → Apart y y
apart_at (inl z) h k = inl (≺-≼-trans z h)
apart_at (inr z) h k = inr (≼-≺-trans k z)

recips : {c y d : Fraction} → Apart c d → c ≼ y → y ≼ d → (recip d ≼ recip y) × (recip y ≼ recip c)
recips (inl z) h k = (recip_over (≺-≼-trans z h) k, recip_over z h)
recips (inr z) h k = (recip_under z k, recip_under (≼-≺-trans k z) h)

module _ {a b c d x y : Fraction} (z : Apart c d) (ax : a ≼ x) (xb : x ≼ b) (cy : c ≼ y) (yd : y ≼ d) where
  pub quotient_least : {l : Fraction} → l ≼ a ⊘ c → l ≼ a ⊘ d → l ≼ b ⊘ c → l ≼ b ⊘ d → l ≼ x ⊘ y
  quotient_least p q r s = product_least ax xb (recips z cy yd).0 (recips z cy yd).1 q p s r

  pub quotient_greatest : {l : Fraction} → a ⊘ c ≼ l → a ⊘ d ≼ l → b ⊘ c ≼ l → b ⊘ d ≼ l → x ⊘ y ≼ l
  quotient_greatest p q r s = product_greatest ax xb (recips z cy yd).0 (recips z cy yd).1 q p s r

-- ---- the reciprocal is one: y times it is 1
whole_over : (n k d g : ℕ) → g ≡ k → ((n + k) * d + n * 0) * 1 + 0 * (d * g) ≡ 1 * (d * g) + ((n + k) * 0 + n * d) * 1
whole_over n k d g e = rw e (omega arith)

whole_under : (p k d g : ℕ) → g ≡ k → (p * 0 + (p + k) * d) * 1 + 0 * (d * g) ≡ 1 * (d * g) + (p * d + (p + k) * 0) * 1
whole_under p k d g e = rw e (omega arith)

pub recip_is : (y : Fraction) → Apart y y → (y ⊗ recip y ≼ one) × (one ≼ y ⊗ recip y)
recip_is y (inl z) =
    let a : y.minus < y.plus = omega (arith, z) in
    let e = whole_over y.minus (y.plus - y.minus) y.den (gap y) (only_over y.plus y.minus a) in
    let e' = rw (← back y.minus y.plus a) at e in
    let t : ltb y.minus y.plus ≡ true = is_true (ltb y.minus y.plus) (lt→ltb y.minus y.plus a) in
    (record { cross = rw t (le_of_eq e') }, record { cross = rw t (omega (arith, e')) })
recip_is y (inr z) =
    let a : y.plus < y.minus = omega (arith, z) in
    let e = whole_under y.plus (y.minus - y.plus) y.den (gap y) (only_under y.plus y.minus a) in
    let e' = rw (← back y.plus y.minus a) at e in
    let t : ltb y.minus y.plus ≡ false = is_false (ltb y.minus y.plus) (le→nltb y.minus y.plus (omega (arith, a))) in
    (record { cross = rw t (le_of_eq e') }, record { cross = rw t (omega (arith, e')) })

-- ---- two fractions are one number
infix 4 ◌≈◌
abbrev pub ◌≈◌ : Fraction → Fraction → Type 0
x ≈ y = (x ≼ y) × (y ≼ x)

pub ≈-refl : (x : Fraction) → x ≈ x
≈-refl x = (≼_refl x, ≼_refl x)

pub ≈-sym : {x y : Fraction} → x ≈ y → y ≈ x
≈-sym h = (h.1, h.0)

pub ≈-trans : {x y z : Fraction} → x ≈ y → y ≈ z → x ≈ z
≈-trans h k = (≼_trans h.0 k.0, ≼_trans k.1 h.1)

pub ⊕-cong : {x x' y y' : Fraction} → x ≈ x' → y ≈ y' → x ⊕ y ≈ x' ⊕ y'
⊕-cong h k = (⊕-mono h.0 k.0, ⊕-mono h.1 k.1)

⊗-mono-at : (u : Fraction) {v y : Fraction} → v ≈ y → u ⊗ v ≼ u ⊗ y
⊗-mono-at u h = elim (side u) [ inl z ↦ ⊗-mono z h.0 | inr z ↦ ⊗-anti z h.1 ]

pub ⊗-cong-right : (u : Fraction) {v y : Fraction} → v ≈ y → u ⊗ v ≈ u ⊗ y
⊗-cong-right u h = (⊗-mono-at u h, ⊗-mono-at u (≈-sym h))

pub ⊗-comm : (u v : Fraction) → u ⊗ v ≈ v ⊗ u
⊗-comm u v = (⊗-swap u v, ⊗-swap v u)

pub ⊗-cong : {x x' y y' : Fraction} → x ≈ x' → y ≈ y' → x ⊗ y ≈ x' ⊗ y'
⊗-cong {x} {x'} {y} {y'} h k = ≈-trans (⊗-cong-right x k) (≈-trans (⊗-comm x y') (≈-trans (⊗-cong-right y' h) (⊗-comm y' x')))

pub ⊕-assoc : (x y z : Fraction) → x ⊕ y ⊕ z ≈ x ⊕ (y ⊕ z)
⊕-assoc x y z = (omega arith, omega arith)

pub ⊗-assoc : (x y z : Fraction) → x ⊗ y ⊗ z ≈ x ⊗ (y ⊗ z)
⊗-assoc x y z = (omega arith, omega arith)

pub ⊕-comm : (x y : Fraction) → x ⊕ y ≈ y ⊕ x
⊕-comm x y = (omega arith, omega arith)

-- in long fractions the parts that are added and the parts that are taken off are compared apart
by_parts : (x y : Fraction) → x.plus * y.den ≡ y.plus * x.den → x.minus * y.den ≡ y.minus * x.den → x ≈ y
by_parts x y p n = (record { cross = omega arith }, record { cross = omega arith })

pub ⊗-distrib : (x y z : Fraction) → x ⊗ (y ⊕ z) ≈ x ⊗ y ⊕ x ⊗ z
⊗-distrib x y z = by_parts (x ⊗ (y ⊕ z)) (x ⊗ y ⊕ x ⊗ z) (omega arith) (omega arith)

pub null-⊕ : (x : Fraction) → null ⊕ x ≈ x
null-⊕ x = (omega arith, omega arith)

pub ⊖-self : (x : Fraction) → x ⊖ x ≈ null
⊖-self x = (omega arith, omega arith)

pub ⊕-⊖ : (x y : Fraction) → x ⊕ y ⊖ y ≈ x
⊕-⊖ x y = (record { cross = omega arith }, record { cross = omega arith })

pub ⊕-cancel : {x y : Fraction} (z : Fraction) → x ⊕ z ≼ y ⊕ z → x ≼ y
⊕-cancel {x} {y} z h = ≼_trans (⊕-⊖ x z).1 (≼_trans (⊕-mono h (≼_refl (opp z))) (⊕-⊖ y z).0)

pub ⊗-null : (x : Fraction) → x ⊗ null ≈ null
⊗-null x = (omega arith, omega arith)

pub ⊕-right-comm : (x y z : Fraction) → x ⊕ y ⊕ z ≈ x ⊕ z ⊕ y
⊕-right-comm x y z = by_parts (x ⊕ y ⊕ z) (x ⊕ z ⊕ y) (omega arith) (omega arith)

pub ⊕-interchange : (a b c d : Fraction) → a ⊕ b ⊕ (c ⊕ d) ≈ a ⊕ c ⊕ (b ⊕ d)
⊕-interchange a b c d = by_parts (a ⊕ b ⊕ (c ⊕ d)) (a ⊕ c ⊕ (b ⊕ d)) (omega arith) (omega arith)
