-- The laws of `Close`: distances add up, and a factor scales them. A bound |x| ≤ b is the distance from zero.
use Prim.Native.Nat.{ℕ, ◌+◌, ◌*◌, ◌≤◌, ◌<◌}
use native.Mathlib.Nat.{mul-le-mul_right, mul-lt-mul_of_pos_right, mul-pos}
use native.Mathlib.Omega.{arith}
use mathlib.Core.Logic.{inl, inr}
use mathlib.Core.Bool.{Bool, not, ◌&&◌}
use lib.Dec.{T}
use lib.Ieee.Fits.{and_l, and_r}
use lib.Ieee.Bits.{is_false}
use Rattle.arithmetic.specs.Fraction.{Fraction, ◌≼◌, ◌≺◌, ◌≺?◌, null, ◌⊕◌, opp, ◌⊖◌, ◌⊗◌, Close}
use Rattle.arithmetic.proofs.Fraction.{≼_refl, ≼_trans, ≺-≼-trans, ≼-≺-trans, ≼-or-≻, ≺-irrefl, ≺→≼, was_no, ⊕-mono, ⊗-mono, ⊗-anti, ⊗-swap}
use Rattle.arithmetic.proofs.Fraction.{side, ◌≈◌, ≈-refl, ⊕-assoc, ⊕-comm, ⊕-interchange, ⊕-right-comm, ⊗-comm, ⊗-distrib, ⊗-null, null-⊕, ⊖-self}

more : (x d : Fraction) → null ≼ d → x ≼ x ⊕ d
more x d z = record { cross = go x.plus x.minus x.den d.plus d.minus d.den (omega (arith, z)) }
  where
    go : (p n d p' n' d' : ℕ) → n' ≤ p' → p * (d * d') + (n * d' + n' * d) * d ≤ (p * d' + p' * d) * d + n * (d * d')
    go p n d p' n' d' h = omega (arith, mul-le-mul_right (d * d) h)

pub same_close : {d x y : Fraction} → null ≼ d → x ≈ y → Close d x y
same_close {d} {x} {y} z h = record { low = ≼_trans h.0 (more y d z); high = ≼_trans h.1 (more x d z) }

-- a distance is not negative
shrinks : (x d : Fraction) → d ≺ null → x ⊕ d ≺ x
shrinks x d z = record { cross = go x.plus x.minus x.den d.plus d.minus d.den (mul-pos x.above x.above) (omega (arith, z)) }
  where
    go : (p n d p' n' d' : ℕ) → 0 < d * d → p' < n' → (p * d' + p' * d) * d + n * (d * d') < p * (d * d') + (n * d' + n' * d) * d
    go p n d p' n' d' D h = omega (arith, mul-lt-mul_of_pos_right h D)

pub close_nonneg : {d x y : Fraction} → Close d x y → null ≼ d
close_nonneg {d} {x} {y} h = elim (≼-or-≻ null d) [
  | inl z ↦ z
  | inr z ↦ absurd (≺-irrefl (≼-≺-trans h.low (≺-≼-trans (shrinks y d z) (≼_trans h.high (≺→≼ (shrinks x d z))))))
]

pub close_sym : {d x y : Fraction} → Close d x y → Close d y x
close_sym h = record { low = h.high; high = h.low }

pub close_within : {d e x y : Fraction} → d ≼ e → Close d x y → Close e x y
close_within {d} {e} {x} {y} l h = record { low = ≼_trans h.low (⊕-mono (≼_refl y) l); high = ≼_trans h.high (⊕-mono (≼_refl x) l) }

through : (d e : Fraction) {x y : Fraction} (z : Fraction) → x ≼ y ⊕ d → y ≼ z ⊕ e → x ≼ z ⊕ (d ⊕ e)
through d e z h k = ≼_trans h (≼_trans (⊕-mono k (≼_refl d)) (≼_trans (⊕-assoc z e d).0 (⊕-mono (≼_refl z) (⊕-comm e d).0)))

pub close_trans : {d e x y z : Fraction} → Close d x y → Close e y z → Close (d ⊕ e) x z
close_trans {d} {e} {x} {y} {z} h k = record { low = through d e z h.low k.low; high = ≼_trans (through e d x k.high h.high) (⊕-mono (≼_refl x) (⊕-comm e d).0) }

pub close_at : {d x x' y y' : Fraction} → x ≈ x' → y ≈ y' → Close d x y → Close d x' y'
close_at {d} h k c = record {
  low = ≼_trans h.1 (≼_trans c.low (⊕-mono k.0 (≼_refl d)));
  high = ≼_trans k.1 (≼_trans c.high (⊕-mono h.0 (≼_refl d)));
}

pub close_add : {d e x y u v : Fraction} → Close d x y → Close e u v → Close (d ⊕ e) (x ⊕ u) (y ⊕ v)
close_add {d} {e} {x} {y} {u} {v} h k = record {
  low = ≼_trans (⊕-mono h.low k.low) (⊕-interchange y d v e).0;
  high = ≼_trans (⊕-mono h.high k.high) (⊕-interchange x d u e).0;
}

-- both moved by c
pub close_plus : {d x y : Fraction} (c : Fraction) → Close d x y → Close d (x ⊕ c) (y ⊕ c)
close_plus {d} {x} {y} c h = record { low = ≼_trans (⊕-mono h.low (≼_refl c)) (⊕-right-comm y d c).0; high = ≼_trans (⊕-mono h.high (≼_refl c)) (⊕-right-comm x d c).0 }

-- of the opposites, and of the difference from zero
pub close_opp : {d x y : Fraction} → Close d x y → Close d (opp x) (opp y)
close_opp {d} {x} {y} h = record { low = record { cross = omega (arith, h.high) }; high = record { cross = omega (arith, h.low) } }

pub close_difference : {d x y : Fraction} → Close d x y → Close d (x ⊖ y) null
close_difference {d} {x} {y} h = close_at (≈-refl (x ⊖ y)) (⊖-self y) (close_plus (opp y) h)

-- two numbers between l and u
pub both_within : {l u x y : Fraction} → l ≼ x → x ≼ u → l ≼ y → y ≼ u → Close (u ⊖ l) x y
both_within {l} {u} lx xu ly yu =
    let w : u ≼ l ⊕ (u ⊖ l) = record { cross = omega arith } in
    record { low = ≼_trans xu (≼_trans w (⊕-mono ly (≼_refl (u ⊖ l)))); high = ≼_trans yu (≼_trans w (⊕-mono lx (≼_refl (u ⊖ l)))) }

-- |r| ≤ b
pub at_most_bound : {b r : Fraction} → Close b r null → r ≼ b
at_most_bound {b} h = ≼_trans h.low (null-⊕ b).0

pub opposite_at_most_bound : {b r : Fraction} → Close b r null → opp r ≼ b
opposite_at_most_bound h = omega (arith, h.high)

pub bound_of : {b r : Fraction} → opp b ≼ r → r ≼ b → Close b r null
bound_of {b} {r} l h = record { low = record { cross = omega (arith, h) }; high = record { cross = omega (arith, l) } }

without : (x y d r : Fraction) → r ⊗ x ⊕ r ⊗ d ≼ r ⊗ y → r ⊗ x ≼ r ⊗ y ⊕ opp r ⊗ d
without x y d r h = ≼_trans (cancel (r ⊗ x) (r ⊗ d)) (⊕-mono h (record { cross = omega arith }))
  where
    cancel : (a b : Fraction) → a ≼ a ⊕ b ⊕ opp b
    cancel a b = omega arith

scaled : (r : Fraction) {b d x y : Fraction} → Close b r null → Close d x y → r ⊗ x ≼ r ⊗ y ⊕ b ⊗ d
scaled r {b} {d} {x} {y} g h = elim (side r) [
  | inl p ↦ ≼_trans (⊗-mono p h.low) (≼_trans (⊗-distrib r y d).0 (⊕-mono (≼_refl (r ⊗ y)) (grown (at_most_bound g))))
  | inr p ↦ ≼_trans (without x y d r (≼_trans (⊗-distrib r x d).1 (⊗-anti p h.high))) (⊕-mono (≼_refl (r ⊗ y)) (grown (opposite_at_most_bound g)))
]
  where
    grown : {a : Fraction} → a ≼ b → a ⊗ d ≼ b ⊗ d
    grown {a} l = ≼_trans (⊗-swap a d) (≼_trans (⊗-mono (close_nonneg h) l) (⊗-swap d b))

pub close_scale : (r : Fraction) {b d x y : Fraction} → Close b r null → Close d x y → Close (b ⊗ d) (r ⊗ x) (r ⊗ y)
close_scale r g h = record { low = scaled r g h; high = scaled r g (close_sym h) }

pub close_scale_right : (r : Fraction) {b d x y : Fraction} → Close b r null → Close d x y → Close (b ⊗ d) (x ⊗ r) (y ⊗ r)
close_scale_right r {x = x} {y = y} g h = close_at (⊗-comm r x) (⊗-comm r y) (close_scale r g h)

-- |x| ≤ b and |y| ≤ c
pub bound_times : {b c x y : Fraction} → Close b x null → Close c y null → Close (b ⊗ c) (x ⊗ y) null
bound_times {x = x} {y = y} g h = close_at (≈-refl (x ⊗ y)) (⊗-null x) (close_scale x g h)

pub bound_plus : {b c x y : Fraction} → Close b x null → Close c y null → Close (b ⊕ c) (x ⊕ y) null
bound_plus {x = x} {y = y} g h = close_at (≈-refl (x ⊕ y)) (null-⊕ null) (close_add g h)

-- ---- the distance as a test, for numbers that are written out
abbrev pub close? : Fraction → Fraction → Fraction → Bool
close? d x y = not (y ⊕ d ≺? x) && not (x ⊕ d ≺? y)

pub test_close : (d x y : Fraction) → T (close? d x y) → Close d x y
test_close d x y t =
    let a = y ⊕ d ≺? x in
    let b = x ⊕ d ≺? y in
    record { low = was_no (y ⊕ d) x (is_false a (and_l (not a) (not b) t)); high = was_no (x ⊕ d) y (is_false b (and_r (not a) (not b) t)) }
