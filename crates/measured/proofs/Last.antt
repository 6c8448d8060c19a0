-- The operations by number with one more at the end.
use Rattle.std.proofs.Common.{◌≡◌, ℕ, zero, suc, List, [], ◌∷◌, ◌++◌, length, get_or, refl, ap}
use Rattle.std.specs.Prelude.{Float}
use Rattle.range.specs.declared.basic.Range.{Range}
use Rattle.range.specs.Rules.{ranges, failed}
use Rattle.measured.specs.Applied.{operations, applied, where_above, of_ranges}

other : {V : Type 0} (xs : List V) (x d : V) (n : ℕ) → (n ≡ length xs → ⊥) → get_or (xs ++ x ∷ []) n d ≡ get_or xs n d
other [] x d zero h = absurd (h refl)
other [] x d (suc n) h = refl
other (y ∷ ys) x d zero h = refl
other (y ∷ ys) x d (suc n) h = other ys x d n (λ e. h (ap suc e))

pub last_of_ranges : (k : ℕ) (t : Float) (a b : Range) → of_ranges 13 k t a b ≡ where_above t a b
unfolding applied
last_of_ranges k t a b = refl

pub before_last : (op k : ℕ) (t : Float) (a b : Range) → (op ≡ 13 → ⊥) → of_ranges op k t a b ≡ applied ranges failed op k t a b []
unfolding applied
before_last op k t a b h = other (operations ranges failed k t a b []) (where_above t a b) failed op h
