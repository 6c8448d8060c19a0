-- The test of the first n values of an array: it is that of the slice of them.
use Rattle.std.specs.Prelude.{ℕ, zero, suc, ◌≤◌, ◌≡◌, Bool, true, ◌&&◌, List, length, get_or, replicate, take, Float, refl}
use Rattle.std.specs.Float.{nan}
use Rattle.std.specs.List.{list_all}
use Rattle.std.proofs.Common.{arith, add-one, ap, ◌∙◌}
use Rattle.std.proofs.lemmas.List.{get_or-replicate}
use Rattle.std.proofs.lemmas.List.Folds.{list_all_more}
use Rattle.arithmetic.specs.Constants.{zero_d}
use Rattle.checks.specs.Checks.{all_first}

pub of_the_first : (p : Float → Bool) (n : ℕ) (xs : List Float) → n ≤ length xs → list_all p (take n xs) ≡ all_first p n xs
unfolding all_first
of_the_first p zero xs h = refl
of_the_first p (suc n) xs h =
    let one_more : list_all p (take (suc n) xs) ≡ (list_all p (take n xs) && p (get_or xs n nan)) = rw (← add-one n) (list_all_more p xs n nan (omega arith)) in
    one_more ∙ ap (λ (b : Bool). b && p (get_or xs n nan)) (of_the_first p n xs (omega arith))

-- of an array of +0
pub zeros_pass : (p : Float → Bool) → p zero_d ≡ true → (size n : ℕ) → n ≤ size → all_first p n (replicate size zero_d) ≡ true
unfolding all_first
zeros_pass p e size zero h = refl
zeros_pass p e size (suc n) h = rw (zeros_pass p e size n (omega arith), get_or-replicate size n zero_d nan (omega arith)) e
