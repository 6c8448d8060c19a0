-- The values of a list that is given by a function, and of an array with +0 behind them.
use Prim.Native.Nat.{ℕ, zero, suc, ◌+◌, ◌-◌, ◌≤◌, ◌<◌}
use mathlib.Core.Path.{◌≡◌, refl, sym, ap, ap₂, ◌∙◌, subst}
use mathlib.Core.Logic.{◌⊎◌, inl, inr}
use mathlib.Core.List.{List, [], ◌∷◌, ◌++◌, append_assoc}
use native.Mathlib.Decide.{dec_lt}
use native.Mathlib.Omega.{arith}
use lib.Dec.{T}
use lib.ListN.{get_or, replicate, get_or-append}
use Rattle.std.proofs.lemmas.List.{append-nil, replicate-append-replicate, get_or-replicate}
use native.Mathlib.Numerals.{add-one}
use lib.Seq.{get_or_at}
use lib.Ieee.{Float, binary64, fits, of_bits, nan}
use Rattle.arithmetic.specs.Constants.{zero_d}
use Rattle.big_endian.proofs.Inverse.{read_fits}
use Rattle.case_record.specs.Record.{column, row, values}
use Rattle.case_record.specs.Writing.{PaddedRow}
use Rattle.case_record.proofs.Rows.{length_values}

pub below_or_from : (k n : ℕ) → (k < n) ⊎ (n ≤ k)
below_or_from k n = elim (dec_lt k n) [
  | yes p ↦ inl p
  | no p ↦ inr (omega arith)
]

none_below_zero : (i : ℕ) → i < 0 → ⊥
none_below_zero i h = omega arith

pub value_at : (n : ℕ) (f : ℕ → Float) (i : ℕ) → i < n → get_or (values n f) i nan ≡ f i
unfolding values
value_at zero f i h = absurd (none_below_zero i h)
value_at (suc n) f i h = go (value_at n f i) (below_or_from i n)
  where
    go : (i < n → get_or (values n f) i nan ≡ f i) → (i < n) ⊎ (n ≤ i) → get_or (values n f ++ f n ∷ []) i nan ≡ f i
    go before (inl p) = get_or-append (values n f) (f n ∷ []) nan i (rw length_values p) ∙ before p
    go before (inr p) = let e : n ≡ i = omega arith in get_or_at (values n f) (f n) [] nan i (length_values n f ∙ e) ∙ ap f e

pub same_values : (n : ℕ) (f g : ℕ → Float) → ((i : ℕ) → i < n → f i ≡ g i) → values n f ≡ values n g
unfolding values
same_values zero f g h = refl
same_values (suc n) f g h = ap₂ (λ (l : List Float) (x : Float). l ++ x ∷ []) (same_values n f g (λ i p. h i (omega arith))) (h n (omega arith))

-- ---- arrays
pub row_at : (size n : ℕ) (f : ℕ → Float) (i : ℕ) → i < n → get_or (row size n f) i nan ≡ f i
row_at size n f i h = get_or-append (values n f) (replicate (size - n) zero_d) nan i (rw length_values h) ∙ value_at n f i h

pub same_rows : (size n : ℕ) (f g : ℕ → Float) → ((i : ℕ) → i < n → f i ≡ g i) → row size n f ≡ row size n g
same_rows size n f g h = ap (λ (l : List Float). l ++ replicate (size - n) zero_d) (same_values n f g h)

-- an array that was read
pub row_padded : (size n : ℕ) (s : List ℕ) (first step : ℕ) → PaddedRow size n (row size n (column s first step))
row_padded size n s first step = record {
  padded = same_rows size n _ _ (λ i h. sym (row_at size n (column s first step) i h));
  doubles = λ i h. subst (λ (x : Float). T (fits binary64 x)) (sym (row_at size n (column s first step) i h)) (read_fits s _);
}

-- ---- arrays of +0
pub zeros : (n : ℕ) → values n (λ i. zero_d) ≡ replicate n zero_d
unfolding values
zeros zero = refl
zeros (suc n) = rw (zeros n) (replicate-append-replicate n 1 zero_d ∙ ap (λ (k : ℕ). replicate k zero_d) (add-one n))

pub zeros_row : (size n : ℕ) (f : ℕ → Float) → n ≤ size → ((i : ℕ) → i < n → f i ≡ zero_d) → row size n f ≡ replicate size zero_d
zeros_row size n f h e =
    let whole : n + (size - n) ≡ size = omega arith in
    ap (λ (l : List Float). l ++ replicate (size - n) zero_d) (same_values n f (λ i. zero_d) e ∙ zeros n) ∙ replicate-append-replicate n (size - n) zero_d ∙ ap (λ (k : ℕ). replicate k zero_d) whole

zero_fits : T (fits binary64 zero_d)
unfolding of_bits fits
zero_fits = tt

pub zeros_padded : (size n : ℕ) → n ≤ size → PaddedRow size n (replicate size zero_d)
zeros_padded size n h =
    let at : (i : ℕ) → i < n → get_or (replicate size zero_d) i nan ≡ zero_d = λ i b. get_or-replicate size i zero_d nan (omega arith) in
    record {
      padded = sym (zeros_row size n _ h at);
      doubles = λ i b. subst (λ (x : Float). T (fits binary64 x)) (sym (at i b)) zero_fits;
    }

-- ---- the first values of a list, and the others
pub values_add : (a b : ℕ) (f : ℕ → Float) → values (a + b) f ≡ values a f ++ values b (λ k. f (a + k))
unfolding values
values_add a zero f = let e : a + 0 ≡ a = omega arith in ap (λ (n : ℕ). values n f) e ∙ sym (append-nil (values a f))
values_add a (suc b) f =
    let e : a + suc b ≡ suc (a + b) = omega arith in
    ap (λ (n : ℕ). values n f) e
    ∙ ap (λ (l : List Float). l ++ f (a + b) ∷ []) (values_add a b f)
    ∙ append_assoc (values a f) (values b (λ k. f (a + k))) (f (a + b) ∷ [])
