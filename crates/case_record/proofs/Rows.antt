-- Arrays that are filled from the front.
use Prim.Native.Nat.{ℕ, zero, suc, ◌+◌, ◌-◌, ◌<◌}
use mathlib.Core.Path.{◌≡◌, refl, ap, ◌∙◌}
use mathlib.Core.List.{List, [], ◌∷◌, ◌++◌, append_assoc}
use native.Mathlib.Nat.{sub-zero, zero-sub, suc-sub-suc}
use native.Mathlib.Numerals.{add-one}
use lib.ListN.{length, set, drop, replicate, length-append}
use lib.Seq.{drop-cons, set_at}
use lib.Ieee.{Float, nan}
use Rattle.arithmetic.specs.Constants.{zero_d}
use Rattle.case_record.specs.Record.{values, row}

pub length_values : (n : ℕ) (f : ℕ → Float) → length (values n f) ≡ n
unfolding values
length_values zero f = refl
length_values (suc n) f = length-append (values n f) (f n ∷ []) ∙ rw (length_values n f) (add-one n)

-- a store of the next value
pub value_more : (n : ℕ) (f : ℕ → Float) (l xs : List Float) (x : Float) → xs ≡ values n f ++ drop n l → x ≡ f n → n < length l → set xs n x ≡ values (n + 1) f ++ drop (n + 1) l
unfolding values
value_more n f l xs x e e' h = rw (e, e', add-one n, drop-cons l n nan h) (set_at (values n f) _ _ (f n) n (length_values n f) ∙ rw append_assoc refl)

drop_replicate : (n size : ℕ) (x : Float) → drop n (replicate size x) ≡ replicate (size - n) x
drop_replicate zero size x = rw sub-zero refl
drop_replicate (suc n) zero x = rw zero-sub refl
drop_replicate (suc n) (suc size) x = rw suc-sub-suc (drop_replicate n size x)

-- in an array of +0
pub filled : (size n : ℕ) (f : ℕ → Float) → values n f ++ drop n (replicate size zero_d) ≡ row size n f
filled size n f = ap (λ (l : List Float). values n f ++ l) (drop_replicate n size zero_d)
