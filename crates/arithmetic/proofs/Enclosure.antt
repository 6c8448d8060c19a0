-- What a rounded number says of the number: the next doubles on either side of it enclose the number, and doubles that enclose a number enclose it rounded.
-- No error bound is needed: rounding keeps the order and leaves a double as it is.
use mathlib.Core.Path.{◌≡◌, sym, subst}
use mathlib.Core.Bool.{Bool, not, ◌&&◌}
use lib.Dec.{T, T_not, not_T}
use lib.Ieee.{Float, nan, inf, fin, Format, unlike, add, sub, mul, div, neg, le, fits, is_nan}
use lib.Ieee.Scale.{finite}
use Rattle.arithmetic.specs.Fraction.{Fraction, ◌≼◌, ◌⊕◌, ◌⊖◌, ◌⊗◌, ◌⊘◌, Apart}
use Rattle.arithmetic.specs.Value.{value, sign, Within}
use Rattle.arithmetic.specs.Rounding.{rounded}
use Rattle.arithmetic.specs.Next.{next_up, next_down}
use Rattle.arithmetic.proofs.Fraction.{≼_refl}
use Rattle.arithmetic.proofs.Value.{le→≼, le_trans, finite_between}
use Rattle.arithmetic.proofs.Rounding.{rounded_mono, held, at_most, at_least, add_is, sub_is, mul_is, div_is}
use Rattle.arithmetic.proofs.Next.{next_up_fits, next_down_fits, next_up_over, next_down_under}

-- the double x lies between lo and hi
pub record Among (lo hi x : Float) : Type 0 where
  pub low : T (le lo x)
  pub high : T (le x hi)

pub among_finite : {a b x : Float} → T (finite a) → T (finite b) → Among a b x → T (finite x)
among_finite {a} {b} {x} A B h = finite_between a x b A B h.low h.high

pub among_within : {a b x : Float} → T (finite a) → T (finite b) → Among a b x → Within a b (value x)
among_within {a} {b} {x} A B h = record {
  low = le→≼ a x A (among_finite A B h) h.low;
  high = le→≼ x b (among_finite A B h) B h.high;
}

-- ---- r is the number q rounded, for one of the two signs of a zero
abbrev pub Rounds : Format → Float → Fraction → Type 0
Rounds f r q = (z : Bool) × (r ≡ rounded f z q)

pub add_rounds : (f : Format) (x y : Float) → T (finite x) → T (finite y) → Rounds f (add f x y) (value x ⊕ value y)
add_rounds f x y p q = (sign x && sign y, add_is f x y p q)

pub sub_rounds : (f : Format) (x y : Float) → T (finite x) → T (finite y) → Rounds f (sub f x y) (value x ⊖ value y)
sub_rounds f x y p q = (sign x && sign (neg y), sub_is f x y p q)

pub mul_rounds : (f : Format) (x y : Float) → T (finite x) → T (finite y) → Rounds f (mul f x y) (value x ⊗ value y)
mul_rounds f x y p q = (unlike (sign x) (sign y), mul_is f x y p q)

pub div_rounds : (f : Format) (x y : Float) → T (finite x) → T (finite y) → Apart (value y) (value y) → Rounds f (div f x y) (value x ⊘ value y)
div_rounds f x y p q z = (unlike (sign x) (sign y), div_is f x y p q z)

-- it is no NaN
pub real : (f : Format) (r : Float) (q : Fraction) → Rounds f r q → T (le r r)
real f r q (z, e) = subst (λ (w : Float). T (le w w)) (sym e) (rounded_mono f z z q q (≼_refl q))

-- ---- doubles that enclose a number enclose it rounded
pub under_rounded : (f : Format) (z : Bool) (u : Float) (q : Fraction) → T (finite u) → T (fits f u) → value u ≼ q → T (le u (rounded f z q))
under_rounded f z u q p h k = le_trans u (rounded f z (value u)) (rounded f z q) (held f z u p h).0 (rounded_mono f z z (value u) q k)

pub over_rounded : (f : Format) (z : Bool) (u : Float) (q : Fraction) → T (finite u) → T (fits f u) → q ≼ value u → T (le (rounded f z q) u)
over_rounded f z u q p h k = le_trans (rounded f z q) (rounded f z (value u)) u (rounded_mono f z z q (value u) k) (held f z u p h).1

pub among_rounds : (f : Format) {lo hi : Float} (r : Float) (q : Fraction) → Rounds f r q → T (finite lo) → T (finite hi) → T (fits f lo) → T (fits f hi) → Within lo hi q → Among lo hi r
among_rounds f {lo} {hi} r q (z, e) L H l h w =
    subst (λ (x : Float). Among lo hi x) (sym e) (record { low = under_rounded f z lo q L l w.low; high = over_rounded f z hi q H h w.high })

-- ---- the next doubles enclose a number that is rounded
not_nan_l : (x y : Float) → T (le x y) → T (not (is_nan x))
unfolding le is_nan
not_nan_l nan y h = absurd h
not_nan_l (inf s) y h = tt
not_nan_l (fin s m e) y h = tt

not_nan_r : (x y : Float) → T (le x y) → T (not (is_nan y))
unfolding le is_nan
not_nan_r nan y h = absurd h
not_nan_r (inf s) nan h = absurd h
not_nan_r (fin s m e) nan h = absurd h
not_nan_r (inf s) (inf t) h = tt
not_nan_r (inf s) (fin t n d) h = tt
not_nan_r (fin s m e) (inf t) h = tt
not_nan_r (fin s m e) (fin t n d) h = tt

-- q rounds to l or more: it is not below the double before l
pub low_end : (f : Format) (l r : Float) (q : Fraction) → Rounds f r q → T (fits f l) → T (le l r) → T (finite (next_down f l)) → value (next_down f l) ≼ q
low_end f l r q (z, e) h k p =
    let k' : T (le l (rounded f z q)) = subst (λ (w : Float). T (le l w)) e k in
    at_least f z (next_down f l) q p (next_down_fits f l)
    (not_T (le (rounded f z q) (next_down f l)) (λ n. T_not (le l (next_down f l)) (next_down_under f l h (not_nan_l l (rounded f z q) k') p) (le_trans l (rounded f z q) (next_down f l) k' n)))

-- it rounds to l or less: it is not above the double after l
pub high_end : (f : Format) (l r : Float) (q : Fraction) → Rounds f r q → T (fits f l) → T (le r l) → T (finite (next_up f l)) → q ≼ value (next_up f l)
high_end f l r q (z, e) h k p =
    let k' : T (le (rounded f z q) l) = subst (λ (w : Float). T (le w l)) e k in
    at_most f z (next_up f l) q p (next_up_fits f l)
    (not_T (le (next_up f l) (rounded f z q)) (λ n. T_not (le (next_up f l) l) (next_up_over f l h (not_nan_r (rounded f z q) l k') p) (le_trans (next_up f l) (rounded f z q) l n k')))
