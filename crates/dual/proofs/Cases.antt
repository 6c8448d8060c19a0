-- The cases of the rules, as the code tests them.
use Prim.Native.Nat.{ℕ}
use mathlib.Core.Path.{◌≡◌, refl, ◌∙◌}
use mathlib.Core.Bool.{Bool, true, false, false≢true}
use lib.Dec.{T}
use lib.IntN.{ℤ}
use lib.Ieee.{Float, nan, inf, fin, lt, of_bits}
use lib.Ieee as Ieee
use lib.Ieee.Scale.{finite}
use Rattle.arithmetic.specs.Constants.{zero_d, one, two, minus_one, twenty, minus_twenty}
use Rattle.arithmetic.specs.Basic.{below, above}
use Rattle.arithmetic.specs.Recipes as R
use Rattle.arithmetic.specs.Doubles.{quotient}
use Rattle.arithmetic.proofs.Tests.{below_is, above_is}
use Rattle.dual.specs.declared.basic.Dual.{Dual}
use Rattle.dual.specs.Rules.{dual, failed, plain, choose, given, within, constant, add, sub, mul, div, ln, exp, powf, tanh}
use Rattle.arithmetic.proofs.Nan.{either_nan, mul_nan}

limits : T (finite zero_d) × T (finite twenty) × T (finite minus_twenty)
unfolding of_bits Ieee.neg
limits = (tt, tt, tt)

-- ---- by a limit
if_then : (x x' : Float) (t : Float) → T (finite t) → (a b : Dual) → lt x t ≡ true → given (dual x x') (choose (below t) (dual x x') a b) ≡ within (dual x x') a
unfolding choose given within
if_then nan x' t f a b h = refl
if_then (inf s) x' t f a b h = refl
if_then (fin s m e) x' t f a b h = rw (below_is (fin s m e) t tt f, h)

if_else : (x x' : Float) (t : Float) → T (finite t) → (a b : Dual) → lt x t ≡ false → given (dual x x') (choose (below t) (dual x x') a b) ≡ within (dual x x') b
unfolding choose given within
if_else nan x' t f a b h = refl
if_else (inf s) x' t f a b h = refl
if_else (fin s m e) x' t f a b h = rw (below_is (fin s m e) t tt f, h)

pub below_then : (v : Dual) (t : Float) → T (finite t) → (a b : Dual) → lt v.value t ≡ true → given v (choose (below t) v a b) ≡ within v a
below_then v = if_then v.value v.slope

pub below_else : (v : Dual) (t : Float) → T (finite t) → (a b : Dual) → lt v.value t ≡ false → given v (choose (below t) v a b) ≡ within v b
below_else v = if_else v.value v.slope

-- ---- tanh
high : (x x' : Float) → lt twenty x ≡ true → tanh plain (dual x x') ≡ within (dual x x') (constant plain one)
unfolding tanh choose given within
high nan x' h = refl
high (inf s) x' h = refl
high (fin s m e) x' h = rw (above_is (fin s m e) twenty tt limits.1, h)

low : (x x' : Float) → lt twenty x ≡ false → lt x minus_twenty ≡ true → tanh plain (dual x x') ≡ within (dual x x') (constant plain minus_one)
unfolding tanh choose given within
low nan x' h k = refl
low (inf s) x' h k = refl
low (fin s m e) x' h k = rw (above_is (fin s m e) twenty tt limits.1, h, below_is (fin s m e) minus_twenty tt limits.2, k)

abbrev inner : Dual → Dual
inner v = sub plain (constant plain one) (div plain (constant plain two) (add plain (exp plain (mul plain (constant plain two) v)) (constant plain one)))

inner_nan : (x' : Float) → inner (dual nan x') ≡ failed
unfolding constant sub div add exp mul R.exp quotient Ieee.add Ieee.sub Ieee.mul Ieee.div Ieee.neg lt of_bits
inner_nan x' = refl

middle : (x x' : Float) → lt twenty x ≡ false → lt x minus_twenty ≡ false → tanh plain (dual x x') ≡ inner (dual x x')
unfolding tanh choose given
middle nan x' h k = rw inner_nan
middle (inf true) x' h k = absurd (false≢true (unfold lt of_bits Ieee.neg in rw k))
middle (inf false) x' h k = absurd (false≢true (unfold lt of_bits Ieee.neg in rw h))
middle (fin s m e) x' h k = rw (above_is (fin s m e) twenty tt limits.1, h, below_is (fin s m e) minus_twenty tt limits.2, k)

module _ (v : Dual) where
  pub tanh_high : lt twenty v.value ≡ true → tanh plain v ≡ within v (constant plain one)
  tanh_high = high v.value v.slope

  pub tanh_low : lt twenty v.value ≡ false → lt v.value minus_twenty ≡ true → tanh plain v ≡ within v (constant plain minus_one)
  tanh_low = low v.value v.slope

  pub tanh_middle : lt twenty v.value ≡ false → lt v.value minus_twenty ≡ false → tanh plain v ≡ inner v
  tanh_middle = middle v.value v.slope

-- ---- powf
-- of an infinite base ln is NaN, and so is all after it
infinite : (s : Bool) (x' b b' : Float) → exp plain (mul plain (dual b b') (ln plain (dual (inf s) x'))) ≡ failed
unfolding exp mul ln R.ln R.exp Ieee.add Ieee.mul lt
infinite s x' b b' = rw (mul_nan b, mul_nan b')

over : (x x' : Float) (b : Dual) → lt zero_d x ≡ true → powf plain (dual x x') b ≡ exp plain (mul plain b (ln plain (dual x x')))
unfolding powf choose
over nan x' b h = absurd (false≢true (unfold lt of_bits in h))
over (inf s) x' b h = rw (infinite s x' b.value b.slope)
over (fin s m e) x' b h = rw (above_is (fin s m e) zero_d tt limits.0, h)

under : (x x' : Float) (b : Dual) → lt zero_d x ≡ false → lt x zero_d ≡ true → powf plain (dual x x') b ≡ failed
unfolding powf choose
under nan x' b h k = refl
under (inf s) x' b h k = refl
under (fin s m e) x' b h k = rw (above_is (fin s m e) zero_d tt limits.0, h, below_is (fin s m e) zero_d tt limits.0, k)

-- a base of 0: the exponent's cases
abbrev of_zero : Dual → Dual → Dual
of_zero v b = choose (above zero_d) b (given v (given b (constant plain zero_d))) failed

zero_above : (s : Bool) (m : ℕ) (e : ℤ) (x' y y' : Float) → lt zero_d y ≡ true → of_zero (dual (fin s m e) x') (dual y y') ≡ within (dual (fin s m e) x') (within (dual y y') (constant plain zero_d))
unfolding choose given within
zero_above s m e x' nan y' h = rw (either_nan (finite x'))
zero_above s m e x' (inf t) y' h = rw (either_nan (finite x'))
zero_above s m e x' (fin t n d) y' h = rw (above_is (fin t n d) zero_d tt limits.0, h)

zero_else : (v : Dual) (y y' : Float) → lt zero_d y ≡ false → of_zero v (dual y y') ≡ failed
unfolding choose
zero_else v nan y' h = refl
zero_else v (inf t) y' h = refl
zero_else v (fin t n d) y' h = rw (above_is (fin t n d) zero_d tt limits.0, h)

zero : (s : Bool) (m : ℕ) (e : ℤ) (x' : Float) (b : Dual) → lt zero_d (fin s m e) ≡ false → lt (fin s m e) zero_d ≡ false → powf plain (dual (fin s m e) x') b ≡ of_zero (dual (fin s m e) x') b
unfolding powf choose
zero s m e x' b h k = rw (above_is (fin s m e) zero_d tt limits.0, h, below_is (fin s m e) zero_d tt limits.0, k)

nothing : (x x' : Float) (b : Dual) → lt zero_d x ≡ false → lt x zero_d ≡ false → lt zero_d b.value ≡ false → powf plain (dual x x') b ≡ failed
unfolding powf choose
nothing nan x' b h k l = refl
nothing (inf s) x' b h k l = refl
nothing (fin s m e) x' b h k l = zero s m e x' b h k ∙ zero_else (dual (fin s m e) x') b.value b.slope l

zeros : (x x' : Float) (b : Dual) → lt zero_d x ≡ false → lt x zero_d ≡ false → lt zero_d b.value ≡ true → powf plain (dual x x') b ≡ within (dual x x') (within b (constant plain zero_d))
unfolding powf choose within
zeros nan x' b h k l = refl
zeros (inf s) x' b h k l = refl
zeros (fin s m e) x' b h k l = zero s m e x' b h k ∙ zero_above s m e x' b.value b.slope l

module _ (v b : Dual) where
  pub powf_over : lt zero_d v.value ≡ true → powf plain v b ≡ exp plain (mul plain b (ln plain v))
  powf_over = over v.value v.slope b

  pub powf_under : lt zero_d v.value ≡ false → lt v.value zero_d ≡ true → powf plain v b ≡ failed
  powf_under = under v.value v.slope b

  pub powf_zero : lt zero_d v.value ≡ false → lt v.value zero_d ≡ false → lt zero_d b.value ≡ true → powf plain v b ≡ within v (within b (constant plain zero_d))
  powf_zero = zeros v.value v.slope b

  pub powf_none : lt zero_d v.value ≡ false → lt v.value zero_d ≡ false → lt zero_d b.value ≡ false → powf plain v b ≡ failed
  powf_none = nothing v.value v.slope b
