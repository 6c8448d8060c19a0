-- The r of exp stays within 0.35: k is v × E rounded to a whole number, and H + G times E is 1 but for less than 2^−50.
use Prim.Native.Nat.{zero, suc}
use native.Mathlib.Omega.{arith}
use mathlib.Core.Path.{◌≡◌, refl, subst}
use lib.IntN.{ℤ, pos, negsuc, suc_ℤ}
use lib.Dec.{T, le→leb, lt→ltb}
use lib.Ieee.{Float, binary64, of_bits, in_float, neg}
use lib.Ieee.Scale.{finite}
use lib.Ieee.Bits.{is_true}
use Rattle.arithmetic.specs.Fraction.{Fraction, ◌≼◌, null, one, whole, two_to, ◌⊕◌, opp, ◌⊖◌, ◌⊗◌, ◌⊘◌, Close}
use Rattle.arithmetic.specs.Value.{value}
use Rattle.arithmetic.specs.Cases.{floor_of}
use Rattle.arithmetic.specs.Constants as Constants
use Rattle.arithmetic.specs.Constants.{E, H, G, seven_hundred, minus_seven_hundred}
use Rattle.arithmetic.specs.Recipes.{exp_argument, exp_polynomial, exp, exp_of}
use Rattle.arithmetic.specs.Doubles.{strict, plain}
use Rattle.arithmetic.specs.Series.{Bounded, exp_limit}
use Rattle.arithmetic.specs.Reduction.{exp_range, exp_step, exp_reduced, ExpReduces}
use Rattle.arithmetic.proofs.Fraction.{≼_refl, ≼_trans, ≺→≼, ≺?-no, was_no, ◌≈◌, ≈-refl, ≈-sym, ≈-trans, opp_anti, ⊕-mono, ⊕-cong, ⊕-assoc, ⊕-⊖, ⊗-assoc, ⊗-distrib}
use Rattle.arithmetic.proofs.Cases.{floor_in}
use Rattle.arithmetic.proofs.Agreement.{agreed_basic, agreeing, in_code}
use Rattle.arithmetic.proofs.Distance.{close_sym, close_at, close_within, close_trans, close_plus, close_difference, close_scale, close_scale_right, bound_times, at_most_bound, opposite_at_most_bound, test_close}
use Rattle.arithmetic.proofs.Approximation.{Approximation, itself, loosened, test_approximation, whole_itself, sum, difference, product}
use Rattle.arithmetic.proofs.Series.{exp_near_series_in_code}

-- ---- t is within 1/2 of its floor and 1/2
abbrev one_half : Fraction
one_half = whole (pos 1) ⊘ whole (pos 2)

suc_whole : (k : ℤ) → whole (suc_ℤ k) ≼ whole k ⊕ one
suc_whole (pos n) = record { cross = omega arith }
suc_whole (negsuc zero) = record { cross = omega arith }
suc_whole (negsuc (suc n)) = record { cross = omega arith }

halves : (x : Fraction) → x ⊕ one ≼ x ⊕ one_half ⊕ one_half
halves x = record { cross = omega arith }

floor_near : (t : Fraction) → Close one_half t (whole (floor_of t) ⊕ one_half)
floor_near t =
    let i = floor_in t in
    let k = whole (floor_of t) in
    record { low = ≼_trans (≺→≼ i.high) (≼_trans (suc_whole (floor_of t)) (halves k)); high = ⊕-mono i.low (≼_refl one_half) }

-- ---- the constants
half_is : Approximation null one_half (strict.constant Constants.half) one_half
unfolding of_bits
half_is = test_approximation null one_half (strict.constant Constants.half) one_half tt

-- E is below 1.4427, H below 0.6932, G below 1e-9
abbrev bound_e : Fraction
bound_e = whole (pos 14427) ⊘ whole (pos 10000)

abbrev bound_h : Fraction
bound_h = whole (pos 6932) ⊘ whole (pos 10000)

abbrev bound_g : Fraction
bound_g = whole (pos 1) ⊘ whole (pos 1000000000)

E_is : Approximation null bound_e (strict.constant E) (value E)
unfolding of_bits
E_is = test_approximation null bound_e (strict.constant E) (value E) tt

H_is : Approximation null bound_h (strict.constant H) (value H)
unfolding of_bits
H_is = test_approximation null bound_h (strict.constant H) (value H) tt

G_is : Approximation null bound_g (strict.constant G) (value G)
unfolding of_bits
G_is = test_approximation null bound_g (strict.constant G) (value G) tt

-- ln 2 in its two parts, and what E times it is off 1
abbrev parts : Fraction
parts = value H ⊕ value G

parts_bound : Close bound_h parts null
unfolding of_bits
parts_bound = test_close bound_h parts null tt

inverse : Close (two_to (negsuc 49)) one (value E ⊗ parts)
unfolding of_bits
inverse = test_close (two_to (negsuc 49)) one (value E ⊗ parts) tt

-- ---- k
in_float_is : (k : ℤ) → Close (whole (pos 1020)) (whole k) null → T (in_float binary64 k)
unfolding in_float
in_float_is (pos n) c = le→leb n _ (omega (arith, at_most_bound c))
in_float_is (negsuc n) c = lt→ltb n _ (omega (arith, opposite_at_most_bound c))

times_one : (x : Fraction) → x ⊗ one ≈ x
times_one x = (omega arith, omega arith)

in_parts : (x k a b : Fraction) → x ⊖ k ⊗ (a ⊕ b) ≈ x ⊖ k ⊗ a ⊖ k ⊗ b
in_parts x k a b =
    let d = ⊗-distrib k a b in
    ≈-trans (⊕-cong (≈-refl x) (opp_anti d.1, opp_anti d.0)) (≈-sym (⊕-assoc x (opp (k ⊗ a)) (opp (k ⊗ b))))

module _ (v : Float) (h : Bounded exp_range v) where
  abbrev exact_product : Fraction
  exact_product = value v ⊗ value E

  -- v × E + 0.5 in doubles, and k
  abbrev place : Float
  place = plain.add (plain.mul v E) Constants.half

  abbrev k : ℤ
  k = exp_step v

  place_near : Approximation (two_to (negsuc 42)) (whole (pos 1020)) place (exact_product ⊕ one_half)
  place_near =
      let p = loosened (two_to (negsuc 42)) (whole (pos 1020)) (sum 1031 tt (product 1031 tt (itself h) E_is refl) half_is refl) refl refl in
      subst (λ (x : Float). Approximation (two_to (negsuc 42)) (whole (pos 1020)) x (exact_product ⊕ one_half))
      (in_code (agreed_basic.add (agreed_basic.mul (agreeing v h.number) (agreed_basic.constant E)) (agreed_basic.constant Constants.half)) p.number) p

  step_near : Close (two_to (negsuc 42) ⊕ one_half) exact_product (whole k)
  step_near =
      close_at (⊕-⊖ exact_product one_half) (⊕-⊖ (whole k) one_half)
      (close_plus (opp one_half) (close_trans (close_sym place_near.close) (floor_near (value place))))

  step_bound : Close (whole (pos 1020)) (whole k) null
  step_bound = close_within (was_no (whole (pos 1020)) _ refl) (close_trans (close_sym step_near) (bound_times h.bound E_is.bound))

  -- ---- r in doubles, and exactly
  abbrev exact_reduced : Fraction
  exact_reduced = value v ⊖ whole k ⊗ value H ⊖ whole k ⊗ value G

  reduced_near : Approximation (two_to (negsuc 39)) (whole (pos 1500)) (exp_argument strict v k) exact_reduced
  reduced_near =
      let w = whole_itself k (in_float_is k step_bound) step_bound in
      loosened _ _ (difference 1032 tt (difference 1032 tt (itself h) (product 1031 tt w H_is refl) refl) (product 1031 tt w G_is refl) refl) refl refl

  -- v is nearly v × E × (H + G), and that is within 1/2 × (H + G), nearly, of k × (H + G)
  argument_near : Close (exp_range ⊗ two_to (negsuc 49) ⊕ bound_h ⊗ (two_to (negsuc 42) ⊕ one_half)) (value v) (whole k ⊗ parts)
  argument_near =
      close_trans (close_at (times_one (value v)) (≈-sym (⊗-assoc (value v) (value E) parts)) (close_scale (value v) h.bound inverse))
      (close_scale_right parts parts_bound step_near)

  exact_bound : Close (exp_range ⊗ two_to (negsuc 49) ⊕ bound_h ⊗ (two_to (negsuc 42) ⊕ one_half)) exact_reduced null
  exact_bound = close_at (in_parts (value v) (whole k) (value H) (value G)) (≈-refl null) (close_difference argument_near)

  strict_bounded : Bounded exp_limit (exp_argument strict v k)
  strict_bounded = record { number = reduced_near.number; bound = close_within (was_no exp_limit _ refl) (close_trans reduced_near.close exact_bound) }

  code_bounded : Bounded exp_limit (exp_reduced v)
  code_bounded = subst (Bounded exp_limit) (in_code (exp_argument agreed_basic (agreeing v h.number) k) strict_bounded.number) strict_bounded

  within_low : value minus_seven_hundred ≼ value v
  unfolding of_bits neg
  within_low = omega (arith, opposite_at_most_bound h.bound)

  within_high : value v ≼ value seven_hundred
  unfolding of_bits
  within_high = omega (arith, at_most_bound h.bound)

  -- ---- the recipe works the polynomial there
  recipe : exp plain v ≡ plain.scale (exp_polynomial plain (exp_reduced v)) k
  unfolding exp exp_of
  recipe = rw (is_true (finite v) h.number, ≺?-no within_low, ≺?-no within_high, is_true (finite place) place_near.number) refl

pub exp_reduces : ExpReduces
exp_reduces v h = record { is = recipe v h; argument = code_bounded v h; near = exp_near_series_in_code (exp_reduced v) (code_bounded v h) }
