-- Whole numbers, and scaling by 2^k, keep `Contained`.
use mathlib.Core.Path.{◌≡◌, refl}
use mathlib.Core.Option.{Option, some}
use mathlib.Core.Bool.{Bool, true, false, cond}
use lib.Dec.{T}
use lib.IntN.{ℤ}
use lib.Ieee.{Float, fin, binary64, fits, of_int, in_float}
use lib.Ieee.Fits.{mul-fits, cond-fits}
use lib.Ieee.Scale.{finite}
use Rattle.arithmetic.specs.Fraction.{Fraction, ◌≼◌, two_to, ◌⊗◌, whole}
use Rattle.arithmetic.specs.Value.{value, Within}
use Rattle.arithmetic.specs.Doubles.{scaled, strict}
use Rattle.arithmetic.proofs.Fraction.{≼_trans}
use Rattle.arithmetic.proofs.Enclosure.{Rounds, real, mul_rounds}
use Rattle.arithmetic.proofs.Exact.{whole_exact}
use Rattle.range.specs.declared.basic.Range.{Range}
use Rattle.range.specs.Rules.{failed, before, after, ends, point, kept, rules}
use Rattle.range.specs.Rules as Rules
use Rattle.range.specs.Exact.{fractions}
use Rattle.range.specs.Enclosed.{Ok}
use Rattle.range.proofs.Corners.{In, lower_finite, upper_finite, before_fits, after_fits, low_bound, high_bound}
use Rattle.range.proofs.Contained.{Certain, Contained, given_contained, rounded_ends_certain, point_certain}
use Rattle.range.proofs.PowersOfTwo.{power, power_is, times_power, scaled_exact}

-- ---- a whole number
pub whole_contained : (k : ℤ) → Contained (strict.whole k) (rules.whole k) (fractions.whole k)
unfolding Rules.whole
whole_contained k = record { where_ok = go (in_float binary64 k) (whole_exact k) }
  where
    go : (i : Bool) → (T i → T (finite (of_int binary64 k)) × (value (of_int binary64 k) ≼ whole k) × (whole k ≼ value (of_int binary64 k))) → Ok (cond i (point (of_int binary64 k)) failed)
        → Certain (strict.whole k) (cond i (point (of_int binary64 k)) failed) (whole k)
    go true I O = point_certain (of_int binary64 k) (whole k) (I tt).1 (I tt).2 O
    go false I O = absurd O

-- ---- times 2^k: an end that is kept is exact, and one that is not is moved
abbrev lower_times : Float → ℤ → Float
lower_times x k = cond (kept x k) (scaled x k) (before (scaled x k))

abbrev upper_times : Float → ℤ → Float
upper_times x k = cond (kept x k) (scaled x k) (after (scaled x k))

module _ (x : Float) (k : ℤ) where
  scaled_fits : T (fits binary64 (scaled x k))
  scaled_fits = mul-fits binary64 x (fin false 1 k)

  lower_fits : T (fits binary64 (lower_times x k))
  lower_fits = cond-fits binary64 (kept x k) (scaled x k) (before (scaled x k)) scaled_fits (before_fits (scaled x k))

  upper_fits : T (fits binary64 (upper_times x k))
  upper_fits = cond-fits binary64 (kept x k) (scaled x k) (after (scaled x k)) scaled_fits (after_fits (scaled x k))

  rounds : T (finite x) → Rounds binary64 (scaled x k) (value x ⊗ power k)
  rounds p = mul_rounds binary64 x (fin false 1 k) p tt

  module _ (f : T (fits binary64 x)) (p : T (finite x)) where
    lower_bound : T (finite (lower_times x k)) → value (lower_times x k) ≼ value x ⊗ power k
    lower_bound = go (kept x k) refl
      where
        go : (b : Bool) → kept x k ≡ b → T (finite (cond b (scaled x k) (before (scaled x k)))) → value (cond b (scaled x k) (before (scaled x k))) ≼ value x ⊗ power k
        go true e h = (scaled_exact x k f p h e).0
        go false e h = low_bound (scaled x k) scaled_fits (scaled x k) (value x ⊗ power k) (rounds p) (real binary64 (scaled x k) (value x ⊗ power k) (rounds p)) h

    upper_bound : T (finite (upper_times x k)) → value x ⊗ power k ≼ value (upper_times x k)
    upper_bound = go (kept x k) refl
      where
        go : (b : Bool) → kept x k ≡ b → T (finite (cond b (scaled x k) (after (scaled x k)))) → value x ⊗ power k ≼ value (cond b (scaled x k) (after (scaled x k)))
        go true e h = (scaled_exact x k f p h e).1
        go false e h = high_bound (scaled x k) scaled_fits (scaled x k) (value x ⊗ power k) (rounds p) (real binary64 (scaled x k) (value x ⊗ power k) (rounds p)) h

module _ (a : Float) (r : Range) (k : ℤ) (q : Fraction) (A : Ok r) (x : Certain a r q) where
  times_within : (v : Fraction) → In r v → T (finite (lower_times r.lower k)) → T (finite (upper_times r.upper k)) → Within (lower_times r.lower k) (upper_times r.upper k) (v ⊗ power k)
  times_within v w L U = record {
    low = ≼_trans (lower_bound r.lower k x.ends.0 (lower_finite r A) L) (times_power k w.low);
    high = ≼_trans (times_power k w.high) (upper_bound r.upper k x.ends.1 (upper_finite r A) U);
  }

  scale_certain : Ok (ends (lower_times r.lower k) (upper_times r.upper k)) → Certain (strict.scale a k) (ends (lower_times r.lower k) (upper_times r.upper k)) (q ⊗ two_to k)
  scale_certain =
      rounded_ends_certain (scaled a k) (q ⊗ two_to k) (value a ⊗ power k) (rounds a k x.number) (lower_times r.lower k) (upper_times r.upper k) (lower_fits r.lower k) (upper_fits r.upper k)
      (λ L U. (
        (let w = times_within q x.exact L U in record { low = ≼_trans w.low (power_is q k).0; high = ≼_trans (power_is q k).1 w.high }),
        times_within (value a) x.near L U,
      ))

pub scale_contained : {a : Float} {r : Range} {o : Option Fraction} (k : ℤ) → Contained a r o → Contained (strict.scale a k) (rules.scale r k) (fractions.scale o k)
unfolding Rules.scale
scale_contained {a} {r} k = given_contained a (strict.scale a k) r (ends (lower_times r.lower k) (upper_times r.upper k)) (λ p. some (p ⊗ two_to k)) (λ q A x. scale_certain a r k q A x)
