-- k + 1023 is the exponent's field of 2^k, and comes back from its bits as it is.
use Rattle.std.proofs.Common.{◌≡◌, ◌*◌, T, ℤ, pos, ◌+ℤ◌, nat_abs, sym, ap, ◌∙◌, subst, arith, w64, Fits, SFits, to_z, of_z}
use lib.Signed.{non_neg}
use mir.ValLaws.{to_z-of_z}
use Rattle.elementary.proofs.PowerOfTwo.{Biased, biased, field_is, not_nan_bits}
use Rattle.elementary.proofs.exponential.power_of_two.Goals as goal

at : (c : goal.Start) → Biased c.args.k
at c = biased c.args.k c.requires

sum : (c : goal.Start) → to_z w64 (of_z w64 c.args.k) +ℤ pos 1023 ≡ pos (at c).field
sum c = ap (λ (z : ℤ). z +ℤ pos 1023) (to_z-of_z w64 c.args.k c.ranges.k) ∙ (at c).sum

in64 : (c : goal.Start) → SFits w64 (pos (at c).field)
in64 c = record { sfits = omega (arith, (at c).high) }

back : (c : goal.Start) → to_z w64 (of_z w64 (to_z w64 (of_z w64 c.args.k) +ℤ pos 1023)) ≡ pos (at c).field
back c = ap (λ (z : ℤ). to_z w64 (of_z w64 z)) (sum c) ∙ to_z-of_z w64 (pos (at c).field) (in64 c)

pub overflow_add-result : goal.overflow_add-result
overflow_add-result c = subst (λ (z : ℤ). SFits w64 z) (sym (sum c)) (in64 c)

pub overflow_cast-result : goal.overflow_cast-result
overflow_cast-result c = subst (λ (z : ℤ). T (non_neg z) × Fits w64 (nat_abs z)) (sym (back c)) (tt, record { fits = omega (arith, (at c).high) })

pub overflow_mul-result : goal.overflow_mul-result
overflow_mul-result c = subst (λ (z : ℤ). Fits w64 (nat_abs z * 0x10_0000_0000_0000)) (sym (back c)) (record { fits = omega (arith, (at c).high) })

pub float_from_bits-result : goal.float_from_bits-result
float_from_bits-result c = rw (back c) (not_nan_bits _ (omega (arith, (at c).high)))

pub returns : goal.returns
returns c = rw (back c) (field_is c.args.k c.requires (at c))
