-- The record of two substances and those of document 01's seven bytes, by computation.
use mathlib.Core.Path.{◌≡◌, refl}
use mathlib.Core.List.{[], ◌∷◌, ◌++◌}
use Rattle.std.specs.Prelude.{Ok, Err}
use lib.Ieee.{of_bits, to_bits, round, le, add}
use Rattle.arithmetic.specs.Arithmetic.{sum_by}
use Rattle.big_endian.specs.Bytes.{big_endian, bytes_of, double_at, double_bytes}
use Rattle.case_record.specs.Record.{case_of, mixture_of, state_of, values}
use Rattle.case_record.proofs.Examples.{two_substances}
use Rattle.refusal.specs.declared.Refusal.TheVariants as Due
use Rattle.checks.specs.Checks.{all_first, attraction_fits, envelope, first_failing, state, state_inside, substances, substances_inside}

its_refusal : let c = case_of two_substances in first_failing (envelope 1 2 two_substances ++ substances c ++ state c) ≡ Ok tt
unfolding two_substances big_endian bytes_of double_at double_bytes mixture_of state_of values all_first attraction_fits state_inside substances_inside sum_by of_bits to_bits round le add
its_refusal = refl

-- "Input 00 00 00 03 01 00 00 (hexadecimal) gives 00 02 01 02 00 02 01 05"
seven_bytes : (first_failing (envelope 1 2 (0x00 ∷ 0x00 ∷ [])) ≡ Err Due.Envelope) × (first_failing (envelope 1 2 (0x00 ∷ 0x03 ∷ 0x01 ∷ 0x00 ∷ 0x00 ∷ [])) ≡ Err Due.Components)
unfolding big_endian
seven_bytes = (refl, refl)
