-- The exponents of doubles.
use Rattle.std.specs.Prelude.{T, ℤ, pos, negsuc}
use Rattle.std.specs.Int.Signed.{le_z}

-- the exponent of a normal double
abbrev pub Normal : ℤ → Type 0
Normal k = T (le_z (negsuc 1021) k) × T (le_z k (pos 1023))
