-- The bit patterns of doubles.
use Rattle.std.specs.Prelude.{ℕ, ◌<◌}

-- the pattern of a positive finite double
abbrev pub Positive : ℕ → Type 0
Positive b = (0 < b) × (b < 0x7ff0_0000_0000_0000)
