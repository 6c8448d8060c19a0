-- What M-100 says of a record's energies with slopes, beside its energies: "The value half must be the energies already shipped, to the bit", and 11 is "tested after 9".
use Rattle.std.specs.Prelude.{◌≡◌, ◌⊎◌, Float}
use Rattle.dual.specs.Rules.{dual}
use Rattle.refusal.specs.declared.Refusal.TheVariants as Due
use Rattle.answer.specs.declared.Answer.{Answer}
use Rattle.answer.specs.declared.Answer.TheVariants.{Energies, Ends, Slopes, Refused}

-- the energies x, y and z, each with some slope
pub record Sloped (x y z : Float) (slopes : Answer) : Type 0 where
  pub hard_sphere : Float
  pub reference : Float
  pub attractive : Float
  pub are : slopes ≡ Slopes (dual x hard_sphere) (dual y reference) (dual z attractive)

-- of the energies' answer and the slopes': what refuses the energies refuses the slopes, with its code, 9 among them; where there are energies, the slopes are of the same energies, or the
-- code is 11
abbrev pub Beside : Answer → Answer → Type 0
Beside (Energies x y z) slopes = Sloped x y z slopes ⊎ (slopes ≡ Refused Due.Slopes)
Beside (Refused refusal) slopes = slopes ≡ Refused refusal
Beside (Ends x y z) slopes = ⊥
Beside (Slopes x y z) slopes = ⊥
