-- Document 01's table of codes, and of document 02 11 (M-100), 12 (M-101) and 13 (M-104).
use Rattle.std.specs.Prelude.{ℕ}
use Rattle.refusal.specs.declared.Refusal.{Refusal}
use Rattle.refusal.specs.declared.Refusal.TheVariants as At

-- "Place, in order", "Code"
abbrev pub code : Refusal → ℕ
code At.AnswerBuffer = 1
code At.Envelope = 2
code At.Version = 3
code At.Perturbation = 4
code At.Components = 5
code At.Size = 6
code At.Substances = 7
code At.State = 8
code At.Arithmetic = 9
code At.Ends = 10
code At.Slopes = 11
code At.Attraction = 12
code At.PairConstant = 13
