-- The loop's invariant: behind what is left come d and ds, and p is Horner's value over these.
use Rattle.std.proofs.Common.{◌≡◌, List, ◌∷◌, ◌++◌}
use Rattle.std.specs.Prelude.{Float}
use Rattle.arithmetic.specs.Recipes as R
use Rattle.elementary.proofs.series.horner_by.Given as goal

abbrev pub invariant-loop-x : goal.invariant-loop-x
invariant-loop-x g l =
    let V = g.row.V.Denot in
    (d : Float) × (ds : List Float) × (l.x-iterator.iter.rest.now ++ d ∷ ds ≡ l.c) × ((of : Float → V) (by : V → Float → V) → ((x : Float) (r : V) → g.V.From.from_gives x r → r ≡ of x) → ((p : V) (x : Float) (r : V) → g.S.Fn.post l.step (p, (x, tt)) r → r ≡ by p x) → l.p ≡ R.horner_by of by d ds)
