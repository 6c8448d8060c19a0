use Rattle.std.proofs.Common.{◌≡◌, arith}
use Rattle.uvtheory.proofs.arrays.each.Goals as goal

pub returns : goal.returns
returns g c = λ values given.
    let e : c.loop-i.i ≡ c.args.n = omega arith in
    rw e at c.loop-i.invariant.2 values given
