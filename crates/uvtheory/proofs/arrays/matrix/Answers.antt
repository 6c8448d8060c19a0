use Rattle.std.proofs.Common.{◌≡◌, ◌*◌, ◌/◌, ◌%◌, ◌<◌, ◌∙◌, ℕ, subst, arith, length-set, length}
use Rattle.uvtheory.specs.Rows.{missing, Matrix}
use Rattle.uvtheory.proofs.Loops.{row_of, column_of, row_set, square_le}
use Rattle.uvtheory.proofs.arrays.matrix.Goals as goal

pub loop-k-preserved : goal.loop-k-preserved
loop-k-preserved g c =
    let n = c.get-n.result in
    let k = c.loop-k.k in
    let xs = c.loop-k.matrix in
    let inside : k < n * n = omega arith in
    let size : length xs ≡ 64 = c.loop-k.invariant.1 in (
      omega arith,
      length-set xs k _ ∙ size,
      λ values given.
          let value = given (k / n) (k % n) _ (row_of n k inside) (column_of n k inside) c.f.ensures in
          row_set (missing g.D.DualNum.arithmetic) _ _ k xs (let bound = square_le n c.get-n.ensures.1 in omega arith) (c.loop-k.invariant.2 values given) value,
    )

pub returns : goal.returns
returns g c = λ values.
    let n = c.get-n.result in
    let e : c.loop-k.k ≡ n * n = omega arith in
    let filled = rw e at c.loop-k.invariant.2 values in
    subst (λ (m : ℕ). ((i j : ℕ) (r : _) → i < m → j < m → goal.F-post g c.args.f i j r → r ≡ values i j) → Matrix g.D.DualNum.arithmetic m c.loop-k.matrix values) c.get-n.ensures.0 filled
