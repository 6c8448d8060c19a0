use Rattle.std.proofs.Common.{◌≡◌, ◌*◌, ◌/◌, ◌%◌, ◌+◌, ◌<◌, ◌≤◌, ◌∙◌, ℕ, sym, subst, arith, length-set, length}
use Rattle.std.proofs.lemmas.List.{get_or_default}
use Rattle.uvtheory.specs.Rows.{missing, Matrix}
use Rattle.uvtheory.proofs.Loops.{column_of, mirror, mirror_in, row_set, square_le}
use Rattle.uvtheory.proofs.arrays.symmetric.Goals as goal
use Rattle.uvtheory.proofs.arrays.symmetric.Goals.{then-j-i, else-j-i}

pub loop-k-preserved : goal.loop-k-preserved
loop-k-preserved g c =
    let n = c.get-n.result in
    let few : n ≤ 8 = c.get-n.ensures.1 in
    let k = c.loop-k.k in
    let xs = c.loop-k.matrix in
    let none = missing g.D.DualNum.arithmetic in
    let inside : k < n * n = omega arith in
    let size : length xs ≡ 64 = c.loop-k.invariant.1 in (
      omega arith,
      length-set xs k _ ∙ size,
      λ values given flips.
          let filled = c.loop-k.invariant.2 values given flips in
          let value : c.if-j-i.matrix ≡ values (k / n) (k % n) = elim c.if-j-i.branch [
            | then-j-i w ↦
                w.matrix-is ∙ get_or_default xs (k % n * n + k / n) _ none (mirror_in n k xs few size inside w.if-j-i.true)
                ∙ mirror none values n k xs inside w.if-j-i.true filled ∙ sym (flips (k / n) (k % n) w.if-j-i.true)
            | else-j-i w ↦ w.matrix-is ∙ given (k / n) (k % n) _ w.if-j-i.false (column_of n k inside) w.f.ensures
          ] in
          row_set none _ _ k xs (let bound = square_le n few in omega arith) filled value,
    )

pub returns : goal.returns
returns g c = λ values.
    let n = c.get-n.result in
    let e : c.loop-k.k ≡ n * n = omega arith in
    let filled = rw e at c.loop-k.invariant.2 values in
    subst
    (λ (m : ℕ).
    ((i j : ℕ) (r : _) → i ≤ j → j < m → goal.F-post g c.args.f i j r → r ≡ values i j) → ((i j : ℕ) → j < i → values i j ≡ values j i) → Matrix g.D.DualNum.arithmetic m c.loop-k.matrix values)
    c.get-n.ensures.0 filled
