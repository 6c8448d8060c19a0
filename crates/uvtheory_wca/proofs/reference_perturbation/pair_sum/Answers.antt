use Rattle.std.proofs.Common.{rules, ◌≡◌, ◌<◌, ◌/◌, ◌%◌, List, length, get_or, ◌∙◌, ap₂, sym, arith}
use Rattle.std.proofs.lemmas.List.{get_or_default}
use Rattle.uvtheory.specs.Tables.{table}
use Rattle.uvtheory.specs.Rows.{missing, row, matrix}
use Rattle.uvtheory.specs.Wca.ReferencePerturbation as F
use Rattle.uvtheory.proofs.Loops.{at_pair, square_le}
use Rattle.uvtheory_wca.proofs.reference_perturbation.pair_sum.Goals as goal

pub loop-ij-preserved : goal.loop-ij-preserved
loop-ij-preserved g c =
    let A = g.D.DualNum.arithmetic in
    let number = g.met.D.DualNum in
    let a = c.args in
    let n = c.get-n.result in
    let k = c.loop-ij.ij in
    let inside : k < 64 = let few = square_le n c.get-n.ensures.1 in omega arith in
    let value : (xs : List _) (v : _) → length xs ≡ 64 → get_or xs k v ≡ matrix A n xs (k / n) (k % n) = λ xs v size. rw (at_pair n k) (get_or_default xs k v (missing A) (omega (arith, size))) in
    let q = value a.q.now c.index-q-ij.result (search rules) in
    let sigma_ij = value a.sigma_ij.now c.index-sigma_ij-ij.result (search rules) in
    let rep_ij = value a.rep_ij.now c.index-rep_ij-ij.result (search rules) in
    let term : c.term_by.result ≡ F.term_ij A (table a.c.now.eta_a) (table a.c.now.eta_b) (row A a.x.now) (row A a.rm.now) (row A a.d.now) (row A a.length.now) (matrix A n a.q.now) (matrix A n a.sigma_ij.now) (matrix A n a.rep_ij.now) a.eta (k / n) (k % n)
    = c.term_by.ensures ∙ rw (c.component_of-i.ensures, c.component_of-j.ensures, q, sigma_ij, rep_ij) in
    (omega arith, number.add_is _ _ _ c.add-a.ensures ∙ ap₂ A.add c.loop-ij.invariant.1 term ∙ sym (number.sum_step k _))
