use Rattle.std.proofs.Common.{rules, ◌≡◌, ◌∙◌, length, arith}
use Rattle.std.proofs.lemmas.List.{get_or_default}
use Rattle.uvtheory.specs.Rows.{missing}
use Rattle.uvtheory_wca.proofs.hard_sphere.fn.diameter_q_ij.symmetric.Goals as goal

pub div-requires : goal.div-requires
div-requires g c = g.met.D.DualNum.div_total _ _

pub returns : goal.returns
returns g c =
    let k = c.row_by_row.result in
    let xs = c.captures.rm_ij.now in
    let size : length xs ≡ 64 = search rules in
    let minimum = get_or_default xs k c.index-rm_ij-row_by_row.result (missing g.D.DualNum.arithmetic) (omega (arith, size)) in
    c.q_of.ensures ∙ rw (g.met.D.DualNum.div_is _ _ _ c.div.ensures, c.pair-ij.ensures, minimum, c.row_by_row.ensures.0)
