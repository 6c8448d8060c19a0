use Rattle.std.proofs.Common.{refl, ◌∙◌}
use Rattle.uvtheory.specs.Rows.{missing, row}
use Rattle.uvtheory.specs.Inputs.{parameters}
use Rattle.uvtheory.proofs.Loops.{adds}
use Rattle.uvtheory.proofs.Sums.{one_fluid_is}
use Rattle.uvtheory.proofs.one_fluid.one_fluid_properties.Goals as goal

pub returns : goal.returns
returns g c =
    let number = g.met.D.DualNum in
    let A = g.D.DualNum.arithmetic in
    let p = c.p.inside in
    let rows = c.p.invariant.0 in
    let m = c.p.invariant.1 in
    let f = parameters A p.mixture in
    let d = row A c.args.d.now in
    let fluid =
    one_fluid_is A (adds A number.sum_start number.sum_step) (missing A) f.n (row A c.args.x.now) p.rep_ij p.att_ij p.sigma_ij p.eps_k_ij c.args.d.now f.rep_ij f.att_ij f.sigma_ij f.eps_k_ij f.sigma d m.rep_are m.att_are m.sigma_are m.epsilon_are (λ i _. refl) in
    rw (← c.p.view_is) (c.one_fluid_of.ensures ∙ rw rows.sigma_are fluid)
