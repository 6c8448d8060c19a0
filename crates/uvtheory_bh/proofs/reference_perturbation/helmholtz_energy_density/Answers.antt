use Rattle.std.proofs.Common.{subst, ◌*◌, ◌/◌, ◌%◌, ◌∙◌}
use Rattle.uvtheory.specs.Rows.{missing, row, matrix}
use Rattle.uvtheory.specs.declared.parameters.Mixture.{Mixture}
use Rattle.uvtheory.specs.Inputs.{parameters}
use Rattle.uvtheory.specs.Held.{Rows, Matrices}
use Rattle.uvtheory.specs.PackingFraction.{packing_fraction}
use Rattle.uvtheory.specs.Bh.HardSphere.{diameter_bh}
use Rattle.uvtheory.specs.Bh.ReferencePerturbation as F
use Rattle.uvtheory.proofs.Loops.{adds, sum_ext, row_of, column_of}
use Rattle.uvtheory.proofs.Sums.{matrix_at, packing_fraction_of}
use Rattle.uvtheory_bh.proofs.reference_perturbation.helmholtz_energy_density.Goals as goal

pub returns : goal.returns
unfolding F.helmholtz_energy_density
returns g c =
    let A = g.D.DualNum.arithmetic in
    let left = adds A g.met.D.DualNum.sum_start g.met.D.DualNum.sum_step in
    let b = c.b.inside in
    let q = c.p.inside in
    let rows = subst (λ (m : Mixture). Rows A m q.rep q.att q.sigma q.epsilon_k) c.p.view_is c.p.invariant.0 in
    let held = subst (λ (m : Mixture). Matrices A m q.rep_ij q.att_ij q.sigma_ij q.eps_k_ij) c.p.view_is c.p.invariant.1 in
    let m = b.parameters.now in
    let s = b.state.now in
    let f = parameters A m in
    let n = m.n in
    let x = row A s.molefracs in
    let d = diameter_bh A f s.temperature in
    let eta = packing_fraction A n (row A s.partial_density) d in
    let diameters = packing_fraction_of A left (missing A) n (row A s.partial_density) b.d _ c.b.invariant in
    let terms = sum_ext A left (n * n) (λ k. F.term_ij A x (row A b.d) f.sigma (matrix A n q.sigma_ij) (matrix A n q.rep_ij) eta (k / n) (k % n))
    (λ k. F.term_ij A x d f.sigma f.sigma_ij f.rep_ij eta (k / n) (k % n))
    (λ k l. rw (
      matrix_at (missing A) n q.sigma_ij f.sigma_ij held.sigma_are k l,
      matrix_at (missing A) n q.rep_ij f.rep_ij held.rep_are k l,
      c.b.invariant (k / n) (row_of n k l),
      c.b.invariant (k % n) (column_of n k l),
    )) in
    rw (← c.b.view_is) (c.energy.ensures ∙ rw (c.pair_sum-a.ensures, c.packing_fraction-eta.ensures, c.sum.ensures, c.p.view_is, rows.sigma_are, diameters, terms))
