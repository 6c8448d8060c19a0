use Rattle.std.proofs.Common.{subst, ℕ, ◌*◌, ◌/◌, ◌%◌, ◌∙◌}
use Rattle.uvtheory.specs.Tables.{table}
use Rattle.uvtheory.specs.Rows.{missing, row, matrix}
use Rattle.uvtheory.specs.declared.parameters.Mixture.{Mixture}
use Rattle.uvtheory.specs.Inputs.{parameters}
use Rattle.uvtheory.specs.Held.{Matrices}
use Rattle.uvtheory.specs.PackingFraction.{packing_fraction}
use Rattle.uvtheory.specs.Wca.HardSphere.{rm_of, diameter_wca, dimensionless_length_scale, dimensionless_diameter_q_wca}
use Rattle.uvtheory.specs.Wca.ReferencePerturbation as F
use Rattle.uvtheory.proofs.Loops.{adds, sum_ext, row_of, column_of}
use Rattle.uvtheory.proofs.Sums.{matrix_at, packing_fraction_of}
use Rattle.uvtheory_wca.proofs.reference_perturbation.helmholtz_energy_density.Goals as goal

pub returns : goal.returns
unfolding F.helmholtz_energy_density
returns g c =
    let A = g.D.DualNum.arithmetic in
    let left = adds A g.met.D.DualNum.sum_start g.met.D.DualNum.sum_step in
    let w = c.w.inside in
    let lengths = c.w.invariant.0 in
    let p = c.p.inside in
    let held = subst (λ (m : Mixture). Matrices A m p.rep_ij p.att_ij p.sigma_ij p.eps_k_ij) c.p.view_is c.p.invariant.1 in
    let m = w.parameters.now in
    let s = w.state.now in
    let f = parameters A m in
    let n = m.n in
    let x = row A s.molefracs in
    let rm : ℕ → _ = λ i. rm_of A (f.rep i) (f.att i) in
    let d = diameter_wca A f s.temperature in
    let length = dimensionless_length_scale A f s.temperature in
    let q : ℕ → ℕ → _ = λ i j. dimensionless_diameter_q_wca A (A.div s.temperature (f.eps_k_ij i j)) (f.rep_ij i j) (f.att_ij i j) in
    let eta = packing_fraction A n (row A s.partial_density) d in
    let ta = table c.args.c.now.eta_a in
    let tb = table c.args.c.now.eta_b in
    let diameters = packing_fraction_of A left (missing A) n (row A s.partial_density) w.d _ lengths.d_are in
    let terms = sum_ext A left (n * n)
    (λ k. F.term_ij A ta tb x (row A w.rm) (row A w.d) (row A w.length) (matrix A n w.q_ij) (matrix A n p.sigma_ij) (matrix A n p.rep_ij) eta (k / n) (k % n))
    (λ k. F.term_ij A ta tb x rm d length q f.sigma_ij f.rep_ij eta (k / n) (k % n))
    (λ k l.
    let i = row_of n k l in
    let j = column_of n k l in
    rw (
      matrix_at (missing A) n w.q_ij q c.w.invariant.1.q_are k l,
      matrix_at (missing A) n p.sigma_ij f.sigma_ij held.sigma_are k l,
      matrix_at (missing A) n p.rep_ij f.rep_ij held.rep_are k l,
      lengths.rm_are (k / n) i,
      lengths.rm_are (k % n) j,
      lengths.d_are (k / n) i,
      lengths.d_are (k % n) j,
      lengths.length_are (k / n) i,
      lengths.length_are (k % n) j,
    )) in
    rw (← c.w.view_is) (c.energy.ensures ∙ rw (c.pair_sum-a.ensures, c.packing_fraction-eta.ensures, c.sum.ensures, c.p.view_is, diameters, terms))
