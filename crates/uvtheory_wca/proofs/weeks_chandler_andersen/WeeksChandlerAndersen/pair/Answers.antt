use Rattle.std.proofs.Common.{rules, ◌≡◌, ◌<◌, ◌+◌, ◌*◌, ℕ, List, length, get_or, sym, subst, arith}
use Rattle.uvtheory.specs.declared.parameters.Mixture.{Mixture}
use Rattle.uvtheory.specs.Rows.{missing, Matrix}
use Rattle.uvtheory.specs.Inputs.{MixtureState, parameters}
use Rattle.uvtheory.specs.Wca.HardSphere.{rm_of, dimensionless_diameter_q_wca}
use Rattle.uvtheory.proofs.Pairs.{at_place}
use Rattle.uvtheory.proofs.Sizes.{parameters_fit}
use Rattle.uvtheory_wca.proofs.weeks_chandler_andersen.WeeksChandlerAndersen.pair.Goals as goal

pub pair-ij-requires : goal.pair-ij-requires
pair-ij-requires g c =
    let inside = subst (λ (s : MixtureState _). (c.args.i < s.mixture.n) × (c.args.j < s.mixture.n)) (sym c.self.view_is) c.requires in
    (parameters_fit _ _ g.met.D.DualNum.aligned g.met.D.DualNum.small, inside)

pub returns : goal.returns
returns g c =
    let A = g.D.DualNum.arithmetic in
    let w = c.self.inside in
    let m = w.parameters.now in
    let f = parameters A m in
    let k = c.row_by_row-k.result in
    let i = c.args.i in
    let j = c.args.j in
    let place : k ≡ i * m.n + j = subst (λ (m : Mixture). k ≡ i * m.n + j) c.p.view_is c.row_by_row-k.ensures.0 in
    let inside = subst (λ (s : MixtureState _). (i < s.mixture.n) × (j < s.mixture.n)) (sym c.self.view_is) c.requires in
    let value : (xs : List _) (v : _) (h : ℕ → ℕ → _) → Matrix A m.n xs h → length xs ≡ 64 → get_or xs k v ≡ h i j =
    λ xs v h is size. at_place (missing A) v m.n i j k xs h is inside.0 inside.1 place (omega (arith, size)) in
    let size : length w.rm_ij ≡ 64 = search rules in
    let size-2 : length w.q_ij ≡ 64 = search rules in
    let rm = value w.rm_ij c.index-rm-k.result (λ i j. rm_of A (f.rep_ij i j) (f.att_ij i j)) c.self.invariant.1.rm_are size in
    let q = value w.q_ij c.index-q-k.result (λ i j. dimensionless_diameter_q_wca A (A.div w.state.now.temperature (f.eps_k_ij i j)) (f.rep_ij i j) (f.att_ij i j)) c.self.invariant.1.q_are size-2 in
    rw (← c.self.view_is) (rw (c.pair-ij.ensures, rm, q))
