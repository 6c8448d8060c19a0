use Rattle.std.proofs.Common.{rules, ◌≡◌, ◌+◌, ◌*◌, ℕ, List, length, get_or, subst, arith}
use Rattle.uvtheory.specs.declared.parameters.Mixture.{Mixture}
use Rattle.uvtheory.specs.Rows.{missing, Matrix}
use Rattle.uvtheory.specs.Inputs.{parameters}
use Rattle.uvtheory.specs.Held.{Matrices}
use Rattle.uvtheory.proofs.Mie.{alike}
use Rattle.uvtheory.proofs.Pairs.{at_place}
use Rattle.uvtheory.proofs.parameters.UVTheoryPars.pair.Goals as goal

pub returns : goal.returns
returns g c =
    let A = g.D.DualNum.arithmetic in
    let s = c.self.inside in
    let n = c.args.self.now.n in
    let f = parameters A c.args.self.now in
    let k = c.row_by_row-k.result in
    let place : k ≡ c.args.i * n + c.args.j = subst (λ (m : Mixture). k ≡ c.args.i * m.n + c.args.j) c.self.view_is c.row_by_row-k.ensures.0 in
    let held = subst (λ (m : Mixture). Matrices A m s.rep_ij s.att_ij s.sigma_ij s.eps_k_ij) c.self.view_is c.self.invariant.1 in
    let value : (xs : List _) (v : _) (h : ℕ → ℕ → _) → Matrix A n xs h → length xs ≡ 64 → get_or xs k v ≡ h c.args.i c.args.j =
    λ xs v h is size. at_place (missing A) v n c.args.i c.args.j k xs h is c.requires.0 c.requires.1 place (omega (arith, size)) in
    alike
    (value s.rep_ij _ f.rep_ij held.rep_are (search rules))
    (value s.att_ij _ f.att_ij held.att_are (search rules))
    (value s.sigma_ij _ f.sigma_ij held.sigma_are (search rules))
    (value s.eps_k_ij _ f.eps_k_ij held.epsilon_are (search rules))
