use Rattle.std.proofs.Common.{rules, ◌≡◌, ℕ, List, length, get_or, subst, ap, ◌∙◌, arith}
use Rattle.std.proofs.lemmas.List.{get_or_default}
use Rattle.uvtheory.specs.declared.parameters.Mixture.{Mixture}
use Rattle.uvtheory.specs.Rows.{missing, row}
use Rattle.uvtheory.specs.Inputs.{parameters}
use Rattle.uvtheory.specs.Held.{Rows}
use Rattle.uvtheory.proofs.Mie.{alike}
use Rattle.uvtheory.proofs.parameters.UVTheoryPars.pure.Goals as goal

pub returns : goal.returns
returns g c =
    let A = g.D.DualNum.arithmetic in
    let s = c.self.inside in
    let f = parameters A c.args.self.now in
    let k = c.in_row-k.result in
    let held = subst (λ (m : Mixture). Rows A m s.rep s.att s.sigma s.epsilon_k) c.self.view_is c.self.invariant.0 in
    let value : (xs : List _) (v : _) (h : ℕ → _) → row A xs ≡ h → length xs ≡ 8 → get_or xs k v ≡ h c.args.i =
    λ xs v h is size. get_or_default xs k v (missing A) (omega (arith, size)) ∙ ap (λ (t : ℕ → _). t k) is ∙ ap h c.in_row-k.ensures.0 in
    alike
    (value s.rep _ f.rep held.rep_are (search rules))
    (value s.att _ f.att held.att_are (search rules))
    (value s.sigma _ f.sigma held.sigma_are (search rules))
    (value s.epsilon_k _ f.epsilon_k held.epsilon_are (search rules))
