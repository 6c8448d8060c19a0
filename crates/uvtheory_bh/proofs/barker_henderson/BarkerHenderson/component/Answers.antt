use Rattle.std.proofs.Common.{◌≡◌, ◌<◌, ◌∙◌, ℕ, ap, sym, subst}
use Rattle.uvtheory.specs.declared.parameters.Mixture.{Mixture}
use Rattle.uvtheory.specs.Inputs.{MixtureState, parameters}
use Rattle.uvtheory.specs.Rows.{row}
use Rattle.uvtheory.specs.Held.{Rows}
use Rattle.uvtheory_bh.proofs.barker_henderson.BarkerHenderson.component.Goals as goal

pub returns : goal.returns
returns g c =
    let A = g.D.DualNum.arithmetic in
    let b = c.self.inside in
    let m = b.parameters.now in
    let p = c.p.inside in
    let rows = subst (λ (m : Mixture). Rows A m p.rep p.att p.sigma p.epsilon_k) c.p.view_is c.p.invariant.0 in
    let inside = subst (λ (s : MixtureState _). c.args.i < s.mixture.n) (sym c.self.view_is) c.requires in
    let sigma : row A p.sigma c.args.i ≡ (parameters A m).sigma c.args.i = ap (λ (f : ℕ → _). f c.args.i) rows.sigma_are in
    rw (← c.self.view_is) (c.component_of.ensures ∙ rw (c.in_row.ensures.0, sigma, c.self.invariant c.args.i inside))
