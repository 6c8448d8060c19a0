use Rattle.std.proofs.Common.{◌≡◌, ◌<◌, ◌∙◌, ap, sym, subst}
use Rattle.uvtheory.specs.Inputs.{MixtureState, parameters}
use Rattle.uvtheory.proofs.Sizes.{parameters_fit}
use Rattle.uvtheory_b3.proofs.attractive_perturbation_uvb3.reduced_diameter.Goals as goal

pub pure-requires : goal.pure-requires
pure-requires g c = (parameters_fit _ _ g.met.D.DualNum.aligned g.met.D.DualNum.small, subst (λ (s : MixtureState _). c.args.i < s.mixture.n) (sym c.w.view_is) c.requires)

pub div-requires : goal.div-requires
div-requires g c = g.met.D.DualNum.div_total _ _

pub returns : goal.returns
returns g c =
    let A = g.D.DualNum.arithmetic in
    let Is = λ (s : MixtureState _). c.pure.result.sigma ≡ (parameters A s.mixture).sigma c.args.i in
    let sigma : Is c.args.w.now = subst Is c.w.view_is (ap (λ m. m.sigma) c.pure.ensures) in
    g.met.D.DualNum.div_is _ _ _ c.div.ensures ∙ rw (c.component.ensures, sigma)
