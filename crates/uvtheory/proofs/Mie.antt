-- Mie parameters are alike where each of the four is.
use Rattle.std.proofs.Common.{◌≡◌, refl}
use Rattle.uvtheory.specs.declared.parameters.Mie.{Mie}

abbrev mie : {X : Type 0} → X → X → X → X → Mie X
mie rep att sigma epsilon_k = record { rep = rep; att = att; sigma = sigma; epsilon_k = epsilon_k }

pub alike : {X : Type 0} {a b c d e f g h : X} → a ≡ e → b ≡ f → c ≡ g → d ≡ h → mie a b c d ≡ mie e f g h
alike rep att sigma epsilon_k = rw (rep, att, sigma, epsilon_k) refl
