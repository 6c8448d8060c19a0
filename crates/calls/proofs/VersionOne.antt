-- M-104: "A pair whose l_ij is 0 keeps its sigma_ij, in ranges too, so this changes no version 1 record's answer." What is worked of such a record, in any arithmetic, is what the definition
-- before gives; and its l_ij pass.
use Prim.Native.Nat.{ℕ, ◌≤◌}
use mathlib.Core.Path.{◌≡◌, refl, ap, ◌∙◌, subst⁻¹}
use mathlib.Core.Logic.{inl, inr}
use mathlib.Core.Bool.{Bool, true, ◌&&◌}
use mathlib.Core.List.{List}
use lib.ListN.{get_or, replicate, get_or-eq_default, length-replicate}
use lib.Ieee.{Float, of_bits, eq, lt, le}
use Rattle.std.proofs.Math.Bool.{and-true}
use Rattle.std.proofs.lemmas.List.{get_or-replicate}
use Rattle.arithmetic.specs.Arithmetic.{Arithmetic}
use Rattle.arithmetic.specs.Constants.{zero_d}
use Rattle.uvtheory.specs.Eos.{residual_helmholtz_energy_contributions}
use Rattle.uvtheory.specs.Inputs.{parameters, sent}
use Rattle.uvtheory.specs.Parameters.{State, UVTheoryPars}
use Rattle.uvtheory.proofs.WithoutLij as Uvtheory
use Rattle.eos.specs.Contributions.{contributions}
use Rattle.case_record.specs.Layout.{header_of, pairs}
use Rattle.case_record.specs.Record.{case_of, mixture_of}
use Rattle.case_record.proofs.Values.{below_or_from}
use Rattle.case_record.proofs.Sizes.{few_pairs}
use Rattle.case_record.proofs.Versions.{without_l_ij}
use Rattle.checks.specs.Checks as Of
use Rattle.checks.specs.Checks.{all_inside, inside, substances_inside}
use Rattle.checks.proofs.Inside.{zeros_pass}

zeros_read : (size k : ℕ) → get_or (replicate size zero_d) k zero_d ≡ zero_d
zeros_read size k = elim (below_or_from k size) [
  | inl h ↦ get_or-replicate size k zero_d zero_d h
  | inr h ↦ get_or-eq_default (replicate size zero_d) zero_d (rw length-replicate h)
]

zero_is : eq zero_d zero_d ≡ true
unfolding of_bits eq
zero_is = refl

zero_inside : inside Of.l_ij zero_d ≡ true
unfolding of_bits le lt eq
zero_inside = refl

module _ (s : List ℕ) (version : (header_of s).version ≡ 1) where
  none_sent : (i j : ℕ) → eq ((sent (case_of s).mixture).l_ij i j) zero_d ≡ true
  none_sent i j = rw (without_l_ij s (header_of s) version, zeros_read) zero_is

  -- the parameters, and what is worked of them
  pub parameters_before : {Value : Type 0} (A : Arithmetic Value) → parameters A (case_of s).mixture ≡ Uvtheory.new_without_l_ij A (sent (case_of s).mixture)
  parameters_before A = Uvtheory.without_l_ij A (sent (case_of s).mixture) none_sent

  pub contributions_before : {Value : Type 0} (A : Arithmetic Value) (t : State Value) → let c = case_of s in
      contributions A c.perturbation c.mixture t ≡ residual_helmholtz_energy_contributions A c.perturbation (Uvtheory.new_without_l_ij A (sent c.mixture)) t
  unfolding contributions
  contributions_before A t = let c = case_of s in ap (λ (p : UVTheoryPars _). residual_helmholtz_energy_contributions A c.perturbation p t) (parameters_before A)

  -- and the test of the substances is that of document 01's five intervals
  pub substances_before : (header_of s).n ≤ 8 → let m = (case_of s).mixture in
      substances_inside m ≡ (all_inside Of.rep m.n m.rep && all_inside Of.att m.n m.att && all_inside Of.sigma m.n m.sigma && all_inside Of.epsilon_k m.n m.epsilon_k && all_inside Of.k_ij (pairs m.n) m.k_ij)
  unfolding substances_inside mixture_of
  substances_before few =
      let m = (case_of s).mixture in
      let before = all_inside Of.rep m.n m.rep && all_inside Of.att m.n m.att && all_inside Of.sigma m.n m.sigma && all_inside Of.epsilon_k m.n m.epsilon_k && all_inside Of.k_ij (pairs m.n) m.k_ij in
      let zeros = subst⁻¹ (λ (xs : List Float). all_inside Of.l_ij (pairs m.n) xs ≡ true) (without_l_ij s (header_of s) version) (zeros_pass (inside Of.l_ij) zero_inside 28 (pairs m.n) (few_pairs m.n few)) in
      ap (λ (b : Bool). before && b) zeros ∙ and-true before
