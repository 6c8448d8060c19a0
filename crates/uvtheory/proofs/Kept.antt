-- Every relation that the operations keep is kept by the three energies of each perturbation: the formulas, worked in `both`, are the proof.
use Rattle.std.proofs.Common.{ℕ, Bool, true, false, cond, eqb, ltb}
use Rattle.arithmetic.specs.Arithmetic.{Arithmetic}
use Rattle.arithmetic.proofs.Both.{Both, both_of, Kept, both}
use Rattle.uvtheory.specs.declared.eos.Perturbation.{Perturbation}
use Rattle.uvtheory.specs.declared.eos.Perturbation.TheVariants.{BarkerHenderson, WeeksChandlerAndersen, WeeksChandlerAndersenB3}
use Rattle.std.specs.Prelude.{Float}
use Rattle.std.specs.Float.Ieee.{eq}
use Rattle.arithmetic.specs.Constants.{zero_d}
use Rattle.uvtheory.specs.Literals.{half, one, six}
use Rattle.uvtheory.specs.declared.contributions.Contributions.{Contributions}
use Rattle.uvtheory.specs.Parameters.{UVTheoryParameters, UVTheoryPars, State, mapped, combined, with_l_ij, new, mie_prefactor, mean_field_of, bh_coefficient, bh_coefficients}
use Rattle.uvtheory.specs.HardSphere as S
use Rattle.uvtheory.specs.PackingFraction as P
use Rattle.uvtheory.specs.ReferenceEnergy as RE
use Rattle.uvtheory.specs.OneFluid as O
use Rattle.uvtheory.specs.Bh as Bh
use Rattle.uvtheory.specs.Bh.HardSphere as BhS
use Rattle.uvtheory.specs.Bh.ReferencePerturbation as BhR
use Rattle.uvtheory.specs.Bh.AttractivePerturbation as BhA
use Rattle.uvtheory.specs.Wca as Wca
use Rattle.uvtheory.specs.Wca.HardSphere as WcaS
use Rattle.uvtheory.specs.Wca.ReferencePerturbation as WcaR
use Rattle.uvtheory.specs.Wca.AttractivePerturbation as WcaA
use Rattle.uvtheory.specs.Wca.AttractivePerturbationUvb3 as B3A
use Rattle.uvtheory.specs.Eos.{residual_helmholtz_energy_contributions}

module _ {X Y : Type 0} (A : Arithmetic X) (B : Arithmetic Y) (R : X → Y → Type 0) (K : Kept A B R) where
  abbrev AB : Arithmetic (Both R)
  AB = both A B R K

  pub record Related (c : Contributions X) (d : Contributions Y) : Type 0 where
    pub hard_sphere_is : R c.hard_sphere d.hard_sphere
    pub reference_is : R c.reference d.reference
    pub attractive_is : R c.attractive d.attractive

  combined_kept : {f : ℕ → ℕ → X} {g : ℕ → ℕ → Y} (pure : ℕ → Both R) → ((i j : ℕ) → R (f i j) (g i j)) → (i j : ℕ) → R (combined (λ k. (pure k).left) f i j) (combined (λ k. (pure k).right) g i j)
  combined_kept {f} {g} pure h i j = go (eqb i j) (ltb i j)
    where
      go : (b c : Bool) → R (cond b (pure i).left (cond c (f i j) (f j i))) (cond b (pure i).right (cond c (g i j) (g j i)))
      go true c = (pure i).holds
      go false true = h i j
      go false false = h j i

  with_l_ij_kept : (l : Float) {x : X} {y : Y} → R x y → R (with_l_ij A l x) (with_l_ij B l y)
  unfolding with_l_ij
  with_l_ij_kept l {x} {y} h = go (eq l zero_d)
    where
      go : (b : Bool) → R (cond b x (A.mul (A.sub (A.constant one) (A.constant l)) x)) (cond b y (B.mul (B.sub (B.constant one) (B.constant l)) y))
      go true = h
      go false = K.mul (K.sub (K.constant one) (K.constant l)) h

  -- the parameters and the state of two meanings
  module _ (p : UVTheoryParameters) where
    abbrev pars : UVTheoryPars (Both R)
    pars =
        let rep : ℕ → Both R = λ i. AB.constant (p.rep i) in
        let att : ℕ → Both R = λ i. AB.constant (p.att i) in
        let sigma : ℕ → Both R = λ i. AB.constant (p.sigma i) in
        let epsilon_k : ℕ → Both R = λ i. AB.constant (p.epsilon_k i) in
        record {
          n = p.n;
          rep = rep;
          att = att;
          sigma = sigma;
          epsilon_k = epsilon_k;
          rep_ij = λ i j. both_of R (combined_kept rep (λ i j. K.sqrt (K.mul (rep i).holds (rep j).holds)) i j);
          att_ij = λ i j. both_of R (combined_kept att (λ i j. K.sqrt (K.mul (att i).holds (att j).holds)) i j);
          sigma_ij = λ i j. both_of R (combined_kept sigma (λ i j. with_l_ij_kept (p.l_ij i j) (K.mul (K.constant half) (K.add (sigma i).holds (sigma j).holds))) i j);
          eps_k_ij = λ i j. both_of R (combined_kept epsilon_k
              (λ i j. K.mul (K.sub (K.constant one) (K.constant (p.k_ij i j))) (K.sqrt (K.mul (epsilon_k i).holds (epsilon_k j).holds))) i j);
          cd_bh_pure = λ i. bh_coefficients AB (rep i) (AB.constant six);
        }

    abbrev left : UVTheoryPars X
    left = new A p

    abbrev right : UVTheoryPars Y
    right = new B p

    module _ (s : State (Both R)) where
      abbrev sl : State X
      sl = mapped (λ x. x.left) s

      abbrev sr : State Y
      sr = mapped (λ x. x.right) s

      bh_sphere : R (Bh.residual_helmholtz_energy_contributions A left sl).hard_sphere (Bh.residual_helmholtz_energy_contributions B right sr).hard_sphere
      unfolding S.helmholtz_energy_density S.bmcsl S.weighted_zeta BhS.diameter_bh BhS.quarter_powers BhS.diameter_by bh_coefficient mie_prefactor mean_field_of
      bh_sphere = (Bh.residual_helmholtz_energy_contributions AB pars s).hard_sphere.holds

      bh_reference : R (Bh.residual_helmholtz_energy_contributions A left sl).reference (Bh.residual_helmholtz_energy_contributions B right sr).reference
      unfolding BhR.helmholtz_energy_density BhR.term_of BhR.term BhS.tau RE.energy P.packing_fraction P.packing_fraction_a P.coefficient_a P.packing_fraction_b P.coefficient_b BhS.diameter_bh BhS.quarter_powers BhS.diameter_by bh_coefficient mie_prefactor mean_field_of
      bh_reference = (Bh.residual_helmholtz_energy_contributions AB pars s).reference.holds

      bh_attractive : R (Bh.residual_helmholtz_energy_contributions A left sl).attractive (Bh.residual_helmholtz_energy_contributions B right sr).attractive
      unfolding BhA.helmholtz_energy_density BhA.energy BhA.residual_virial_coefficient BhA.delta_b2 BhA.y_eff_of BhA.beta_eff BhA.delta_b12u BhA.correlation_integral_of BhA.coefficient_1 BhA.c11 BhA.c12 BhA.c13 BhA.coefficient BhA.u_fraction_bh BhA.activation BhS.diameter_bh BhS.quarter_powers BhS.diameter_by bh_coefficient mie_prefactor mean_field_of O.mean_cube O.weighted_pairs O.pair_mean O.cube_root
      bh_attractive = (Bh.residual_helmholtz_energy_contributions AB pars s).attractive.holds

      wca_sphere : R (Wca.residual_helmholtz_energy_contributions A left sl).hard_sphere (Wca.residual_helmholtz_energy_contributions B right sr).hard_sphere
      unfolding S.helmholtz_energy_density S.bmcsl S.weighted_zeta WcaS.diameter_wca WcaS.diameter_of WcaS.rm_of
      wca_sphere = (Wca.residual_helmholtz_energy_contributions AB pars s).hard_sphere.holds

      wca_reference : R (Wca.residual_helmholtz_energy_contributions A left sl).reference (Wca.residual_helmholtz_energy_contributions B right sr).reference
      unfolding WcaR.helmholtz_energy_density WcaR.term_of WcaR.term RE.energy P.packing_fraction P.packing_fraction_a P.coefficient_a P.packing_fraction_b P.coefficient_b WcaS.diameter_wca WcaS.diameter_of WcaS.rm_of WcaS.q_of WcaS.polynomial_q WcaS.coefficient_q WcaS.dimensionless_length_scale WcaS.tau
      wca_reference = (Wca.residual_helmholtz_energy_contributions AB pars s).reference.holds

      wca_attractive : R (Wca.residual_helmholtz_energy_contributions A left sl).attractive (Wca.residual_helmholtz_energy_contributions B right sr).attractive
      unfolding WcaA.helmholtz_energy_density WcaA.energy WcaA.residual_virial_coefficient WcaA.delta_b2_of WcaA.y_eff_of WcaA.beta_eff WcaA.u_fraction_wca WcaA.delta_a1u_of WcaA.delta_b12u WcaA.correlation_integral_of WcaA.correlation_quotient WcaA.coefficient WcaS.diameter_wca WcaS.diameter_of WcaS.rm_of WcaS.q_of WcaS.polynomial_q WcaS.coefficient_q mie_prefactor mean_field_of O.mean_cube O.weighted_pairs O.pair_mean O.cube_root
      wca_attractive = (Wca.residual_helmholtz_energy_contributions AB pars s).attractive.holds

      b3_reference : R (Wca.residual_helmholtz_energy_contributions_b3 A left sl).reference (Wca.residual_helmholtz_energy_contributions_b3 B right sr).reference
      unfolding WcaR.helmholtz_energy_density WcaR.term_of WcaR.term RE.energy P.packing_fraction P.packing_fraction_a P.coefficient_a P.packing_fraction_b P.coefficient_b WcaS.diameter_wca WcaS.diameter_of WcaS.rm_of WcaS.q_of WcaS.polynomial_q WcaS.coefficient_q WcaS.dimensionless_length_scale WcaS.tau
      b3_reference = (Wca.residual_helmholtz_energy_contributions_b3 AB pars s).reference.holds

      b3_attractive : R (Wca.residual_helmholtz_energy_contributions_b3 A left sl).attractive (Wca.residual_helmholtz_energy_contributions_b3 B right sr).attractive
      unfolding B3A.helmholtz_energy_density B3A.energy B3A.residual_third_virial_coefficient B3A.delta_b3 B3A.b30_uv B3A.c1_eta_a P.coefficient_b B3A.ten_volumes B3A.b3_term B3A.delta_b31u_of B3A.k1_of B3A.residual_virial_coefficient B3A.delta_b2_of B3A.sum_beta B3A.coefficient_rsap_of B3A.u_fraction_wca B3A.omega B3A.alpha WcaA.delta_a1u_of WcaA.delta_b12u WcaA.correlation_integral_of WcaA.correlation_quotient WcaA.coefficient WcaS.diameter_wca WcaS.diameter_of WcaS.rm_of WcaS.q_of WcaS.polynomial_q WcaS.coefficient_q mie_prefactor mean_field_of O.mean_cube O.weighted_pairs O.pair_mean O.cube_root
      b3_attractive = (Wca.residual_helmholtz_energy_contributions_b3 AB pars s).attractive.holds

      -- ---- whatever the perturbation
      pub contributions_kept : (perturbation : Perturbation) → Related (residual_helmholtz_energy_contributions A perturbation left sl) (residual_helmholtz_energy_contributions B perturbation right sr)
      unfolding residual_helmholtz_energy_contributions
      contributions_kept BarkerHenderson = record { hard_sphere_is = bh_sphere; reference_is = bh_reference; attractive_is = bh_attractive }
      contributions_kept WeeksChandlerAndersen = record { hard_sphere_is = wca_sphere; reference_is = wca_reference; attractive_is = wca_attractive }
      contributions_kept WeeksChandlerAndersenB3 = record { hard_sphere_is = wca_sphere; reference_is = b3_reference; attractive_is = b3_attractive }
