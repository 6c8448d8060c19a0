use Rattle.std.proofs.Common.{ℕ, subst}
use Rattle.uvtheory.specs.Literals.{half, one}
use Rattle.arithmetic.specs.Constants.{zero_d}
use Rattle.uvtheory.specs.Parameters.{combined, with_l_ij}
use Rattle.uvtheory.specs.Rows.{Matrix, doubles, row_of, place}
use Rattle.uvtheory.proofs.parameters.UVTheoryPars.new.Goals as goal

pub invariant_of-result : goal.invariant_of-result
invariant_of-result g c =
    let A = g.D.DualNum.arithmetic in
    let m = c.args.m.now in
    let root : (v : ℕ → _) → ℕ → ℕ → _ = λ v i j. A.sqrt (A.mul (v i) (v j)) in
    let mean : (v : ℕ → _) → ℕ → ℕ → _ = λ v i j. with_l_ij A (row_of zero_d m.l_ij (place m.n i j)) (A.mul (A.constant half) (A.add (v i) (v j))) in
    let weighted : (v : ℕ → _) → ℕ → ℕ → _ = λ v i j. A.mul (A.sub (A.constant one) (A.constant (doubles m.k_ij (place m.n i j)))) (A.sqrt (A.mul (v i) (v j))) in (
      record { rep_are = c.constants-rep.ensures; att_are = c.constants-att.ensures; sigma_are = c.constants-sigma.ensures; epsilon_are = c.constants-epsilon_k.ensures },
      record {
        rep_are = subst (λ (v : ℕ → _). Matrix A m.n c.by_rule.result (combined v (root v))) c.constants-rep.ensures (c.by_rule.ensures _ (λ i j r _ _ p. p));
        att_are = subst (λ (v : ℕ → _). Matrix A m.n c.by_rule-2.result (combined v (root v))) c.constants-att.ensures (c.by_rule-2.ensures _ (λ i j r _ _ p. p));
        sigma_are = subst (λ (v : ℕ → _). Matrix A m.n c.by_rule-3.result (combined v (mean v))) c.constants-sigma.ensures (c.by_rule-3.ensures _ (λ i j r _ _ p. p));
        epsilon_are = subst (λ (v : ℕ → _). Matrix A m.n c.by_rule-4.result (combined v (weighted v))) c.constants-epsilon_k.ensures (c.by_rule-4.ensures _ (λ i j r _ _ p. p));
      },
    )
