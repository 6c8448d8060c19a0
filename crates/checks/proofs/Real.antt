-- The doubles of a record whose substances and state pass are numbers: NaN lies in no interval.
use Prim.Native.Nat.{ℕ, zero, suc, ◌+◌, ◌*◌, ◌<◌}
use mathlib.Core.Path.{◌≡◌, subst}
use mathlib.Core.Bool.{true, not, false≢true}
use mathlib.Core.List.{List}
use native.Mathlib.Omega.{arith}
use lib.Dec.{T}
use lib.Ieee.{Float, nan, inf, fin, is_nan, le, lt, eq}
use Rattle.std.specs.Prelude.{Ok}
use Rattle.uvtheory.specs.declared.parameters.Mixture.{Mixture}
use Rattle.uvtheory.specs.declared.parameters.State.{State}
use Rattle.case_record.specs.declared.layout.Header.{Header}
use Rattle.case_record.specs.Layout.{header_of, l_pairs, layout_of, pairs}
use Rattle.case_record.specs.Record.{case_of, column, double, mixture_of, row, state_of}
use Rattle.case_record.proofs.Sizes.{few_of_pairs}
use Rattle.case_record.proofs.Values.{row_at}
use Rattle.case_record.proofs.Places.{each_place}
use Rattle.checks.specs.declared.Interval.{Interval}
use Rattle.checks.specs.Checks.{all_inside, first_failing, inside, state, state_inside, substances, substances_inside}
use Rattle.checks.specs.Checks as Of
use Rattle.checks.proofs.Accepted.{all_passed, both, each_passes}

inside_real : (i : Interval) (x : Float) → inside i x ≡ true → T (not (is_nan x))
unfolding le lt eq is_nan
inside_real i nan e = absurd (false≢true (both (le i.0 nan) (le nan i.1) e).1)
inside_real i (inf s) e = tt
inside_real i (fin s m k) e = tt

-- of an array that was read
row_real : (i : Interval) (size n count : ℕ) (f : ℕ → Float) → all_inside i count (row size n f) ≡ true → (k : ℕ) → k < n → k < count → T (not (is_nan (f k)))
row_real i size n count f e k l m = subst (λ (x : Float). T (not (is_nan x))) (row_at size n f k l) (inside_real i _ (each_passes (inside i) count (row size n f) e k m))

module _ (s : List ℕ) (of_substances : first_failing (substances (case_of s)) ≡ Ok tt) (of_state : first_failing (state (case_of s)) ≡ Ok tt) where
  abbrev h : Header
  h = header_of s

  abbrev m : Mixture
  m = mixture_of s h

  abbrev t : State Float
  t = state_of s h

  record Inside : Type 0 where
    rep : all_inside Of.rep h.n m.rep ≡ true
    att : all_inside Of.att h.n m.att ≡ true
    sigma : all_inside Of.sigma h.n m.sigma ≡ true
    epsilon_k : all_inside Of.epsilon_k h.n m.epsilon_k ≡ true
    k_ij : all_inside Of.k_ij (pairs h.n) m.k_ij ≡ true
    l_ij : all_inside Of.l_ij (pairs h.n) m.l_ij ≡ true
    temperature : inside Of.temperature t.temperature ≡ true
    density : all_inside Of.density h.n t.partial_density ≡ true
    fraction : all_inside Of.fraction h.n t.molefracs ≡ true

  are_inside : Inside
  unfolding mixture_of substances_inside state_inside
  are_inside =
      let (e₄, l_ij) = both _ _ (all_passed (substances (case_of s)) of_substances).0 in
      let (e₃, k_ij) = both _ _ e₄ in
      let (e₂, epsilon_k) = both _ _ e₃ in
      let (e₁, sigma) = both _ _ e₂ in
      let (rep, att) = both _ _ e₁ in
      let (f₂, _) = both _ _ (all_passed (state (case_of s)) of_state).0 in
      let (f₁, fraction) = both _ _ f₂ in
      let (temperature, density) = both _ _ f₁ in
      record { rep = rep; att = att; sigma = sigma; epsilon_k = epsilon_k; k_ij = k_ij; l_ij = l_ij; temperature = temperature; density = density; fraction = fraction }

  field_real : (j i : ℕ) → j < 4 → i < h.n → T (not (is_nan (double s (j + 4 * i))))
  unfolding mixture_of
  field_real zero i p q = row_real Of.rep 8 h.n h.n (column s 0 4) are_inside.rep i q q
  field_real (suc zero) i p q = row_real Of.att 8 h.n h.n (column s 1 4) are_inside.att i q q
  field_real (suc (suc zero)) i p q = row_real Of.sigma 8 h.n h.n (column s 2 4) are_inside.sigma i q q
  field_real (suc (suc (suc zero))) i p q = row_real Of.epsilon_k 8 h.n h.n (column s 3 4) are_inside.epsilon_k i q q
  field_real (suc (suc (suc (suc j)))) i p q = absurd (four j p)
    where
      four : (j : ℕ) → suc (suc (suc (suc j))) < 4 → ⊥
      four j p = omega arith

  pub each_real : (k : ℕ) → k < (layout_of h).doubles → T (not (is_nan (double s k)))
  unfolding mixture_of state_of
  each_real =
      let e = are_inside in
      each_place h (λ k. T (not (is_nan (double s k))))
      field_real
      (λ i p. row_real Of.k_ij 28 (pairs h.n) (pairs h.n) (column s (layout_of h).k_ij 1) e.k_ij i p p)
      (λ i p. row_real Of.l_ij 28 (l_pairs h) (pairs h.n) (column s (layout_of h).l_ij 1) e.l_ij i p (omega (arith, few_of_pairs h)))
      (inside_real Of.temperature t.temperature e.temperature)
      (λ i p. row_real Of.density 8 h.n h.n (column s (layout_of h).partial_density 1) e.density i p p)
      (λ i p. row_real Of.fraction 8 h.n h.n (column s (layout_of h).molefracs 1) e.fraction i p p)
