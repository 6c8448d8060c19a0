-- Which field a double of a record is, by its place in the layout.
use Prim.Native.Nat.{ℕ, ◌+◌, ◌-◌, ◌*◌, ◌/◌, ◌%◌, ◌≤◌, ◌<◌}
use mathlib.Core.Path.{◌≡◌, ap, ◌∙◌, subst}
use mathlib.Core.Logic.{◌⊎◌, inl, inr}
use native.Mathlib.Omega.{arith}
use borrow.Author.Tests.{lt-ltb, le-ltb}
use lib.ListN.{get_or}
use lib.Ieee.{Float, nan}
use Rattle.uvtheory.specs.declared.parameters.Mixture.{Mixture}
use Rattle.uvtheory.specs.declared.parameters.State.{State}
use Rattle.case_record.specs.declared.layout.Header.{Header}
use Rattle.case_record.specs.Layout.{layout_of, l_pairs, pairs}
use Rattle.case_record.specs.Writing.{double_of, field_of}
use Rattle.case_record.proofs.Values.{below_or_from}

module _ (h : Header) (m : Mixture) (t : State Float) (k : ℕ) where
  pub in_substances : k < (layout_of h).k_ij → double_of h m t k ≡ get_or (field_of m (k % 4)) (k / 4) nan
  unfolding double_of
  in_substances below = rw (lt-ltb k (layout_of h).k_ij below)

  pub in_k_ij : (layout_of h).k_ij ≤ k → k < (layout_of h).l_ij → double_of h m t k ≡ get_or m.k_ij (k - (layout_of h).k_ij) nan
  unfolding double_of
  in_k_ij from below = rw (le-ltb k (layout_of h).k_ij from, lt-ltb k (layout_of h).l_ij below)

  in_l_ij : (layout_of h).l_ij ≤ k → k < (layout_of h).temperature → double_of h m t k ≡ get_or m.l_ij (k - (layout_of h).l_ij) nan
  unfolding double_of
  in_l_ij from below =
      let a : (layout_of h).k_ij ≤ k = omega arith in
      rw (le-ltb k (layout_of h).k_ij a, le-ltb k (layout_of h).l_ij from, lt-ltb k (layout_of h).temperature below)

  pub in_temperature : (layout_of h).temperature ≤ k → k < (layout_of h).partial_density → double_of h m t k ≡ t.temperature
  unfolding double_of
  in_temperature from below =
      let a : (layout_of h).k_ij ≤ k = omega arith in
      let b : (layout_of h).l_ij ≤ k = omega arith in
      rw (le-ltb k (layout_of h).k_ij a, le-ltb k (layout_of h).l_ij b, le-ltb k (layout_of h).temperature from, lt-ltb k (layout_of h).partial_density below)

  pub in_densities : (layout_of h).partial_density ≤ k → k < (layout_of h).molefracs → double_of h m t k ≡ get_or t.partial_density (k - (layout_of h).partial_density) nan
  unfolding double_of
  in_densities from below =
      let a : (layout_of h).k_ij ≤ k = omega arith in
      let b : (layout_of h).l_ij ≤ k = omega arith in
      let c : (layout_of h).temperature ≤ k = omega arith in
      rw (le-ltb k (layout_of h).k_ij a, le-ltb k (layout_of h).l_ij b, le-ltb k (layout_of h).temperature c, le-ltb k (layout_of h).partial_density from, lt-ltb k (layout_of h).molefracs below)

  pub in_fractions : (layout_of h).molefracs ≤ k → double_of h m t k ≡ get_or t.molefracs (k - (layout_of h).molefracs) nan
  unfolding double_of
  in_fractions from =
      let a : (layout_of h).k_ij ≤ k = omega arith in
      let b : (layout_of h).l_ij ≤ k = omega arith in
      let c : (layout_of h).temperature ≤ k = omega arith in
      let d : (layout_of h).partial_density ≤ k = omega arith in
      rw (le-ltb k (layout_of h).k_ij a, le-ltb k (layout_of h).l_ij b, le-ltb k (layout_of h).temperature c, le-ltb k (layout_of h).partial_density d, le-ltb k (layout_of h).molefracs from)

-- ---- the places that reading uses
module _ (h : Header) (m : Mixture) (t : State Float) where
  pub substance_at : (j i : ℕ) → j < 4 → i < h.n → double_of h m t (j + 4 * i) ≡ get_or (field_of m j) i nan
  substance_at j i p q =
      let e : (j + 4 * i) % 4 ≡ j = omega arith in
      let f : (j + 4 * i) / 4 ≡ i = omega arith in
      in_substances h m t (j + 4 * i) (omega arith) ∙ rw (e, f)

  pub k_ij_at : (i : ℕ) → i < pairs h.n → double_of h m t ((layout_of h).k_ij + 1 * i) ≡ get_or m.k_ij i nan
  k_ij_at i p =
      let e : (layout_of h).k_ij + 1 * i - (layout_of h).k_ij ≡ i = omega arith in
      in_k_ij h m t ((layout_of h).k_ij + 1 * i) (omega arith) (omega arith) ∙ ap (λ (j : ℕ). get_or m.k_ij j nan) e

  pub l_ij_at : (i : ℕ) → i < l_pairs h → double_of h m t ((layout_of h).l_ij + 1 * i) ≡ get_or m.l_ij i nan
  l_ij_at i p =
      let e : (layout_of h).l_ij + 1 * i - (layout_of h).l_ij ≡ i = omega arith in
      in_l_ij h m t ((layout_of h).l_ij + 1 * i) (omega arith) (omega arith) ∙ ap (λ (j : ℕ). get_or m.l_ij j nan) e

  pub temperature_at : double_of h m t (layout_of h).temperature ≡ t.temperature
  temperature_at = in_temperature h m t (layout_of h).temperature (omega arith) (omega arith)

  pub density_at : (i : ℕ) → i < h.n → double_of h m t ((layout_of h).partial_density + 1 * i) ≡ get_or t.partial_density i nan
  density_at i p =
      let e : (layout_of h).partial_density + 1 * i - (layout_of h).partial_density ≡ i = omega arith in
      in_densities h m t ((layout_of h).partial_density + 1 * i) (omega arith) (omega arith) ∙ ap (λ (j : ℕ). get_or t.partial_density j nan) e

  pub fraction_at : (i : ℕ) → i < h.n → double_of h m t ((layout_of h).molefracs + 1 * i) ≡ get_or t.molefracs i nan
  fraction_at i p =
      let e : (layout_of h).molefracs + 1 * i - (layout_of h).molefracs ≡ i = omega arith in
      in_fractions h m t ((layout_of h).molefracs + 1 * i) (omega arith) ∙ ap (λ (j : ℕ). get_or t.molefracs j nan) e

-- they are all: what holds at each of them holds at every place
pub each_place : (h : Header) (P : ℕ → Type 0)
    → ((j i : ℕ) → j < 4 → i < h.n → P (j + 4 * i))
    → ((i : ℕ) → i < pairs h.n → P ((layout_of h).k_ij + 1 * i))
    → ((i : ℕ) → i < l_pairs h → P ((layout_of h).l_ij + 1 * i))
    → P (layout_of h).temperature
    → ((i : ℕ) → i < h.n → P ((layout_of h).partial_density + 1 * i))
    → ((i : ℕ) → i < h.n → P ((layout_of h).molefracs + 1 * i))
    → (k : ℕ) → k < (layout_of h).doubles → P k
each_place h P substances k_ij l_ij temperature densities fractions k below =
    go (below_or_from k (layout_of h).k_ij) (below_or_from k (layout_of h).l_ij) (below_or_from k (layout_of h).temperature) (below_or_from k (layout_of h).partial_density) (below_or_from k (layout_of h).molefracs)
  where
    from : (first : ℕ) → first ≤ k → first + 1 * (k - first) ≡ k
    from first p = omega arith

    go :
        (k < (layout_of h).k_ij) ⊎ ((layout_of h).k_ij ≤ k)
        → (k < (layout_of h).l_ij) ⊎ ((layout_of h).l_ij ≤ k)
        → (k < (layout_of h).temperature) ⊎ ((layout_of h).temperature ≤ k)
        → (k < (layout_of h).partial_density) ⊎ ((layout_of h).partial_density ≤ k)
        → (k < (layout_of h).molefracs) ⊎ ((layout_of h).molefracs ≤ k)
        → P k
    go (inl p) a b c d = let e : k % 4 + 4 * (k / 4) ≡ k = omega arith in subst P e (substances (k % 4) (k / 4) (omega arith) (omega arith))
    go (inr p) (inl q) b c d = subst P (from (layout_of h).k_ij p) (k_ij (k - (layout_of h).k_ij) (omega arith))
    go (inr p) (inr q) (inl r) c d = subst P (from (layout_of h).l_ij q) (l_ij (k - (layout_of h).l_ij) (omega arith))
    go (inr p) (inr q) (inr r) (inl u) d = let e : (layout_of h).temperature ≡ k = omega arith in subst P e temperature
    go (inr p) (inr q) (inr r) (inr u) (inl v) = subst P (from (layout_of h).partial_density u) (densities (k - (layout_of h).partial_density) (omega arith))
    go (inr p) (inr q) (inr r) (inr u) (inr v) = subst P (from (layout_of h).molefracs v) (fractions (k - (layout_of h).molefracs) (omega arith))
