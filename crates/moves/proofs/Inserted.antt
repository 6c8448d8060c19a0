-- What a move to version 2 writes, byte by byte: the record that was sent, with its length and version changed, and eight bytes 0 for each pair behind the k_ij.
use Prim.Native.Nat.{ℕ, ◌+◌, ◌-◌, ◌*◌, ◌≤◌, ◌<◌}
use mathlib.Core.Path.{◌≡◌, refl, sym, ap, ap₂, ◌∙◌, subst}
use mathlib.Core.Logic.{inl, inr}
use mathlib.Core.List.{List, ◌∷◌, ◌++◌}
use native.Mathlib.Omega.{arith}
use native.Mathlib.Nat.{le_refl}
use mathlib.Core.Bool.{not}
use lib.Dec.{T}
use lib.ListN.{length, get_or, take, drop, replicate, length-drop}
use lib.Seq.{drop-append_seam, drop-drop, take_all}
use lib.Ieee.{Float, is_nan, nan}
use Rattle.std.proofs.lemmas.List.{get_or-replicate}
use Rattle.arithmetic.specs.Constants.{zero_d}
use Rattle.big_endian.specs.Bytes.{bytes_of, doubles_bytes}
use Rattle.big_endian.proofs.Written.{doubles_append, length_doubles, zeros_bytes}
use Rattle.uvtheory.specs.declared.parameters.Mixture.{Mixture}
use Rattle.uvtheory.specs.declared.parameters.State.{State}
use Rattle.case_record.specs.declared.layout.Header.{Header}
use Rattle.case_record.specs.Layout.{header_of, layout_of, length_field, length_of, pairs}
use Rattle.case_record.specs.Record.{double, mixture_of, state_of, values}
use Rattle.case_record.specs.Writing.{double_of}
use Rattle.case_record.proofs.Sizes.{few_pairs}
use Rattle.case_record.proofs.Rows.{length_values}
use Rattle.case_record.proofs.Versions.{no_l_pairs}
use Rattle.case_record.proofs.Inverse.{double_of_read, doubles_of_read}
use Rattle.case_record.proofs.Places.{in_substances, in_k_ij, in_temperature, in_densities, in_fractions, l_ij_at}
use Rattle.checks.proofs.Accepted.{Enveloped, enveloped, whole}
use Rattle.checks.proofs.Real.{each_real}
use Rattle.moves.specs.Moves.{moved_size, moved_to}
use Rattle.moves.specs.Promise.{Passes, inserted}
use Rattle.moves.proofs.Moves.{Moves}
use Rattle.moves.proofs.Held.{no_l_ij}
use Rattle.moves.proofs.ToVersion2.{moves_to_2}
use Rattle.case_record.proofs.Values.{below_or_from, same_values, values_add, zeros}

same : (field : List Float) {i j : ℕ} → i ≡ j → get_or field i nan ≡ get_or field j nan
same field e = ap (λ (i : ℕ). get_or field i nan) e

-- ---- by the headers of both versions
module _ (perturbation n : ℕ) where
  abbrev one : Header
  one = record { version = 1; perturbation = perturbation; n = n }

  abbrev two : Header
  two = record { version = 2; perturbation = perturbation; n = n }

  -- where the l_ij begin, and how many doubles are behind them
  abbrev first : ℕ
  first = (layout_of two).l_ij

  abbrev behind : ℕ
  behind = (layout_of one).doubles - first

  module _ (m : Mixture) (t : State Float) where
    before_them : (k : ℕ) → k < first → double_of two m t k ≡ double_of one m t k
    before_them k below = elim (below_or_from k (layout_of two).k_ij) [
      | inl p ↦ in_substances two m t k p ∙ sym (in_substances one m t k p)
      | inr p ↦ in_k_ij two m t k p below ∙ sym (in_k_ij one m t k p below)
    ]

    behind_them : (k : ℕ) → k < behind → double_of two m t (first + pairs n + k) ≡ double_of one m t (first + k)
    behind_them k below =
        let there = first + pairs n + k in
        let here = first + k in
        elim (below_or_from k 1) [
          | inl p ↦ in_temperature two m t there (omega arith) (omega arith) ∙ sym (in_temperature one m t here (omega arith) (omega arith))
          | inr p ↦
              elim (below_or_from k (1 + n)) [
                | inl q ↦ in_densities two m t there (omega arith) (omega arith) ∙ same t.partial_density (omega arith) ∙ sym (in_densities one m t here (omega arith) (omega arith))
                | inr q ↦ in_fractions two m t there (omega arith) ∙ same t.molefracs (omega arith) ∙ sym (in_fractions one m t here (omega arith))
              ]
        ]

    module _ (zero : m.l_ij ≡ replicate 28 zero_d) (few : pairs n ≤ 28) where
      they_are : (i : ℕ) → i < pairs n → double_of two m t (first + i) ≡ zero_d
      they_are i h =
          let e : first + 1 * i ≡ first + i = omega arith in
          ap (double_of two m t) (sym e) ∙ l_ij_at two m t i h ∙ ap (λ (xs : List Float). get_or xs i nan) zero ∙ get_or-replicate 28 i zero_d nan (omega arith)

      -- so what is written are the doubles in front of them, the l_ij, and those behind
      doubles_are : values (layout_of two).doubles (double_of two m t) ≡ values first (double_of one m t) ++ replicate (pairs n) zero_d ++ values behind (λ k. double_of one m t (first + k))
      doubles_are =
          let f = double_of two m t in
          let p = pairs n in
          let whole : (layout_of two).doubles ≡ first + p + behind = omega arith in
          let front = values_add first p f ∙ ap₂ ◌++◌ (same_values first f (double_of one m t) before_them) (same_values p (λ i. f (first + i)) (λ i. zero_d) they_are ∙ zeros p) in
          ap (λ (k : ℕ). values k f) whole
          ∙ values_add (first + p) behind f
          ∙ ap₂ ◌++◌ front (same_values behind (λ k. f (first + p + k)) (λ k. double_of one m t (first + k)) behind_them)

-- ---- of a record of version 1 that passes the checks
module _ (s : List ℕ) (are_bytes : (i : ℕ) → get_or s i 0 < 256) (p : Passes 1 s) where
  abbrev h : Header
  h = header_of s

  abbrev m : Mixture
  m = mixture_of s h

  abbrev t : State Float
  t = state_of s h

  moves : Moves 1 2 (moved_size 2 s) s
  moves = moves_to_2 s p (moved_size 2 s) (le_refl (moved_size 2 s))

  e : Enveloped 1 1 s
  e = enveloped 1 1 s moves.of_envelope

  version : h.version ≡ 1
  version = omega (arith, e.not_older, e.not_newer)

  -- its doubles end with it
  size : length s ≡ 5 + 8 * (layout_of (one h.perturbation h.n)).doubles
  size = omega (arith, e.long, e.counted, e.sized, no_l_pairs h version)

  -- those that are written are those that were sent
  read : (k : ℕ) → k < (layout_of (one h.perturbation h.n)).doubles → double_of (one h.perturbation h.n) m t k ≡ double s k
  read k b =
      let same_header : h ≡ one h.perturbation h.n = λ i. record h { version = version i } in
      subst (λ (g : Header). double_of g m t k ≡ double s k) same_header (double_of_read s h k (omega (arith, b, no_l_pairs h version)))

  real : (k : ℕ) → k < (layout_of (one h.perturbation h.n)).doubles → T (not (is_nan (double s k)))
  real k b = each_real s moves.of_substances moves.of_state k (omega (arith, b, no_l_pairs h version))

  -- the bytes of the first of them, and of those behind
  module _ (a b : ℕ) (all : a + b ≡ (layout_of (one h.perturbation h.n)).doubles) where
    abbrev f : ℕ → Float
    f = double_of (one h.perturbation h.n) m t

    bytes_sent : (k : ℕ) → k ≤ a + b → doubles_bytes (values k f) ≡ take (8 * k) (drop 5 s)
    bytes_sent k l = ap doubles_bytes (same_values k f (double s) (λ i c. read i (omega (arith, all)))) ∙ doubles_of_read s are_bytes k (omega (arith, size, all)) (λ i c. real i (omega (arith, all)))

    bytes_before : doubles_bytes (values a f) ≡ take (8 * a) (drop 5 s)
    bytes_before = bytes_sent a (omega arith)

    bytes_behind : doubles_bytes (values b (λ k. f (a + k))) ≡ drop (5 + 8 * a) s
    bytes_behind =
        let front = doubles_bytes (values a f) in
        let back = doubles_bytes (values b (λ k. f (a + k))) in
        let parts : doubles_bytes (values (a + b) f) ≡ front ++ back = ap doubles_bytes (values_add a b f) ∙ doubles_append (values a f) (values b (λ k. f (a + k))) in
        let all_bytes : front ++ back ≡ drop 5 s = sym parts ∙ bytes_sent (a + b) (omega arith) ∙ take_all (8 * (a + b)) (drop 5 s) (rw length-drop (omega (arith, size, all))) in
        let long : length front ≡ 8 * a = length_doubles (values a f) ∙ rw length_values refl in
        sym (drop-append_seam front back) ∙ ap₂ drop long all_bytes ∙ drop-drop (8 * a) 5 s

    with_zeros : (n : ℕ) → doubles_bytes (values a f ++ replicate n zero_d ++ values b (λ k. f (a + k))) ≡ take (8 * a) (drop 5 s) ++ replicate (8 * n) 0 ++ drop (5 + 8 * a) s
    with_zeros n =
        let va = values a f in
        let zs = replicate n zero_d in
        doubles_append (va ++ zs) (values b (λ k. f (a + k))) ∙ ap₂ ◌++◌ (doubles_append va zs ∙ ap₂ ◌++◌ bytes_before (zeros_bytes n)) bytes_behind

  pub inserts : moved_to 2 s ≡ inserted s
  unfolding moved_to bytes_of
  inserts =
      let perturbation = h.perturbation in
      let n = pairs h.n in
      let a = first perturbation h.n in
      let b = behind perturbation h.n in
      let grown : length_of (two perturbation h.n) ≡ length_field s + 8 * n = omega (arith, e.sized, no_l_pairs h version) in
      let zero = no_l_ij s (whole 1 1 s moves.of_envelope) moves.of_pairs in
      let doubles = ap doubles_bytes (doubles_are perturbation h.n m t zero (few_pairs h.n e.few)) ∙ with_zeros a b (omega arith) n in
      ap₂ (λ (l : ℕ) (bytes : List ℕ). bytes_of l 2 ++ (2 ∷ perturbation ∷ h.n ∷ bytes)) grown doubles
