-- Reading and writing undo each other: a record that was read is written as it was, and what was written is read.
use Prim.Native.Nat.{ℕ, zero, suc, ◌+◌, ◌-◌, ◌*◌, ◌≤◌, ◌<◌}
use mathlib.Core.Path.{◌≡◌, refl, sym, ap, ap₂, ◌∙◌}
use mathlib.Core.Bool.{not}
use mathlib.Core.List.{List, [], ◌∷◌, ◌++◌}
use native.Mathlib.Omega.{arith}
use lib.Dec.{T}
use lib.ListN.{length, get_or, take, drop, length-append, length-drop, take-append-drop}
use lib.Seq.{drop-cons, drop-drop, take-add, take_all}
use lib.Ieee.{Float, binary64, fits, is_nan, nan}
use Rattle.uvtheory.specs.declared.parameters.Mixture.{Mixture}
use Rattle.uvtheory.specs.declared.parameters.State.{State}
use Rattle.big_endian.specs.Bytes.{bytes_of, doubles_bytes}
use Rattle.big_endian.proofs.Inverse as bytes
use Rattle.big_endian.proofs.Written.{doubles_snoc, length_doubles}
use Rattle.case_record.specs.declared.layout.Header.{Header}
use Rattle.case_record.specs.Layout.{header_of, layout_of, length_field, length_of, l_pairs, pairs, perturbation_of}
use Rattle.case_record.specs.Record.{case_of, column, double, mixture_of, row, state_of, values}
use Rattle.case_record.specs.Writing.{Padded, PaddedRow, double_of, field_of, header_bytes, record_bytes}
use Rattle.case_record.proofs.Rows.{length_values}
use Rattle.case_record.proofs.Sizes.{few_doubles}
use Rattle.case_record.proofs.Values.{value_at, same_values, row_at, same_rows, row_padded}
use Rattle.case_record.proofs.Places.{substance_at, k_ij_at, l_ij_at, temperature_at, density_at, fraction_at, each_place}

-- ---- a record that was read, by any header
field_of_read : (s : List ℕ) (h : Header) (j : ℕ) → j < 4 → field_of (mixture_of s h) j ≡ row 8 h.n (column s j 4)
unfolding mixture_of
field_of_read s h zero p = refl
field_of_read s h (suc zero) p = refl
field_of_read s h (suc (suc zero)) p = refl
field_of_read s h (suc (suc (suc zero))) p = refl
field_of_read s h (suc (suc (suc (suc j)))) p = absurd (four j p)
  where
    four : (j : ℕ) → suc (suc (suc (suc j))) < 4 → ⊥
    four j p = omega arith

-- its doubles are those that are written of it
pub double_of_read : (s : List ℕ) (h : Header) (k : ℕ) → k < (layout_of h).doubles → double_of h (mixture_of s h) (state_of s h) k ≡ double s k
unfolding mixture_of state_of
double_of_read s h =
    let m = mixture_of s h in
    let t = state_of s h in
    each_place h (λ k. double_of h m t k ≡ double s k)
    (λ j i p q. substance_at h m t j i p q ∙ ap (λ (l : List Float). get_or l i nan) (field_of_read s h j p) ∙ row_at 8 h.n (column s j 4) i q)
    (λ i p. k_ij_at h m t i p ∙ row_at 28 (pairs h.n) (column s (layout_of h).k_ij 1) i p)
    (λ i p. l_ij_at h m t i p ∙ row_at 28 (l_pairs h) (column s (layout_of h).l_ij 1) i p)
    (temperature_at h m t)
    (λ i p. density_at h m t i p ∙ row_at 8 h.n (column s (layout_of h).partial_density 1) i p)
    (λ i p. fraction_at h m t i p ∙ row_at 8 h.n (column s (layout_of h).molefracs 1) i p)

-- what is read can be read again
pub read_padded : (s : List ℕ) (h : Header) → Padded h (mixture_of s h) (state_of s h)
unfolding mixture_of state_of
read_padded s h = record {
  count = refl;
  rep = row_padded 8 h.n s 0 4;
  att = row_padded 8 h.n s 1 4;
  sigma = row_padded 8 h.n s 2 4;
  epsilon_k = row_padded 8 h.n s 3 4;
  k_ij = row_padded 28 (pairs h.n) s (layout_of h).k_ij 1;
  l_ij = row_padded 28 (l_pairs h) s (layout_of h).l_ij 1;
  temperature = bytes.read_fits s (5 + 8 * (layout_of h).temperature);
  partial_density = row_padded 8 h.n s (layout_of h).partial_density 1;
  molefracs = row_padded 8 h.n s (layout_of h).molefracs 1;
}

-- ---- a record of bytes without a NaN, written as it was
module _ (s : List ℕ) (are_bytes : (i : ℕ) → get_or s i 0 < 256) where
  pub doubles_of_read : (n : ℕ) → 5 + 8 * n ≤ length s → ((k : ℕ) → k < n → T (not (is_nan (double s k)))) → doubles_bytes (values n (double s)) ≡ take (8 * n) (drop 5 s)
  unfolding values
  doubles_of_read zero l h = refl
  doubles_of_read (suc n) l h =
      let e : 8 * suc n ≡ 8 * n + 8 = omega arith in
      let before : doubles_bytes (values n (double s)) ≡ take (8 * n) (drop 5 s) = doubles_of_read n (omega arith) (λ k p. h k (omega arith)) in
      let last = bytes.written_double s are_bytes (5 + 8 * n) (omega arith) (h n (omega arith)) in
      doubles_snoc (values n (double s)) (double s n) ∙ ap₂ ◌++◌ before (last ∙ ap (take 8) (sym (drop-drop (8 * n) 5 s))) ∙ rw e (sym (take-add (8 * n) 8 (drop 5 s)))

  header_of_read : 5 ≤ length s → take 2 s ++ (get_or s 2 0 ∷ get_or s 3 0 ∷ get_or s 4 0 ∷ drop 5 s) ≡ s
  header_of_read l = rw (← drop-cons s 4 0 (omega arith), ← drop-cons s 3 0 (omega arith), ← drop-cons s 2 0 (omega arith)) (take-append-drop 2 s)

  -- with the two checks of its length
  pub written_read : 5 ≤ length s → length_field s ≡ length s - 2 → length_field s ≡ length_of (header_of s)
      → ((k : ℕ) → k < (layout_of (header_of s)).doubles → T (not (is_nan (double s k))))
      → record_bytes (header_of s) (mixture_of s (header_of s)) (state_of s (header_of s)) ≡ s
  written_read l e f h =
      let d = (layout_of (header_of s)).doubles in
      let whole : length s ≡ 5 + 8 * d = omega arith in
      let a : bytes_of (length_of (header_of s)) 2 ≡ take 2 s = ap (λ (n : ℕ). bytes_of n 2) (sym f) ∙ bytes.written_read s are_bytes 0 2 (omega arith) in
      let b : values d (double_of (header_of s) (mixture_of s (header_of s)) (state_of s (header_of s))) ≡ values d (double s) = same_values d _ _ (double_of_read s (header_of s)) in
      let c : doubles_bytes (values d (double s)) ≡ drop 5 s = doubles_of_read d (omega arith) h ∙ take_all (8 * d) (drop 5 s) (rw length-drop (omega arith)) in
      rw (a, b, c) (header_of_read l)

-- ---- what was written, read, with anything behind it
field_padded : {h : Header} {m : Mixture} {t : State Float} → Padded h m t → (j : ℕ) → PaddedRow 8 h.n (field_of m j)
field_padded p zero = p.rep
field_padded p (suc zero) = p.att
field_padded p (suc (suc zero)) = p.sigma
field_padded p (suc (suc (suc j))) = p.epsilon_k

same_mixture : {a b : Mixture} → a.n ≡ b.n → a.rep ≡ b.rep → a.att ≡ b.att → a.sigma ≡ b.sigma → a.epsilon_k ≡ b.epsilon_k → a.k_ij ≡ b.k_ij → a.l_ij ≡ b.l_ij → a ≡ b
same_mixture n rep att sigma epsilon_k k_ij l_ij = λ i. record { n = n i; rep = rep i; att = att i; sigma = sigma i; epsilon_k = epsilon_k i; k_ij = k_ij i; l_ij = l_ij i }

same_state : {a b : State Float} → a.temperature ≡ b.temperature → a.partial_density ≡ b.partial_density → a.molefracs ≡ b.molefracs → a ≡ b
same_state temperature density fraction = λ i. record { temperature = temperature i; partial_density = density i; molefracs = fraction i }

module _ (h : Header) (m : Mixture) (t : State Float) (rest : List ℕ) where
  header_read : header_of (record_bytes h m t ++ rest) ≡ h
  unfolding bytes_of
  header_read = refl

  length_read : h.n ≤ 8 → length_field (record_bytes h m t ++ rest) ≡ length_of h
  unfolding bytes_of
  length_read l = bytes.read_written 2 (length_of h) [] (h.version ∷ h.perturbation ∷ h.n ∷ (doubles_bytes (values (layout_of h).doubles (double_of h m t)) ++ rest)) (omega (arith, few_doubles h l))

  -- each double of a mixture and a state is one
  double_fits : Padded h m t → (k : ℕ) → k < (layout_of h).doubles → T (fits binary64 (double_of h m t k))
  double_fits p =
      each_place h (λ k. T (fits binary64 (double_of h m t k)))
      (λ j i a b. rw (substance_at h m t j i a b) ((field_padded p j).doubles i b))
      (λ i a. rw (k_ij_at h m t i a) (p.k_ij.doubles i a))
      (λ i a. rw (l_ij_at h m t i a) (p.l_ij.doubles i a))
      (rw (temperature_at h m t) p.temperature)
      (λ i a. rw (density_at h m t i a) (p.partial_density.doubles i a))
      (λ i a. rw (fraction_at h m t i a) (p.molefracs.doubles i a))

  double_written : Padded h m t → (k : ℕ) → k < (layout_of h).doubles → double (record_bytes h m t ++ rest) k ≡ double_of h m t k
  unfolding bytes_of
  double_written p k l =
      let f = double_of h m t in
      let d = (layout_of h).doubles in
      let e : get_or (values d f) k nan ≡ f k = value_at d f k l in
      bytes.read_doubles (values d f) k (header_bytes h) rest (rw length_values l) (rw e (double_fits p k l)) ∙ e

  module _ (p : Padded h m t) where
    abbrev s : List ℕ
    s = record_bytes h m t ++ rest

    row_read : (size n first step : ℕ) (xs : List Float) → PaddedRow size n xs → ((i : ℕ) → i < n → first + step * i < (layout_of h).doubles)
        → ((i : ℕ) → i < n → double_of h m t (first + step * i) ≡ get_or xs i nan) → row size n (column s first step) ≡ xs
    row_read size n first step xs q l e = same_rows size n _ _ (λ i a. double_written p (first + step * i) (l i a) ∙ e i a) ∙ sym q.padded

    field_read : (j : ℕ) → j < 4 → row 8 h.n (column s j 4) ≡ field_of m j
    field_read j a = row_read 8 h.n j 4 (field_of m j) (field_padded p j) (λ i b. omega arith) (λ i b. substance_at h m t j i a b)

    mixture_read : mixture_of s h ≡ m
    unfolding mixture_of
    mixture_read = same_mixture (sym p.count)
        (field_read 0 (omega arith))
        (field_read 1 (omega arith))
        (field_read 2 (omega arith))
        (field_read 3 (omega arith))
        (row_read 28 (pairs h.n) (layout_of h).k_ij 1 m.k_ij p.k_ij (λ i b. omega arith) (k_ij_at h m t))
        (row_read 28 (l_pairs h) (layout_of h).l_ij 1 m.l_ij p.l_ij (λ i b. omega arith) (l_ij_at h m t))

    state_read : state_of s h ≡ t
    unfolding state_of
    state_read = same_state (double_written p (layout_of h).temperature (omega arith) ∙ temperature_at h m t)
        (row_read 8 h.n (layout_of h).partial_density 1 t.partial_density p.partial_density (λ i b. omega arith) (density_at h m t))
        (row_read 8 h.n (layout_of h).molefracs 1 t.molefracs p.molefracs (λ i b. omega arith) (fraction_at h m t))

record_length : (h : Header) (m : Mixture) (t : State Float) → length (record_bytes h m t) ≡ 2 + length_of h
unfolding bytes_of
record_length h m t = let xs = values (layout_of h).doubles (double_of h m t) in omega (arith, length_doubles xs, length_values (layout_of h).doubles (double_of h m t))

-- the laws together, with anything behind the record
pub read_written : (h : Header) (m : Mixture) (t : State Float) (rest : List ℕ) → h.n ≤ 8 → Padded h m t
    → let s = record_bytes h m t ++ rest in
    (header_of s ≡ h) × (mixture_of s h ≡ m) × (state_of s h ≡ t) × (length_field s ≡ length_of h) × (length s ≡ 2 + length_of h + length rest)
read_written h m t rest l p = (
  header_read h m t rest,
  mixture_read h m t rest p,
  state_read h m t rest p,
  length_read h m t rest l,
  length-append (record_bytes h m t) rest ∙ ap (λ (n : ℕ). n + length rest) (record_length h m t),
)

-- the case that is read
pub case_read : (h : Header) (m : Mixture) (t : State Float) (rest : List ℕ) → Padded h m t
    → case_of (record_bytes h m t ++ rest) ≡ record { perturbation = perturbation_of h.perturbation; mixture = m; state = t }
unfolding bytes_of
case_read h m t rest p = λ i. record { perturbation = perturbation_of h.perturbation; mixture = mixture_read h m t rest p i; state = state_read h m t rest p i }
