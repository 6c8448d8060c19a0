-- A move that no test refuses can be moved back, and gives the same bytes.
use Prim.Native.Nat.{ℕ, ◌+◌, ◌≤◌, ◌<◌}
use mathlib.Core.Path.{◌≡◌, refl, ap, ap₂, ◌∙◌, subst, subst⁻¹}
use mathlib.Core.Bool.{true}
use mathlib.Core.List.{List, []}
use native.Mathlib.Nat.{add-zero, le_refl}
use native.Mathlib.Omega.{arith}
use lib.ListN.{length, get_or}
use lib.Ieee.{Float}
use Rattle.std.specs.Prelude.{Ok}
use Rattle.std.proofs.lemmas.List.{append-nil}
use Rattle.uvtheory.specs.declared.parameters.Mixture.{Mixture}
use Rattle.uvtheory.specs.declared.parameters.State.{State}
use Rattle.case_record.specs.declared.case.Case.{Case}
use Rattle.case_record.specs.declared.layout.Header.{Header}
use Rattle.case_record.specs.Layout.{header_of, is_perturbation, length_field, length_of}
use Rattle.case_record.specs.Record.{Whole, case_of, mixture_of, state_of}
use Rattle.case_record.specs.Writing.{record_bytes}
use Rattle.case_record.proofs.Inverse.{read_written, written_read}
use Rattle.checks.specs.Checks.{envelope, substances, state, pair_constants, first_failing}
use Rattle.checks.proofs.Accepted.{Enveloped, enveloped, passes, whole}
use Rattle.checks.proofs.Real.{each_real}
use Rattle.moves.specs.Moves.{header_in, moved_to}
use Rattle.moves.proofs.Moves.{Moves}
use Rattle.moves.proofs.Held.{padded_in, same_case}

moved_is : (version : ℕ) (s : List ℕ) → moved_to version s ≡ record_bytes (header_in version (header_of s)) (mixture_of s (header_of s)) (state_of s (header_of s))
unfolding moved_to
moved_is version s = refl

-- ---- of such a move
module _ (from to size : ℕ) (s : List ℕ) (e : Moves from to size s) where
  abbrev h : Header
  h = header_of s

  abbrev m : Mixture
  m = mixture_of s h

  abbrev t : State Float
  t = state_of s h

  abbrev there : Header
  there = header_in to h

  of_it : Enveloped from from s
  of_it = enveloped from from s e.of_envelope

  its_whole : Whole s h
  its_whole = whole from from s e.of_envelope

  -- what is read of the moved record
  read :
      (header_of (moved_to to s) ≡ there)
      × (mixture_of (moved_to to s) there ≡ m)
      × (state_of (moved_to to s) there ≡ t)
      × (length_field (moved_to to s) ≡ length_of there)
      × (length (moved_to to s) ≡ 2 + length_of there)
  unfolding moved_to
  read =
      let r = record_bytes there m t in
      let (header, mixture, state, field, size) = read_written there m t [] of_it.few (padded_in s its_whole e.of_pairs to) in
      let n = append-nil r in (
        subst (λ (x : List ℕ). header_of x ≡ there) n header,
        subst (λ (x : List ℕ). mixture_of x there ≡ m) n mixture,
        subst (λ (x : List ℕ). state_of x there ≡ t) n state,
        subst (λ (x : List ℕ). length_field x ≡ length_of there) n field,
        subst (λ (x : List ℕ). length x ≡ 2 + length_of there) n (size ∙ add-zero (2 + length_of there)),
      )

  pub moved_case : case_of (moved_to to s) ≡ case_of s
  moved_case = same_case s its_whole e.of_pairs to

  -- "the moved record passes the same checks": its envelope, in its own version, and as its case is the same, those of its case
  pub moved_envelope : first_failing (envelope to to (moved_to to s)) ≡ Ok tt
  moved_envelope =
      let (header, _, _, field, size) = read in
      let by : (P : Header → Type 0) → P there → P (header_of (moved_to to s)) = λ P p. subst⁻¹ P header p in
      passes to to (moved_to to s) record {
        long = omega (arith, size);
        counted = omega (arith, field, size);
        not_older = by (λ k. to ≤ k.version) (le_refl to);
        not_newer = by (λ k. k.version ≤ to) (le_refl to);
        perturbation = by (λ k. is_perturbation k.perturbation ≡ true) of_it.perturbation;
        some = by (λ k. 1 ≤ k.n) of_it.some;
        few = by (λ k. k.n ≤ 8) of_it.few;
        sized = by (λ k. length_field (moved_to to s) ≡ length_of k) field;
      }

  -- the version it came from
  home : header_in from there ≡ h
  home = let v : from ≡ h.version = omega (arith, of_it.not_older, of_it.not_newer) in λ i. record h { version = v i }

  pub moves_back : (room : ℕ) → length s ≤ room → Moves to from room (moved_to to s)
  moves_back room fits =
      record {
        of_envelope = moved_envelope;
        room = subst⁻¹ (λ (k : Header). 2 + length_of (header_in from k) ≤ room) read.0 (subst⁻¹ (λ (k : Header). 2 + length_of k ≤ room) home (omega (arith, of_it.long, of_it.counted, of_it.sized)));
        of_substances = subst⁻¹ (λ (c : Case). first_failing (substances c) ≡ Ok tt) moved_case e.of_substances;
        of_state = subst⁻¹ (λ (c : Case). first_failing (state c) ≡ Ok tt) moved_case e.of_state;
        of_pairs = subst⁻¹ (λ (c : Case). first_failing (pair_constants c) ≡ Ok tt) moved_case e.of_pairs;
      }

  pub same_bytes : ((i : ℕ) → get_or s i 0 < 256) → moved_to from (moved_to to s) ≡ s
  same_bytes are_bytes =
      let (header, mixture, state, _, _) = read in
      let r = moved_to to s in
      moved_is from r
      ∙ ap (λ (k : Header). record_bytes (header_in from k) (mixture_of r k) (state_of r k)) header
      ∙ ap₂ (record_bytes (header_in from there)) mixture state
      ∙ ap (λ (k : Header). record_bytes k m t) home
      ∙ written_read s are_bytes of_it.long of_it.counted of_it.sized (each_real s e.of_substances e.of_state)
