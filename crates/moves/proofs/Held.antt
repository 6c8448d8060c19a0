-- A move that no test refuses writes a record of the same case: read, it has the mixture and the state that were sent.
use Prim.Native.Nat.{ℕ}
use mathlib.Core.Path.{◌≡◌, refl, sym, ap, ◌∙◌, subst, subst⁻¹}
use mathlib.Core.Bool.{true}
use mathlib.Core.List.{List, []}
use native.Mathlib.Omega.{arith}
use lib.ListN.{replicate}
use lib.Ieee.{Float, binary64, of_bits, to_bits}
use lib.Ieee.Bits.{of_bits-to_bits}
use borrow.Author.Tests.{eqb-true}
use Rattle.std.specs.Prelude.{Ok}
use Rattle.std.proofs.lemmas.List.{append-nil}
use Rattle.arithmetic.specs.Constants.{zero_d}
use Rattle.big_endian.proofs.Inverse.{read_fits}
use Rattle.uvtheory.specs.declared.parameters.Mixture.{Mixture}
use Rattle.case_record.specs.declared.layout.Header.{Header}
use Rattle.case_record.specs.Layout.{header_of, l_pairs, layout_of, pairs}
use Rattle.case_record.specs.Record.{Whole, case_of, column, double, mixture_of, row, state_of}
use Rattle.case_record.specs.Writing.{Padded, PaddedRow, record_bytes}
use Rattle.case_record.proofs.Sizes.{few_l_pairs, few_of_pairs}
use Rattle.case_record.proofs.Values.{row_at, zeros_padded, zeros_row}
use Rattle.case_record.proofs.Inverse.{case_read, read_padded}
use Rattle.checks.specs.Checks.{first_failing, pair_constants, plus_zero}
use Rattle.checks.proofs.Accepted.{all_passed, each_passes}
use Rattle.moves.specs.Moves.{header_in, moved_to}

-- no other double has the bits of +0
zero_bits : of_bits binary64 0 ≡ zero_d
unfolding of_bits
zero_bits = refl

pub is_plus_zero : (s : List ℕ) (k : ℕ) → plus_zero (double s k) ≡ true → double s k ≡ zero_d
is_plus_zero s k e = sym (of_bits-to_bits binary64 (double s k) (read_fits s _)) ∙ ap (of_bits binary64) (eqb-true (to_bits binary64 (double s k)) 0 e) ∙ zero_bits

module _ (s : List ℕ) (whole : Whole s (header_of s)) (passes : first_failing (pair_constants (case_of s)) ≡ Ok tt) where
  abbrev h : Header
  h = header_of s

  abbrev m : Mixture
  m = mixture_of s h

  -- where 13 is not due, every l_ij is +0
  pub no_l_ij : m.l_ij ≡ replicate 28 zero_d
  unfolding mixture_of
  no_l_ij =
      let f = column s (layout_of h).l_ij 1 in
      let few = few_l_pairs h whole.0 in
      let each = each_passes plus_zero (pairs h.n) (row 28 (l_pairs h) f) (all_passed (pair_constants (case_of s)) passes).0 in
      zeros_row 28 (l_pairs h) f few (λ i b. is_plus_zero s _ (subst (λ (x : Float). plus_zero x ≡ true) (row_at 28 (l_pairs h) f i b) (each i (omega (arith, few_of_pairs h)))))

  -- so they can be read again in either version
  pub padded_in : (version : ℕ) → Padded (header_in version h) m (state_of s h)
  padded_in version =
      let p = read_padded s h in
      record {
        count = p.count;
        rep = p.rep;
        att = p.att;
        sigma = p.sigma;
        epsilon_k = p.epsilon_k;
        k_ij = p.k_ij;
        l_ij = subst⁻¹ (λ (xs : List Float). PaddedRow 28 (l_pairs (header_in version h)) xs) no_l_ij (zeros_padded 28 (l_pairs (header_in version h)) (few_l_pairs (header_in version h) whole.0));
        temperature = p.temperature;
        partial_density = p.partial_density;
        molefracs = p.molefracs;
      }

  pub same_case : (version : ℕ) → case_of (moved_to version s) ≡ case_of s
  unfolding moved_to
  same_case version = let r = record_bytes (header_in version h) m (state_of s h) in ap case_of (sym (append-nil r)) ∙ case_read (header_in version h) m (state_of s h) [] (padded_in version)
