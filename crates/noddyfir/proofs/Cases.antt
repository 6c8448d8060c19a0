-- Document 01's cases "for a proved table", all of them as one theorem of the definitions, by computation.
use mathlib.Core.Path.{◌≡◌, refl}
use mathlib.Core.List.{List, [], ◌∷◌}
use Prim.Native.Nat.{ℕ}
use lib.ListN.{replicate}
use lib.Ieee.{Float, of_bits, round, eq, add, sub, mul}
use Rattle.arithmetic.specs.Constants.{bits, zero_d, one}
use Rattle.arithmetic.specs.Root as Root
use Rattle.arithmetic.specs.Doubles.{doubles}
use Rattle.arithmetic.proofs.Rows as Elementary
use Rattle.arithmetic.proofs.Rows.{nearest}
use Rattle.range.specs.Rules.{range, point, zero, ranges}
use Rattle.range.proofs.Rows as Ranges
use Rattle.uvtheory.specs.Parameters.{UVTheoryPars, new, with_l_ij}
use Rattle.uvtheory.specs.Rows.{doubles as entries}
use Rattle.big_endian.specs.Bytes.{big_endian, bytes_of}
use Rattle.case_record.specs.Layout as Layout
use Rattle.case_record.specs.Layout.{length_at}
use Rattle.calls.specs.Answers.{answer_of, tested}
use Rattle.noddyfir.specs.Call.{ends_answer, energies_answer, slopes_answer}
use Rattle.noddyfir.specs.Run.{Outcome, run_from, run_of}

-- "combining (rep 9, 16; att 6, 6; sigma 3, 4; epsilon_k 100, 400; k 0.25)", and by the l_ij of M-104
abbrev mixture : Float → UVTheoryPars Float
mixture l_ij =
    new doubles record {
      n = 2;
      rep = entries (nearest 9 1 ∷ nearest 16 1 ∷ []);
      att = entries (nearest 6 1 ∷ nearest 6 1 ∷ []);
      sigma = entries (nearest 3 1 ∷ nearest 4 1 ∷ []);
      epsilon_k = entries (nearest 100 1 ∷ nearest 400 1 ∷ []);
      k_ij = λ i j. nearest 1 4;
      l_ij = λ i j. l_ij;
    }

-- "Input 00 00 00 03 01 00 00 (hexadecimal) gives 00 02 01 02 00 02 01 05, whole, from either": two records, both refused, in a buffer of 60 bytes
abbrev seven_bytes : List ℕ
seven_bytes = 0x00 ∷ 0x00 ∷ 0x00 ∷ 0x03 ∷ 0x01 ∷ 0x00 ∷ 0x00 ∷ []

abbrev both_refused : Outcome
both_refused =
    record {
      run = record { records = 2; read = 7; written = 8; reason = 0 };
      answers = 0x00 ∷ 0x02 ∷ 0x01 ∷ 0x02 ∷ 0x00 ∷ 0x02 ∷ 0x01 ∷ 0x05 ∷ replicate 52 0xAA;
    }

abbrev pub Combining : Type 0
Combining = let p = mixture zero_d in (p.rep_ij 0 1 ≡ nearest 12 1) × (p.att_ij 0 1 ≡ nearest 6 1) × (p.sigma_ij 0 1 ≡ nearest 7 2) × (p.eps_k_ij 0 1 ≡ nearest 150 1)

abbrev pub SecondConstant : Type 0
SecondConstant = ((mixture (nearest 1 4)).sigma_ij 0 1 ≡ nearest 21 8) × ((mixture (bits 0x8000000000000000)).sigma_ij 0 1 ≡ nearest 7 2)

pub record Table : Type 0 where
  -- "lengths 59, 115, 619 at n = 1, 2, 8"; of version 2, which grows by 8 for each pair, 59, 123, 843
  pub lengths : (length_at 1 1 ≡ 59) × (length_at 1 2 ≡ 115) × (length_at 1 8 ≡ 619)
  pub lengths_2 : (length_at 2 1 ≡ 59) × (length_at 2 2 ≡ 123) × (length_at 2 8 ≡ 843)
  -- ".. gives 12, 6, 3.5, 150"
  pub combining : Combining
  -- M-104: "(1 − l_ij) × (0.5 × (sigma_i + sigma_j))", and −0 as +0
  pub second_constant : SecondConstant
  -- "sqrt 2.25 = 1.5; ln 1 = 0; exp 0 = 1; tanh 0 = 0; 0 to the 1.2187 = 0"
  pub root : doubles.sqrt (nearest 9 4) ≡ nearest 3 2
  pub logarithm : doubles.ln one ≡ zero_d
  pub exponential : doubles.exp zero_d ≡ one
  pub tangent : doubles.tanh zero_d ≡ zero_d
  pub power : doubles.powf zero_d (nearest 12187 10000) ≡ zero_d
  -- "[1,1]+[1,1] = [2−2^−52, 2+2^−51]; [0,0]×[5,5] = [0,0]"
  pub sum : ranges.add (point one) (point one) ≡ range (bits 0x3FFFFFFFFFFFFFFF) (bits 0x4000000000000001)
  pub product : ranges.mul (point zero_d) (point (nearest 5 1)) ≡ zero
  -- "the seven-byte run", of energies, of ends and of slopes
  pub energies_run : run_of 28 energies_answer seven_bytes (replicate 60 0xAA) ≡ both_refused
  pub ends_run : run_of 52 ends_answer seven_bytes (replicate 60 0xAA) ≡ both_refused
  pub slopes_run : run_of 52 slopes_answer seven_bytes (replicate 60 0xAA) ≡ both_refused

combined : Combining
unfolding with_l_ij Root.sqrt of_bits round eq add sub mul
combined = (refl, refl, refl, refl)

by_second_constant : SecondConstant
unfolding with_l_ij of_bits round eq add sub mul
by_second_constant = (refl, refl)

energies_run : run_of 28 energies_answer seven_bytes (replicate 60 0xAA) ≡ both_refused
unfolding run_from answer_of tested big_endian bytes_of
energies_run = refl

ends_run : run_of 52 ends_answer seven_bytes (replicate 60 0xAA) ≡ both_refused
unfolding run_from answer_of tested big_endian bytes_of
ends_run = refl

slopes_run : run_of 52 slopes_answer seven_bytes (replicate 60 0xAA) ≡ both_refused
unfolding run_from answer_of tested big_endian bytes_of
slopes_run = refl

pub table : Table
table =
    let e = Elementary.rows in
    let r = Ranges.rows in
    record {
      lengths = Layout.lengths;
      lengths_2 = Layout.lengths_2;
      combining = combined;
      second_constant = by_second_constant;
      root = e.0;
      logarithm = e.1;
      exponential = e.2;
      tangent = e.3;
      power = e.4;
      sum = r.0;
      product = r.1;
      energies_run = energies_run;
      ends_run = ends_run;
      slopes_run = slopes_run;
    }
