-- A record of two substances, by computation.
use Prim.Native.Nat.{ℕ}
use mathlib.Core.Path.{◌≡◌, refl}
use mathlib.Core.Bool.{false}
use mathlib.Core.List.{List, [], ◌∷◌, ◌++◌}
use lib.ListN.{replicate}
use lib.Ieee.{Float, binary64, of_bits, to_bits, round}
use Rattle.arithmetic.specs.Constants.{zero_d}
use Rattle.big_endian.specs.Bytes.{big_endian, bytes_of, double_at, double_bytes, doubles_bytes}
use Rattle.uvtheory.specs.declared.eos.Perturbation.TheVariants.{WeeksChandlerAndersen}
use Rattle.case_record.specs.Record.{case_of, mixture_of, state_of, values}

-- num / den
abbrev d : ℕ → ℕ → Float
d num den = round binary64 false num den

-- WCA; rep 9, 16; att 6, 6; sigma 3, 4; epsilon_k 100, 400; k_ij 0.25; temperature 300; densities 0.5 and 0.125; fractions 0.75 and 0.25
unfoldable pub two_substances : List ℕ
two_substances =
    bytes_of 115 2
    ++ (1 ∷ 1 ∷ 2 ∷ [])
    ++ doubles_bytes (d 9 1 ∷ d 6 1 ∷ d 3 1 ∷ d 100 1 ∷ d 16 1 ∷ d 6 1 ∷ d 4 1 ∷ d 400 1 ∷ d 1 4 ∷ d 300 1 ∷ d 1 2 ∷ d 1 8 ∷ d 3 4 ∷ d 1 4 ∷ [])

its_case : case_of two_substances ≡ record {
  perturbation = WeeksChandlerAndersen;
  mixture = record {
    n = 2;
    rep = d 9 1 ∷ d 16 1 ∷ replicate 6 zero_d;
    att = d 6 1 ∷ d 6 1 ∷ replicate 6 zero_d;
    sigma = d 3 1 ∷ d 4 1 ∷ replicate 6 zero_d;
    epsilon_k = d 100 1 ∷ d 400 1 ∷ replicate 6 zero_d;
    k_ij = d 1 4 ∷ replicate 27 zero_d;
    l_ij = replicate 28 zero_d;
  };
  state = record {
    temperature = d 300 1;
    partial_density = d 1 2 ∷ d 1 8 ∷ replicate 6 zero_d;
    molefracs = d 3 4 ∷ d 1 4 ∷ replicate 6 zero_d;
  };
}
unfolding two_substances big_endian bytes_of double_at double_bytes mixture_of state_of values of_bits to_bits round
its_case = refl
