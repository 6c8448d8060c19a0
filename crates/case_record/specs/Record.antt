-- The case that a record holds: the doubles at the places of its layout.
use Rattle.std.specs.Prelude.{ℕ, zero, suc, ◌+◌, ◌-◌, ◌*◌, ◌≤◌, List, [], ◌∷◌, ◌++◌, length, replicate, Float}
use Rattle.arithmetic.specs.Constants.{zero_d}
use Rattle.uvtheory.specs.declared.parameters.Mixture.{Mixture}
use Rattle.uvtheory.specs.declared.parameters.State.{State}
use Rattle.case_record.specs.declared.case.Case.{Case}
use Rattle.case_record.specs.declared.layout.Header.{Header}
use Rattle.big_endian.specs.Bytes.{double_at}
use Rattle.case_record.specs.Layout.{header_of, layout_of, length_of, l_pairs, pairs, perturbation_of}

-- the doubles that follow n, counted from 0
abbrev pub double : List ℕ → ℕ → Float
double s k = double_at s (5 + 8 * k)

-- those at first, first + step, first + 2 × step, ..
abbrev pub column : List ℕ → ℕ → ℕ → ℕ → Float
column s first step i = double s (first + step * i)

-- f 0, .., f (n − 1)
unfoldable pub values : ℕ → (ℕ → Float) → List Float
values zero f = []
values (suc n) f = values n f ++ (f n ∷ [])

-- an array of `size` doubles: f 0, .., f (n − 1), then +0
abbrev pub row : ℕ → ℕ → (ℕ → Float) → List Float
row size n f = values n f ++ replicate (size - n) zero_d

-- "n times rep, att, sigma, epsilon_k; k_ij for i below j, row by row"; and M-104: "the l_ij after the k_ij, i below j, row by row", where version 1 has +0
unfoldable pub mixture_of : List ℕ → Header → Mixture
mixture_of s h =
    let n = h.n in
    record {
      n = n;
      rep = row 8 n (column s 0 4);
      att = row 8 n (column s 1 4);
      sigma = row 8 n (column s 2 4);
      epsilon_k = row 8 n (column s 3 4);
      k_ij = row 28 (pairs n) (column s (layout_of h).k_ij 1);
      l_ij = row 28 (l_pairs h) (column s (layout_of h).l_ij 1);
    }

-- "temperature; n partial densities; n mole fractions"
unfoldable pub state_of : List ℕ → Header → State Float
state_of s h =
    let l = layout_of h in
    record {
      temperature = double s l.temperature;
      partial_density = row 8 h.n (column s l.partial_density 1);
      molefracs = row 8 h.n (column s l.molefracs 1);
    }

abbrev pub case_of : List ℕ → Case
case_of s =
    let h = header_of s in
    record { perturbation = perturbation_of h.perturbation; mixture = mixture_of s h; state = state_of s h }

-- What it takes to read a record by a header: the arrays have room for n substances, and the record has all its bytes. It follows from the checks 2, 5 and 6.
abbrev pub Whole : List ℕ → Header → Type 0
Whole s h = (h.n ≤ 8) × (2 + length_of h ≤ length s)
