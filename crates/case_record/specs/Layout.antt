-- The layout of a case record: its header, the places of its doubles, and its length. Reading, writing and checks go by it, so that another version or kind of record is another layout.
use Rattle.std.specs.Prelude.{ℕ, zero, suc, ◌+◌, ◌-◌, ◌*◌, ◌/◌, ◌≡◌, refl, Bool, false, List, cond, leb, eqb, get_or}
use Rattle.std.proofs.Common.{arith}
use Rattle.uvtheory.specs.declared.eos.Perturbation.{Perturbation}
use Rattle.uvtheory.specs.declared.eos.Perturbation.TheVariants.{BarkerHenderson, WeeksChandlerAndersen, WeeksChandlerAndersenB3}
use Rattle.case_record.specs.declared.layout.Header.{Header}
use Rattle.case_record.specs.declared.layout.Layout.{Layout}
use Rattle.big_endian.specs.Bytes.{big_endian}

-- "Length is 2 bytes, big-endian, and counts what follows it. Then: version (1 byte, 1); perturbation (1 byte: 0 BH, 1 WCA, 2 WCA-B3); n (1 byte)"
abbrev pub length_field : List ℕ → ℕ
length_field s = big_endian s 0 2

abbrev pub header_of : List ℕ → Header
header_of s = record { version = get_or s 2 0; perturbation = get_or s 3 0; n = get_or s 4 0 }

-- which perturbation bytes there are, and what each means
abbrev pub is_perturbation : ℕ → Bool
is_perturbation byte = leb byte 2

abbrev pub perturbation_of : ℕ → Perturbation
perturbation_of zero = BarkerHenderson
perturbation_of (suc zero) = WeeksChandlerAndersen
perturbation_of (suc (suc k)) = WeeksChandlerAndersenB3

-- how many pairs i below j there are
abbrev pub pairs : ℕ → ℕ
pairs n = n * (n - 1) / 2

-- how many l_ij there are. M-104: "Case version 2 carries the l_ij after the k_ij", one for each pair, and "version 1 is still read", which has none
abbrev pub l_pairs : Header → ℕ
l_pairs h = cond (eqb h.version 2) (pairs h.n) 0

-- "n times rep, att, sigma, epsilon_k; k_ij for i below j, row by row; temperature; n partial densities; n mole fractions", with the l_ij after the k_ij: each begins where the one before it ends, the first at 0
abbrev pub layout_of : Header → Layout
layout_of h =
    let n = h.n in
    let k_ij = 4 * n in
    let l_ij = k_ij + pairs n in
    let temperature = l_ij + l_pairs h in
    let partial_density = temperature + 1 in
    let molefracs = partial_density + n in
    record {
      k_ij = k_ij;
      l_ij = l_ij;
      temperature = temperature;
      partial_density = partial_density;
      molefracs = molefracs;
      doubles = molefracs + n;
    }

-- what the length field is to be: version, perturbation, n, and the doubles
abbrev pub length_of : Header → ℕ
length_of h = 3 + 8 * (layout_of h).doubles

-- of a version and n substances, whatever the perturbation
abbrev pub length_at : ℕ → ℕ → ℕ
length_at version n = length_of record { version = version; perturbation = 0; n = n }

-- "So length is 3 + 8 × (4n + n(n−1)/2 + 1 + 2n).": of every header but those of version 2, whatever the perturbation
pub length_is : (h : Header) → eqb h.version 2 ≡ false → length_of h ≡ 3 + 8 * (4 * h.n + pairs h.n + 1 + 2 * h.n)
length_is h v = rw v (go h.n (pairs h.n))
  where
    go : (n p : ℕ) → 3 + 8 * (4 * n + p + 0 + 1 + n + n) ≡ 3 + 8 * (4 * n + p + 1 + 2 * n)
    go n p = omega arith

-- M-104: "the length grows by 8 for each pair"
pub length_grows : (n : ℕ) → length_at 2 n ≡ length_at 1 n + 8 * pairs n
length_grows n = go (pairs n)
  where
    go : (p : ℕ) → 3 + 8 * (4 * n + p + p + 1 + n + n) ≡ 3 + 8 * (4 * n + p + 0 + 1 + n + n) + 8 * p
    go p = omega arith

-- "lengths 59, 115, 619 at n = 1, 2, 8", and those of version 2
pub lengths : (length_at 1 1 ≡ 59) × (length_at 1 2 ≡ 115) × (length_at 1 8 ≡ 619)
lengths = (refl, refl, refl)

pub lengths_2 : (length_at 2 1 ≡ 59) × (length_at 2 2 ≡ 123) × (length_at 2 8 ≡ 843)
lengths_2 = (refl, refl, refl)
