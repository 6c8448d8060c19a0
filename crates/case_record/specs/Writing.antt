-- The record of a mixture and a state: its doubles, each at the place that the layout gives it, and its bytes. What Record.antt reads, written.
use Rattle.std.specs.Prelude.{ℕ, zero, suc, ◌-◌, ◌/◌, ◌%◌, ◌<◌, ◌≡◌, cond, List, [], ◌∷◌, ◌++◌, T, ltb, get_or, Float}
use Rattle.std.specs.Float.{binary64, nan}
use Rattle.std.specs.Float.Ieee.{fits}
use Rattle.uvtheory.specs.declared.parameters.Mixture.{Mixture}
use Rattle.uvtheory.specs.declared.parameters.State.{State}
use Rattle.case_record.specs.declared.layout.Header.{Header}
use Rattle.big_endian.specs.Bytes.{bytes_of, doubles_bytes}
use Rattle.case_record.specs.Layout.{layout_of, length_of, l_pairs, pairs}
use Rattle.case_record.specs.Record.{row, values}

-- "rep, att, sigma, epsilon_k": the fields of a substance, counted from 0
abbrev pub field_of : Mixture → ℕ → List Float
field_of m zero = m.rep
field_of m (suc zero) = m.att
field_of m (suc (suc zero)) = m.sigma
field_of m (suc (suc (suc k))) = m.epsilon_k

-- The k-th double: below the k_ij the field k % 4 of the substance k / 4; then the k_ij; then the l_ij; then the temperature; then the partial densities; then the mole fractions.
unfoldable pub double_of : Header → Mixture → State Float → ℕ → Float
double_of h m t k =
    let l = layout_of h in
    cond (ltb k l.k_ij) (get_or (field_of m (k % 4)) (k / 4) nan)
    (cond (ltb k l.l_ij) (get_or m.k_ij (k - l.k_ij) nan)
    (cond (ltb k l.temperature) (get_or m.l_ij (k - l.l_ij) nan)
    (cond (ltb k l.partial_density) t.temperature
    (cond (ltb k l.molefracs) (get_or t.partial_density (k - l.partial_density) nan) (get_or t.molefracs (k - l.molefracs) nan)))))

-- "Length is 2 bytes, big-endian, and counts what follows it. Then: version (1 byte ..); perturbation (1 byte ..); n (1 byte)"
abbrev pub header_bytes : Header → List ℕ
header_bytes h = bytes_of (length_of h) 2 ++ (h.version ∷ h.perturbation ∷ h.n ∷ [])

-- the same, and the doubles
abbrev pub record_bytes : Header → Mixture → State Float → List ℕ
record_bytes h m t = bytes_of (length_of h) 2 ++ (h.version ∷ h.perturbation ∷ h.n ∷ doubles_bytes (values (layout_of h).doubles (double_of h m t)))

-- ---- what can be read again
-- an array of n doubles, and +0 behind them
pub record PaddedRow (size n : ℕ) (xs : List Float) : Type 0 where
  pub padded : xs ≡ row size n (λ i. get_or xs i nan)
  pub doubles : (i : ℕ) → i < n → T (fits binary64 (get_or xs i nan))

-- A mixture and a state of h.n substances with such arrays, as reading by h gives them.
pub record Padded (h : Header) (m : Mixture) (t : State Float) : Type 0 where
  pub count : m.n ≡ h.n
  pub rep : PaddedRow 8 h.n m.rep
  pub att : PaddedRow 8 h.n m.att
  pub sigma : PaddedRow 8 h.n m.sigma
  pub epsilon_k : PaddedRow 8 h.n m.epsilon_k
  pub k_ij : PaddedRow 28 (pairs h.n) m.k_ij
  pub l_ij : PaddedRow 28 (l_pairs h) m.l_ij
  pub temperature : T (fits binary64 t.temperature)
  pub partial_density : PaddedRow 8 h.n t.partial_density
  pub molefracs : PaddedRow 8 h.n t.molefracs
