-- A record that is written piece by piece: its header, then one double after the other.
use Prim.Native.Nat.{ℕ, ◌+◌, ◌*◌, ◌≤◌}
use mathlib.Core.Path.{◌≡◌, ◌∙◌}
use mathlib.Core.List.{List, ◌++◌}
use native.Mathlib.Numerals.{add-one}
use lib.ListN.{length, take, drop}
use lib.Ieee.{Float}
use Rattle.uvtheory.specs.declared.parameters.Mixture.{Mixture}
use Rattle.uvtheory.specs.declared.parameters.State.{State}
use Rattle.big_endian.specs.Bytes.{bytes_of, double_bytes, doubles_bytes, written}
use Rattle.big_endian.proofs.Written as Written
use Rattle.big_endian.proofs.Written.{again, begun}
use Rattle.case_record.specs.declared.layout.Header.{Header}
use Rattle.case_record.specs.Layout.{layout_of}
use Rattle.case_record.specs.Record.{values}
use Rattle.case_record.specs.Writing.{double_of, header_bytes, record_bytes}
use Rattle.case_record.proofs.Rows.{length_values}

-- ---- the doubles
pub double_more : (l : List ℕ) (f : ℕ → Float) (k : ℕ) (x : Float) (l₁ l₂ : List ℕ) → l₁ ≡ written l (begun l 5 (values k f)) → x ≡ f k → 5 ≤ length l
    → l₂ ≡ take (5 + 8 * k) l₁ ++ double_bytes x ++ drop (5 + 8 * k + 8) l₁
    → l₂ ≡ written l (begun l 5 (values (k + 1) f))
unfolding values
double_more l f k x l₁ l₂ e₁ e h e₂ = rw (add-one k) (Written.double_more l 5 h (values k f) (f k) e₁ (rw (length_values k f) (rw e at e₂)))

pub whole_record : (l : List ℕ) (h : Header) (m : Mixture) (t : State Float) {l₁ l₂ : List ℕ} → l₁ ≡ written l (header_bytes h)
    → l₂ ≡ written l₁ (take 5 l₁ ++ doubles_bytes (values (layout_of h).doubles (double_of h m t)))
    → l₂ ≡ written l (record_bytes h m t)
unfolding bytes_of
whole_record l h m t e₁ e₂ = e₂ ∙ rw e₁ (again (header_bytes h) (doubles_bytes (values (layout_of h).doubles (double_of h m t))) l)
