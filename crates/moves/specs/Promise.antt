-- M-104: "Records of version 1 move to version 2 with +0 and back to the same bytes, for every record that passes codes 2 to 8 and 12."
use Rattle.std.specs.Prelude.{ℕ, ◌+◌, ◌*◌, ◌≡◌, List, [], ◌∷◌, ◌++◌, take, drop, replicate, Ok}
use Rattle.big_endian.specs.Bytes.{bytes_of, written}
use Rattle.case_record.specs.Layout.{header_of, layout_of, length_field, pairs}
use Rattle.case_record.specs.Record.{case_of}
use Rattle.checks.specs.Checks.{envelope, substances, state, first_failing}
use Rattle.moves.specs.Moves.{move_code, move_buffer}

-- a record of this version that passes them
abbrev pub Passes : ℕ → List ℕ → Type 0
Passes version s = first_failing (envelope version version s ++ (substances (case_of s) ++ state (case_of s))) ≡ Ok tt

-- What the move to version 2 writes of a record of version 1, byte by byte: eight bytes 0, which are a +0, for each pair behind the k_ij, and the length and the version that belong to them.
abbrev pub inserted : List ℕ → List ℕ
inserted s =
    let h = header_of s in
    let before = 8 * (layout_of h).l_ij in
    let l_ij = 8 * pairs h.n in
    bytes_of (length_field s + l_ij) 2 ++ (2 ∷ h.perturbation ∷ h.n ∷ []) ++ take before (drop 5 s) ++ replicate l_ij 0 ++ drop (5 + before) s

-- of a record s of version 1 that passes them, and a buffer for each of the two moves
pub record ThereAndBack (s there back : List ℕ) : Type 0 where
  pub moves : move_code 1 2 s there ≡ 0
  pub is_written : move_buffer 1 2 s there ≡ written there (inserted s)
  pub moves_back : move_code 2 1 (inserted s) back ≡ 0
  pub same_bytes : move_buffer 2 1 (inserted s) back ≡ written back s
