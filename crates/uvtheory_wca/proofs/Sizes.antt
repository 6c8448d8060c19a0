-- A mixture's lengths fit in memory.
use Rattle.std.proofs.Common.{ℕ, ◌+◌, ◌*◌, ◌^◌, ◌<◌, ◌≤◌, max, le_refl, arith}
use Rattle.std.proofs.Math.Nat.{max-le, lt_of_le_of_lt}
use prog.Memory.{up}
use Rattle.uvtheory.proofs.Sizes.{up_le, next}

module _ (a s : ℕ) (aligned : a ≤ 2 ^ 32) (small : s ≤ 2 ^ 32) where
  pub lengths_fit : up (max 8 (max 8 (max a (max a (max a (max a (max a 1))))))) (up a (up a (up a (up a (up a 16 + 8 * s) + 8 * s) + 8 * s) + 64 * s) + 64 * s) < 2 ^ 63
  lengths_fit =
      let eight : 8 ≤ 64 = omega arith in
      let word : 8 ≤ 2 ^ 32 = omega arith in
      let one : 1 ≤ 2 ^ 32 = omega arith in
      let all = le_refl 64 in
      let end = next a s aligned small 64 all (next a s aligned small 64 all (next a s aligned small 8 eight (next a s aligned small 8 eight (next a s aligned small 8 eight (le_refl 16))))) in
      lt_of_le_of_lt (up_le (max-le word (max-le word (max-le aligned (max-le aligned (max-le aligned (max-le aligned (max-le aligned one))))))) end) (omega arith)
