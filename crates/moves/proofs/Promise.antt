-- Records of version 1 move to version 2 with +0, and back to the same bytes.
use Prim.Native.Nat.{ℕ, ◌≤◌, ◌<◌}
use mathlib.Core.Path.{◌≡◌, ap, subst}
use mathlib.Core.List.{List}
use native.Mathlib.Nat.{le_refl}
use lib.ListN.{length, get_or}
use Rattle.std.specs.Prelude.{Ok}
use Rattle.big_endian.specs.Bytes.{written}
use Rattle.case_record.specs.Record.{case_of}
use Rattle.moves.specs.Moves.{moved_size, moved_to, tested}
use Rattle.moves.specs.Promise.{Passes, ThereAndBack, inserted}
use Rattle.moves.proofs.Moves.{Moves, is_moved, passes_of}
use Rattle.moves.proofs.Back.{moved_case, moves_back, same_bytes}
use Rattle.moves.proofs.ToVersion2.{moves_to_2}
use Rattle.moves.proofs.Inserted.{inserts}

pub there_and_back : (s there back : List ℕ) → ((i : ℕ) → get_or s i 0 < 256) → Passes 1 s → moved_size 2 s ≤ length there → length s ≤ length back → ThereAndBack s there back
there_and_back s there back are_bytes p room home =
    let m = moves_to_2 s p (length there) room in
    let one = is_moved 1 2 (length there) s m in
    let is = inserts s are_bytes p in
    let other = subst (λ (r : List ℕ). tested 2 1 (length back) r ≡ Ok tt) is (is_moved 2 1 (length back) (moved_to 2 s) (moves_back 1 2 (length there) s m (length back) home)) in
    let same = subst (λ (r : List ℕ). moved_to 1 r ≡ s) is (same_bytes 1 2 (length there) s m are_bytes) in
    record {
      moves = rw one;
      is_written = rw one (ap (written there) is);
      moves_back = rw other;
      same_bytes = rw other (ap (written back) same);
    }

-- "the moved record passes the same checks": it holds the same case
module _ (s : List ℕ) (are_bytes : (i : ℕ) → get_or s i 0 < 256) (p : Passes 1 s) where
  moves : Moves 1 2 (moved_size 2 s) s
  moves = moves_to_2 s p (moved_size 2 s) (le_refl (moved_size 2 s))

  pub same_case : case_of (inserted s) ≡ case_of s
  same_case = subst (λ (r : List ℕ). case_of r ≡ case_of s) (inserts s are_bytes p) (moved_case 1 2 (moved_size 2 s) s moves)

  pub same_checks : Passes 2 (inserted s)
  same_checks = subst (Passes 2) (inserts s are_bytes p) (passes_of 2 1 (length s) (moved_to 2 s) (moves_back 1 2 (moved_size 2 s) s moves (length s) (le_refl (length s))))
