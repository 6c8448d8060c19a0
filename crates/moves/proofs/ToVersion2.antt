-- A record of version 1 that passes the checks moves to version 2, where the buffer has room: its l_ij are read as +0.
use Prim.Native.Nat.{ℕ, ◌≤◌}
use mathlib.Core.Path.{◌≡◌, refl, subst⁻¹}
use mathlib.Core.Bool.{true}
use mathlib.Core.List.{List, ◌++◌}
use native.Mathlib.Omega.{arith}
use lib.Ieee.{Float, of_bits, to_bits}
use Rattle.arithmetic.specs.Constants.{zero_d}
use Rattle.case_record.specs.Layout.{header_of, pairs}
use Rattle.case_record.specs.Record.{case_of, mixture_of}
use Rattle.case_record.proofs.Sizes.{few_pairs}
use Rattle.case_record.proofs.Versions.{without_l_ij}
use Rattle.checks.specs.Checks.{all_first, envelope, substances, state, plus_zero}
use Rattle.checks.proofs.Accepted.{enveloped, in_front}
use Rattle.checks.proofs.Inside.{zeros_pass}
use Rattle.moves.specs.Moves.{moved_size}
use Rattle.moves.specs.Promise.{Passes}
use Rattle.moves.proofs.Moves.{Moves}

zero_passes : plus_zero zero_d ≡ true
unfolding of_bits to_bits
zero_passes = refl

-- to version 2, where the buffer has room
pub moves_to_2 : (s : List ℕ) → Passes 1 s → (size : ℕ) → moved_size 2 s ≤ size → Moves 1 2 size s
unfolding mixture_of
moves_to_2 s p size fits =
    let c = case_of s in
    let h = header_of s in
    let (of_envelope, of_case) = in_front (envelope 1 1 s) (substances c ++ state c) p in
    let (of_substances, of_state) = in_front (substances c) (state c) of_case in
    let e = enveloped 1 1 s of_envelope in
    let v : h.version ≡ 1 = omega (arith, e.not_older, e.not_newer) in
    let none : all_first plus_zero (pairs h.n) (mixture_of s h).l_ij ≡ true = subst⁻¹ (λ (xs : List Float). all_first plus_zero (pairs h.n) xs ≡ true) (without_l_ij s h v) (zeros_pass plus_zero zero_passes 28 (pairs h.n) (few_pairs h.n e.few)) in
    record { of_envelope = of_envelope; room = fits; of_substances = of_substances; of_state = of_state; of_pairs = rw none refl }
