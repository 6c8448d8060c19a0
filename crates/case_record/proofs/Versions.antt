-- M-104: "version 1 is still read, with l_ij +0".
use Prim.Native.Nat.{ℕ, ◌<◌}
use mathlib.Core.Path.{◌≡◌, ap}
use mathlib.Core.Bool.{cond}
use mathlib.Core.List.{List}
use native.Mathlib.Omega.{arith}
use lib.Dec.{eqb}
use lib.ListN.{replicate}
use Rattle.arithmetic.specs.Constants.{zero_d}
use Rattle.case_record.specs.declared.layout.Header.{Header}
use Rattle.case_record.specs.Layout.{l_pairs, layout_of, pairs}
use Rattle.case_record.specs.Record.{column, mixture_of}
use Rattle.case_record.proofs.Values.{zeros_row}

pub no_l_pairs : (h : Header) → h.version ≡ 1 → l_pairs h ≡ 0
no_l_pairs h e = ap (λ (v : ℕ). cond (eqb v 2) (pairs h.n) 0) e

pub without_l_ij : (s : List ℕ) (h : Header) → h.version ≡ 1 → (mixture_of s h).l_ij ≡ replicate 28 zero_d
unfolding mixture_of
without_l_ij s h e =
    let none : (i : ℕ) → i < l_pairs h → ⊥ = λ i b. omega (arith, no_l_pairs h e) in
    zeros_row 28 (l_pairs h) (column s (layout_of h).l_ij 1) (omega (arith, no_l_pairs h e)) (λ i b. absurd (none i b))
