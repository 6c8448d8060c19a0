-- By how many bytes are left.
use Prim.Native.Nat.{◌+◌, ◌-◌}
use mathlib.Core.Path.{◌≡◌, refl, sym, ◌∙◌}
use native.Mathlib.Nat.{add-sub_cancel_left}
use native.Mathlib.Omega.{arith}
use lib.ListN.{length, drop, take, length-drop}
use lib.Seq.{length-take-le}
use Rattle.noddyfir.proofs.Running.{length_at, past, whole}
use Rattle.noddyfir.proofs.reader.Reader.next.Goals as goal

pub returns-then-size-left : goal.returns-then-size-left
returns-then-size-left c =
    let a = c.args.self in
    let n = c.big_endian2-size in
    let e = length_at a.src.now a.at ∙ sym n.ensures.0 in
    past (drop a.at a.src.now) n.result e (simp length-drop (omega arith)) (simp length-drop (omega arith))

pub returns : goal.returns
returns c =
    let a = c.args.self in
    let n = c.big_endian2-size in
    let left = drop a.at a.src.now in
    let e = length_at a.src.now a.at ∙ sym n.ensures.0 in
    let size : a.at + (2 + n.result) - a.at ≡ 2 + n.result = add-sub_cancel_left a.at (2 + n.result) in
    let l : length (take (2 + n.result) left) ≡ 2 + n.result = length-take-le (2 + n.result) left (simp length-drop (omega arith)) in
    rw (size, l) (whole left n.result e (simp length-drop (omega arith)) (simp length-drop (omega arith)), refl)
