use Prim.Native.Nat.{◌+◌, ◌<◌}
use native.Mathlib.Omega.{arith}
use Rattle.arithmetic.proofs.RootDigits.{none_found, root_below, early, another, onward, ends}
use Rattle.operations.proofs.root.digits.Goals as goal

pub loop-s-init : goal.loop-s-init
loop-s-init c = none_found c.args.a c.requires.1

pub step-s-requires : goal.step-s-requires
step-s-requires c = let f = c.loop-s.invariant.0 in (f.to_come, root_below _ _ _ _ _ f, f.left)

pub loop-s-preserved : goal.loop-s-preserved
loop-s-preserved c =
    let l = c.loop-s in
    let pre = c.requires in
    let r = c.step-s in
    let e = r.ensures in
    let f : 0 < l.s.radicand → l.rounds < 54 = λ q. omega (arith, early _ _ _ _ _ l.invariant.0 q) in
    let g : (l.rounds < 54) × (0 < l.s.radicand + l.s.remainder) = grind (arith, f) in (
      another _ _ _ _ _ l.invariant.0 r.result.radicand r.result.root r.result.remainder g.0 e.0 e.1 e.2 e.3,
      onward _ _ _ _ _ l.invariant.0 pre.0 pre.1 g.0 g.1 l.invariant.1,
    )

pub returns : goal.returns
returns c =
    let l = c.loop-s in
    let pre = c.requires in
    ends _ _ _ _ _ l.invariant.0 pre.0 pre.1 l.invariant.1
    (grind arith)
