-- The pattern made of the radicand's root is that of the double's root, and the rounds are the double's: proofs/RoundedRoot.antt and Rounds.antt of crate arithmetic.
use mathlib.Core.Path.{◌≡◌, sym, ap, ◌∙◌}
use Prim.Native.Nat.{ℕ, ◌*◌, ◌%◌, ◌^◌, ◌≤◌, ◌<◌}
use native.Mathlib.Nat.{mod-eq_of_lt}
use native.Mathlib.Omega.{arith}
use Rattle.arithmetic.specs.Root.{root}
use Rattle.arithmetic.specs.Rounds.{rounds_in}
use Rattle.arithmetic.proofs.Squares.{IsRoot, root_is}
use Rattle.arithmetic.proofs.RoundedRoot.{radicand, shifted_range, range, root_pattern}
use Rattle.arithmetic.proofs.Rounds.{rounds_are}
use Rattle.operations.proofs.root.root_bits.Goals as goal

-- the shift loses no digit
shifted : (sig o : ℕ) → 2 ^ 52 ≤ sig → sig < 2 ^ 53 → o < 2 → sig * 2 ^ o % 2 ^ 64 ≡ sig * 2 ^ o
shifted sig o lo hi h = mod-eq_of_lt (omega (arith, (shifted_range sig o lo hi h).1))

within : (sig o : ℕ) → 2 ^ 52 ≤ sig → sig < 2 ^ 53 → o < 2 → (2 ^ 52 ≤ sig * 2 ^ o % 2 ^ 64) × (sig * 2 ^ o % 2 ^ 64 < 2 ^ 54)
within sig o lo hi h = let s = shifted_range sig o lo hi h in rw (shifted sig o lo hi h) (s.0, omega (arith, s.1))

pub digits-r-requires : goal.digits-r-requires
digits-r-requires c = let p = c.parts-p in within p.result.sig _ p.ensures.bound.0 p.ensures.bound.1 (omega arith)

-- the loop's argument, with 54 zeros behind it
whole : (sig exp : ℕ) → 2 ^ 52 ≤ sig → sig < 2 ^ 53 → sig * 2 ^ (exp % 2) % 2 ^ 64 * 2 ^ 54 ≡ radicand sig exp
whole sig exp lo hi = ap (λ (a : ℕ). a * 2 ^ 54) (shifted sig (exp % 2) lo hi (omega arith))

worked : (sig exp r : ℕ) → 2 ^ 52 ≤ sig → sig < 2 ^ 53 → r ≡ root (sig * 2 ^ (exp % 2) % 2 ^ 64 * 2 ^ 54) → IsRoot r (radicand sig exp)
worked sig exp r lo hi e = rw (e ∙ ap root (whole sig exp lo hi)) (root_is _)

pub overflow_add-result-2 : goal.overflow_add-result-2
overflow_add-result-2 c =
    let p = c.parts-p in
    omega (arith, (range c.args.b p.result.sig p.result.exp (p.ensures.bound, p.ensures.has_value) _ (worked p.result.sig p.result.exp c.digits-r.result.root p.ensures.bound.0 p.ensures.bound.1 c.digits-r.ensures.0)).1)

pub returns : goal.returns
returns c =
    let p = c.parts-p in
    let b = c.args.b in
    let r = root_pattern b p.result.sig p.result.exp (p.ensures.bound, p.ensures.has_value) c.digits-r.result.root (worked p.result.sig p.result.exp c.digits-r.result.root p.ensures.bound.0 p.ensures.bound.1 c.digits-r.ensures.0) in
    (r.0, r.1, c.digits-r.ensures.1 ∙ ap rounds_in (whole p.result.sig p.result.exp p.ensures.bound.0 p.ensures.bound.1) ∙ sym (rounds_are b p.result.sig p.result.exp (p.ensures.bound, p.ensures.has_value)))
