-- What follows from tests that pass: what is due of two stages, and that a record whose envelope passes has all the bytes of its header.
use Prim.Native.Nat.{ℕ, zero, suc, ◌-◌, ◌≤◌, ◌<◌}
use mathlib.Core.Path.{◌≡◌, refl, ◌∙◌, subst}
use mathlib.Core.Bool.{Bool, true, false, ◌&&◌, false≢true}
use mathlib.Core.Logic.{inl, inr}
use mathlib.Core.List.{List, [], ◌∷◌, ◌++◌}
use native.Mathlib.Omega.{arith}
use lib.Dec.{leb, eqb}
use lib.ListN.{length, get_or}
use lib.Ieee.{Float, nan}
use borrow.Author.Tests.{leb-true, eqb-true, le-leb, eq-eqb}
use Rattle.std.specs.Prelude.{Ok}
use Rattle.std.specs.Result.{result_and}
use Rattle.case_record.specs.Layout.{header_of, is_perturbation, length_field, length_of}
use Rattle.case_record.specs.Record.{Whole}
use Rattle.case_record.proofs.Values.{below_or_from}
use Rattle.checks.specs.Checks.{Checks, all_first, envelope, first_failing}

-- of two stages
pub in_order : (a b : Checks) → first_failing (a ++ b) ≡ result_and (first_failing a) (first_failing b)
in_order [] b = refl
in_order ((refusal, true) ∷ rest) b = in_order rest b
in_order ((refusal, false) ∷ rest) b = refl

-- where no test of two stages fails, none of either does, and the other way round
pub in_front : (a b : Checks) → first_failing (a ++ b) ≡ Ok tt → (first_failing a ≡ Ok tt) × (first_failing b ≡ Ok tt)
in_front [] b e = (refl, e)
in_front ((refusal, true) ∷ rest) b e = in_front rest b e
in_front ((refusal, false) ∷ rest) b e = let z : ◌≡◌ {A = ℕ} 0 1 = cc in absurd (omega arith)

pub joined : (a b : Checks) → first_failing a ≡ Ok tt → first_failing b ≡ Ok tt → first_failing (a ++ b) ≡ Ok tt
joined a b e f = in_order a b ∙ rw (e, f)

-- ---- where no test fails, each passes
abbrev pub Passed : Checks → Type 0
Passed [] = Unit {0}
Passed ((refusal, passes) ∷ rest) = (passes ≡ true) × Passed rest

pub all_passed : (cs : Checks) → first_failing cs ≡ Ok tt → Passed cs
all_passed [] e = tt
all_passed ((refusal, true) ∷ rest) e = (refl, all_passed rest e)
all_passed ((refusal, false) ∷ rest) e = let z : ◌≡◌ {A = ℕ} 0 1 = cc in absurd (omega arith)

pub both : (a b : Bool) → a && b ≡ true → (a ≡ true) × (b ≡ true)
both true b e = (refl, e)
both false b e = absurd (false≢true e)

-- of the first n values of an array, where all of them pass
pub each_passes : (p : Float → Bool) (n : ℕ) (xs : List Float) → all_first p n xs ≡ true → (i : ℕ) → i < n → p (get_or xs i nan) ≡ true
unfolding all_first
each_passes p zero xs e i h = absurd (none i h)
  where
    none : (i : ℕ) → i < 0 → ⊥
    none i h = omega arith
each_passes p (suc n) xs e i h =
    let (before, last) = both (all_first p n xs) (p (get_or xs n nan)) e in
    elim (below_or_from i n) [
      | inl k ↦ each_passes p n xs before i k
      | inr k ↦ let z : n ≡ i = omega arith in subst (λ (j : ℕ). p (get_or xs j nan) ≡ true) z last
    ]

-- ---- what an envelope that passes says, and the other way round
pub record Enveloped (oldest newest : ℕ) (s : List ℕ) : Type 0 where
  pub long : 5 ≤ length s
  pub counted : length_field s ≡ length s - 2
  pub not_older : oldest ≤ (header_of s).version
  pub not_newer : (header_of s).version ≤ newest
  pub perturbation : is_perturbation (header_of s).perturbation ≡ true
  pub some : 1 ≤ (header_of s).n
  pub few : (header_of s).n ≤ 8
  pub sized : length_field s ≡ length_of (header_of s)

pub enveloped : (oldest newest : ℕ) (s : List ℕ) → first_failing (envelope oldest newest s) ≡ Ok tt → Enveloped oldest newest s
enveloped oldest newest s e =
    let h = header_of s in
    let (length_and_bytes, (version, (perturbation, (components, (size, _))))) = all_passed (envelope oldest newest s) e in
    let (long, counted) = both (leb 5 (length s)) (eqb (length_field s) (length s - 2)) length_and_bytes in
    let (not_older, not_newer) = both (leb oldest h.version) (leb h.version newest) version in
    let (some, few) = both (leb 1 h.n) (leb h.n 8) components in
    record {
      long = leb-true 5 (length s) long;
      counted = eqb-true (length_field s) (length s - 2) counted;
      not_older = leb-true oldest h.version not_older;
      not_newer = leb-true h.version newest not_newer;
      perturbation = perturbation;
      some = leb-true 1 h.n some;
      few = leb-true h.n 8 few;
      sized = eqb-true (length_field s) (length_of h) size;
    }

pub passes : (oldest newest : ℕ) (s : List ℕ) → Enveloped oldest newest s → first_failing (envelope oldest newest s) ≡ Ok tt
passes oldest newest s e =
    let h = header_of s in
    rw (
      le-leb 5 (length s) e.long,
      eq-eqb (length_field s) (length s - 2) e.counted,
      le-leb oldest h.version e.not_older,
      le-leb h.version newest e.not_newer,
      e.perturbation,
      le-leb 1 h.n e.some,
      le-leb h.n 8 e.few,
      eq-eqb (length_field s) (length_of h) e.sized,
    )

-- the record has all the bytes of its header
pub whole : (oldest newest : ℕ) (s : List ℕ) → first_failing (envelope oldest newest s) ≡ Ok tt → Whole s (header_of s)
whole oldest newest s p = let e = enveloped oldest newest s p in (e.few, omega (arith, e.long, e.counted, e.sized))
