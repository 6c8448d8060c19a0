use Rattle.std.proofs.Common.{◌≡◌, ℕ, ◌<◌, ◌⊎◌, inl, inr, ◌∙◌, sym, subst, eq-or-lt_of_le}
use Rattle.uvtheory.specs.Parameters.{combined}
use Rattle.uvtheory.specs.Rows.{row}
use Rattle.uvtheory.proofs.Combined.{itself, below, flip}
use Rattle.uvtheory.proofs.parameters.by_rule.Goals as goal

pub returns : goal.returns
returns g c = λ f given.
    let pure = row g.D.DualNum.arithmetic c.args.pure.now in
    let value : (i j : ℕ) (r : _) → j < c.args.n → (i ≡ j → r ≡ pure i) → (i < j → goal.F-post g c.args.rule i j r) → (i ≡ j) ⊎ (i < j) → r ≡ combined pure f i j =
    λ i j r inside same pair. elim [
      | inl e ↦ subst (λ (x : ℕ). r ≡ combined pure f i x) e (same e ∙ sym (itself pure f i))
      | inr l ↦ given i j r l inside (pair l) ∙ sym (below pure f i j l)
    ] in
    c.symmetric.ensures (combined pure f) (λ i j r le inside post. value i j r inside post.0 post.1 (eq-or-lt_of_le le)) (flip pure f)
