-- What stands at the front of the bytes left, and how a run goes on after a record, for any answers and the room that they need.
use Prim.Native.Nat.{ℕ, zero, suc, ◌+◌, ◌-◌, ◌*◌, ◌<◌, ◌≤◌}
use native.Mathlib.Nat.{add_assoc, add-zero, zero-add, sub-zero}
use native.Mathlib.Omega.{arith}
use mathlib.Core.Path.{◌≡◌, refl, sym, ap, ◌∙◌, subst⁻¹}
use mathlib.Core.Bool.{Bool, true, false, cond, ◌&&◌}
use mathlib.Core.List.{List, [], ◌∷◌, ◌++◌, append_assoc, append-nil}
use lib.ListN.{length, take, drop, length-append, length-drop, take-append-drop, drop_of_length-le}
use lib.Seq.{get_or-drop, length-take-le, take_at, drop_at, drop-drop, take_all}
use lib.Dec.{leb, eqb, ltb}
use borrow.Author.Tests.{le-leb, lt-leb, ne_eqb, lt-ltb, le-ltb, leb-true}
use Rattle.big_endian.specs.Bytes.{big_endian, written}
use Rattle.noddyfir.specs.Call.{call_buffer, call_code}
use Rattle.noddyfir.specs.declared.run.Run.{Run}
use Rattle.noddyfir.specs.Run.{Next, UsedUp, Broken, Whole, Outcome, after, next_of, run_from, run_of, size_of, stopped}

-- ---- the front of the bytes left
module _ (t : List ℕ) where
  pub short : 0 < length t → length t < 2 → next_of t ≡ Broken
  short p h = simp (ne_eqb (length t) 0 (λ e. omega arith), lt-leb 2 (length t) h)

  pub whole : (n : ℕ) → big_endian t 0 2 ≡ n → 2 ≤ length t → 2 + n ≤ length t → next_of t ≡ Whole (2 + n)
  whole n e p h = simp (e, ne_eqb (length t) 0 (λ z. omega arith), le-leb 2 (length t) p, le-leb (2 + n) (length t) h)

  pub past : (n : ℕ) → big_endian t 0 2 ≡ n → 2 ≤ length t → length t < 2 + n → next_of t ≡ Broken
  past n e p h = simp (e, ne_eqb (length t) 0 (λ z. omega arith), le-leb 2 (length t) p, lt-leb (2 + n) (length t) h)

pub length_at : (s : List ℕ) (at : ℕ) → big_endian (drop at s) 0 2 ≡ big_endian s at 2
unfolding big_endian
length_at s at = simp (get_or-drop, zero-add, add-zero)

pub nonempty : (s : List ℕ) → next_of s ≡ Broken → 0 < length s
nonempty [] e = let z : ◌≡◌ {A = ℕ} 0 1 = cc in omega arith
nonempty (x ∷ s) e = omega arith

is_whole : (p q r : Bool) (n : ℕ) {size : ℕ} → cond p UsedUp (cond (q && r) (Whole n) Broken) ≡ Whole size → (q ≡ true) × (r ≡ true) × (n ≡ size)
is_whole true q r n e = let z : ◌≡◌ {A = ℕ} 0 1 = cc in absurd (omega arith)
is_whole false true true n e = (refl, refl, cc)
is_whole false true false n e = let z : ◌≡◌ {A = ℕ} 0 1 = cc in absurd (omega arith)
is_whole false false r n e = let z : ◌≡◌ {A = ℕ} 0 1 = cc in absurd (omega arith)

pub whole_size : (s : List ℕ) {size : ℕ} → next_of s ≡ Whole size → (2 ≤ size) × (size ≤ length s)
whole_size s {size} e =
    let n = 2 + big_endian s 0 2 in
    let w = is_whole (eqb (length s) 0) (leb 2 (length s)) (leb n (length s)) n e in
    let h = leb-true n (length s) w.1 in
    let f : 2 + big_endian s 0 2 ≡ size = w.2 in
    (omega arith, omega arith)

pub whole_is : (s : List ℕ) {size : ℕ} → next_of s ≡ Whole size → 2 + big_endian s 0 2 ≡ size
whole_is s e = let n = 2 + big_endian s 0 2 in (is_whole (eqb (length s) 0) (leb 2 (length s)) (leb n (length s)) n e).2

-- ---- the loop of a run
after_after : (k n m l : ℕ) (a b : List ℕ) (o : Outcome) → after k n a (after m l b o) ≡ after (k + m) (n + l) (a ++ b) o
after_after k n m l a b o = simp (add_assoc, append_assoc, length-append)

module _ (room : ℕ) (answer : List ℕ → List ℕ) where
  -- after `done` records of `read` bytes, whose answers are the buffer's first `filled` bytes, what is left to do is the run of the rest
  pub record Going (s b₀ : List ℕ) (done read filled : ℕ) (b : List ℕ) : Type 0 where
    pub within : read ≤ length s
    pub fits_in : filled ≤ length b
    pub same : length b ≡ length b₀
    pub few : 2 * done ≤ read
    pub so_far : run_of room answer s b₀ ≡ after done read (take filled b) (run_from room answer (length s - done) (drop read s) (drop filled b))

  pub start : (s b : List ℕ) → Going s b 0 0 0 b
  start s b = record { within = omega arith; fits_in = omega arith; same = refl; few = omega arith; so_far = simp (zero-add, sub-zero) }

  module _ {s b₀ : List ℕ} {done read filled : ℕ} {b : List ℕ} (g : Going s b₀ done read filled b) where
    pub finish : (reason : ℕ) → run_from room answer (length s - done) (drop read s) (drop filled b) ≡ stopped reason (drop filled b)
        → (record { records = done; read = read; written = filled; reason = reason } ≡ (run_of room answer s b₀).run) × (b ≡ (run_of room answer s b₀).answers)
    finish reason e =
        let h : filled ≤ length b = g.fits_in in
        let f : run_of room answer s b₀ ≡ after done read (take filled b) (stopped reason (drop filled b)) = g.so_far ∙ ap (after done read (take filled b)) e in
        (sym (ap (λ (o : Outcome). o.run) f ∙ simp (add-zero, length-take-le filled b h)), sym (ap (λ (o : Outcome). o.answers) f ∙ take-append-drop filled b))

  -- what a run does where it stops, and at a record
  pub at_end : (turns : ℕ) (s b : List ℕ) → next_of s ≡ UsedUp → run_from room answer turns s b ≡ stopped 0 b
  unfolding run_from
  at_end zero s b e = refl
  at_end (suc turns) s b e = rw e

  pub at_broken : (turns : ℕ) (s b : List ℕ) → next_of s ≡ Broken → 0 < turns → run_from room answer turns s b ≡ stopped 2 b
  unfolding run_from
  at_broken zero s b e h = absurd (omega arith)
  at_broken (suc turns) s b e h = rw e

  at_whole : (turns : ℕ) (s b : List ℕ) {size : ℕ} → next_of s ≡ Whole size → room ≤ length b
      → let a = answer (take size s) in run_from room answer (suc turns) s b ≡ after 1 size a (run_from room answer turns (drop size s) (drop (length a) b))
  unfolding run_from
  at_whole turns s b e h = simp (e, le-ltb (length b) room h)

  pub at_full : (turns : ℕ) (s b : List ℕ) {size : ℕ} → next_of s ≡ Whole size → length b < room → 0 < turns → run_from room answer turns s b ≡ stopped 1 b
  unfolding run_from
  at_full zero s b e h p = absurd (omega arith)
  at_full (suc turns) s b e h p = simp (e, lt-ltb (length b) room h)

  module _ (fits : (r : List ℕ) → length (answer r) ≤ room) {s b₀ : List ℕ} {done read filled : ℕ} {b : List ℕ} (g : Going s b₀ done read filled b) {size : ℕ} (e : next_of (drop read s) ≡ Whole size) (h : room ≤ length (drop filled b)) where
    abbrev given : List ℕ
    given = answer (take size (drop read s))

    left : length s - done ≡ suc (length s - (done + 1))
    left =
        let w = whole_size (drop read s) e in
        let l : length (drop read s) ≡ length s - read = length-drop read s in
        let r = g.within in
        let f = g.few in
        omega arith

    pub turn : (b' : List ℕ) → b' ≡ take filled b ++ written (drop filled b) given → Going s b₀ (done + 1) (read + size) (filled + length given) b'
    turn b' f =
        let w = whole_size (drop read s) e in
        let l : length (drop read s) ≡ length s - read = length-drop read s in
        let lb : length (drop filled b) ≡ length b - filled = length-drop filled b in
        let r = g.within in
        let o = g.fits_in in
        let p = fits (take size (drop read s)) in
        let k : length (take filled b) ≡ filled = length-take-le filled b o in
        let b'' : b' ≡ (take filled b ++ given) ++ drop (length given) (drop filled b) = f ∙ sym (append_assoc (take filled b) given (drop (length given) (drop filled b))) in
        let k' : length (take filled b ++ given) ≡ filled + length given = length-append (take filled b) given ∙ ap (λ (n : ℕ). n + length given) k in
        let n : length b' ≡ length b = ap length b'' ∙ length-append (take filled b ++ given) (drop (length given) (drop filled b)) ∙ ap (λ (n : ℕ). n + length (drop (length given) (drop filled b))) k' ∙ ap (λ (n : ℕ). filled + length given + n) (length-drop (length given) (drop filled b)) ∙ omega arith in
        let q₁ : take (filled + length given) b' ≡ take filled b ++ given = ap (take (filled + length given)) b'' ∙ take_at (take filled b ++ given) (drop (length given) (drop filled b)) (filled + length given) k' in
        let q₂ : drop (filled + length given) b' ≡ drop (length given) (drop filled b) = ap (drop (filled + length given)) b'' ∙ drop_at (take filled b ++ given) (drop (length given) (drop filled b)) (filled + length given) k' in
        record {
          within = omega arith;
          fits_in = omega arith;
          same = n ∙ g.same;
          few = omega (arith, g.few);
          so_far =
              g.so_far
              ∙ ap (λ (k : ℕ). after done read (take filled b) (run_from room answer k (drop read s) (drop filled b))) left
              ∙ ap (after done read (take filled b)) (at_whole (length s - (done + 1)) (drop read s) (drop filled b) e h)
              ∙ after_after done read 1 size (take filled b) given (run_from room answer (length s - (done + 1)) (drop size (drop read s)) (drop (length given) (drop filled b)))
              ∙ rw (q₁, q₂, ← drop-drop size read s);
        }

    -- what the call leaves, at the record that it was lent and the part of the buffer
    pub again : (r : List ℕ) → r ≡ take size (drop read s) → (code : List ℕ → ℕ) → ((r : List ℕ) → length (answer r) ≡ size_of room (code r)) → (last : List ℕ) (k n : ℕ)
        → let a = take (length b - filled) (drop filled b) in (k ≡ call_code room (code r) a) × (last ≡ call_buffer room (answer r) a)
        → n ≡ size_of room k
        → Going s b₀ (done + 1) (read + size) (filled + n) (take filled b ++ (last ++ drop (length b - filled) (drop filled b)))
    again r own code counted last k n ensures sized =
        let lb : length (drop filled b) ≡ length b - filled = length-drop filled b in
        let a : take (length b - filled) (drop filled b) ≡ drop filled b = take_all (length b - filled) (drop filled b) (omega arith) in
        let z : drop (length b - filled) (drop filled b) ≡ [] = drop_of_length-le (drop filled b) {i = length b - filled} (omega arith) in
        let t : ltb (length (drop filled b)) room ≡ false = le-ltb (length (drop filled b)) room h in
        let c : k ≡ code (take size (drop read s)) = ensures.0 ∙ simp (own, a, t) refl in
        let l : last ≡ written (drop filled b) given = ensures.1 ∙ simp (own, a, t) refl in
        let k≡ : n ≡ length given = sized ∙ ap (size_of room) c ∙ sym (counted (take size (drop read s))) in
        subst⁻¹ (λ (n : ℕ). Going s b₀ (done + 1) (read + size) (filled + n) (take filled b ++ (last ++ drop (length b - filled) (drop filled b)))) k≡
        (turn (take filled b ++ (last ++ drop (length b - filled) (drop filled b))) (rw (z, append-nil, l)))

  -- a run that stops for space, though it had room for an answer, has read a record
  moves : (turns : ℕ) (s b : List ℕ) (n : Next) → next_of s ≡ n → room ≤ length b → (run_from room answer turns s b).run.reason ≡ 1 → 0 < (run_from room answer turns s b).run.read
  unfolding run_from
  moves zero s b n e h f = absurd (omega arith)
  moves (suc turns) s b UsedUp e h f = absurd (omega (arith, rw e at f))
  moves (suc turns) s b Broken e h f = absurd (omega (arith, rw e at f))
  moves (suc turns) s b (Whole size) e h f =
      let w = whole_size s e in
      let q = ap (λ (o : Outcome). o.run.read) (at_whole turns s b e h) in
      omega arith

  pub progress : (s b : List ℕ) (r : Run) → r ≡ (run_of room answer s b).run → r.reason ≡ 1 → room ≤ length b → 0 < r.read
  progress s b r e f h = rw e (moves (length s) s b (next_of s) refl h (ap (λ (r : Run). r.reason) (sym e) ∙ f))

  -- the turns are not used up while bytes are left
  pub turns_left : {s b₀ : List ℕ} {done read filled : ℕ} {b : List ℕ} → Going s b₀ done read filled b → 0 < length (drop read s) → 0 < length s - done
  turns_left {s} {b₀} {done} {read} g h = let l = length-drop read s in omega arith
