-- "One record's answer depends on its own bytes alone": of every run, and, where there is room, of a run of whole records.
use Prim.Native.Nat.{ℕ, zero, suc, ◌+◌, ◌<◌, ◌≤◌}
use native.Mathlib.Omega.{arith}
use native.Mathlib.Numerals.{one-add}
use mathlib.Core.Path.{◌≡◌, refl, sym, ap, ◌∙◌}
use mathlib.Core.Bool.{Bool, true, false}
use mathlib.Core.List.{List, [], ◌∷◌, ◌++◌, map, append_assoc}
use lib.ListN.{length, take, drop, length-append, take-append-drop, get_or-append}
use lib.Seq.{length-take-le, take-append_seam, drop-append_seam, drop-drop}
use lib.Dec.{eqb, ltb}
use borrow.Author.Tests.{le-leb, ne_eqb, le-ltb}
use Rattle.big_endian.specs.Bytes.{big_endian, written}
use Rattle.calls.specs.declared.kinds.Kind.{Kind}
use Rattle.noddyfir.specs.Call.{answer_to, call_buffer, room_of}
use Rattle.noddyfir.specs.Run.{Next, UsedUp, Broken, Whole, Outcome, after, next_of, run_from, run_of, stopped}
use Rattle.noddyfir.specs.Apart.{Answered, Apart, Record, Records, joined, place_after}
use Rattle.noddyfir.proofs.Running.{whole_is, whole_size}

-- ---- a record at the front of the bytes left
front : (r t : List ℕ) → 2 ≤ length r → big_endian (r ++ t) 0 2 ≡ big_endian r 0 2
unfolding big_endian
front r t h = let h0 : 0 < length r = omega arith in let h1 : 1 < length r = omega arith in rw (get_or-append r t 0 0 h0, get_or-append r t 0 1 h1)

next : (r t : List ℕ) → Record r → next_of (r ++ t) ≡ Whole (length r)
next r t (h, e) =
    let l : length (r ++ t) ≡ length r + length t = length-append r t in
    let f : 2 + big_endian (r ++ t) 0 2 ≡ length r = ap (λ (n : ℕ). 2 + n) (front r t h) ∙ e in
    let z : eqb (length (r ++ t)) 0 ≡ false = ne_eqb (length (r ++ t)) 0 (λ z. omega arith) in
    simp (z, f, le-leb 2 (length (r ++ t)) (omega arith), le-leb (length r) (length (r ++ t)) (omega arith))

-- what is read of a whole record is one
is_record : (s : List ℕ) {size : ℕ} → next_of s ≡ Whole size → Record (take size s)
is_record s {size} e =
    let w = whole_size s e in
    let l : length (take size s) ≡ size = length-take-le size s w.1 in
    let h : 2 ≤ length (take size s) = omega (arith, w.0) in
    let f : big_endian s 0 2 ≡ big_endian (take size s) 0 2 = ap (λ (t : List ℕ). big_endian t 0 2) (sym (take-append-drop size s)) ∙ front (take size s) (drop size s) h in
    (h, ap (λ (n : ℕ). 2 + n) (sym f) ∙ whole_is s e ∙ sym l)

map_append : (f : List ℕ → List ℕ) (xs ys : List (List ℕ)) → joined (map f (xs ++ ys)) ≡ joined (map f xs) ++ joined (map f ys)
map_append f [] ys = refl
map_append f (x ∷ xs) ys = simp (map_append f xs ys, append_assoc)

module _ (room : ℕ) (answer : List ℕ → List ℕ) where
  -- ---- of every run
  none : (s b : List ℕ) (reason : ℕ) → Answered answer s b (stopped reason b)
  none s b reason = record { records = []; unread = s; whole = tt; input = refl; done = refl; read = refl; filled = refl; answers = refl }

  one_more : (s b : List ℕ) {size : ℕ} (o : Outcome) → next_of s ≡ Whole size → Answered answer (drop size s) (drop (length (answer (take size s))) b) o
      → Answered answer s b (after 1 size (answer (take size s)) o)
  one_more s b {size} o e i =
      let a = answer (take size s) in
      let l : length (take size s) ≡ size = length-take-le size s (whole_size s e).1 in
      record {
        records = take size s ∷ i.records;
        unread = i.unread;
        whole = (is_record s e, i.whole);
        input = sym (take-append-drop size s) ∙ ap (λ (t : List ℕ). take size s ++ t) i.input ∙ sym (append_assoc (take size s) (joined i.records) i.unread);
        done = ap (λ (n : ℕ). 1 + n) i.done ∙ one-add (length i.records);
        read = ap (λ (n : ℕ). size + n) i.read ∙ ap (λ (n : ℕ). n + length (joined i.records)) (sym l) ∙ sym (length-append (take size s) (joined i.records));
        filled = ap (λ (n : ℕ). length a + n) i.filled ∙ sym (length-append a (joined (map answer i.records)));
        answers = ap (λ (t : List ℕ). a ++ t) i.answers ∙ simp (append_assoc, length-append, drop-drop);
      }

  by_next : (turns : ℕ) → ((s b : List ℕ) → Answered answer s b (run_from room answer turns s b))
      → (s b : List ℕ) (n : Next) (full : Bool) → next_of s ≡ n → ltb (length b) room ≡ full → Answered answer s b (run_from room answer (suc turns) s b)
  unfolding run_from
  by_next turns ih s b UsedUp full e f = rw e (none s b 0)
  by_next turns ih s b Broken full e f = rw e (none s b 2)
  by_next turns ih s b (Whole size) true e f = rw (e, f) (none s b 1)
  by_next turns ih s b (Whole size) false e f =
      let b' = drop (length (answer (take size s))) b in
      rw (e, f) (one_more s b (run_from room answer turns (drop size s) b') e (ih (drop size s) b'))

  answered : (turns : ℕ) (s b : List ℕ) → Answered answer s b (run_from room answer turns s b)
  unfolding run_from
  answered zero s b = none s b 0
  answered (suc turns) s b = by_next turns (answered turns) s b (next_of s) (ltb (length b) room) refl refl

  -- an answer between others, and the same answer alone
  between : (before after : List (List ℕ)) (r rest : List ℕ)
      → take (length (answer r)) (drop (place_after answer before) (joined (map answer (before ++ r ∷ after)) ++ rest)) ≡ answer r
  between before after r rest =
      simp (map_append answer before (r ∷ after), append_assoc, drop-append_seam, take-append_seam) refl

  alone_is : (r alone : List ℕ) → room ≤ length alone → take (length (answer r)) (call_buffer room (answer r) alone) ≡ answer r
  alone_is r alone h = simp (le-ltb (length alone) room h, take-append_seam) refl

  every_run : (s b : List ℕ) → Apart room answer s b (run_of room answer s b)
  every_run s b =
      let i = answered (length s) s b in
      record {
        answered = i;
        own = λ before after r e alone h.
            ap (λ (t : List ℕ). take (length (answer r)) (drop (place_after answer before) t)) (i.answers ∙ ap (λ (rs : List (List ℕ)). written b (joined (map answer rs))) e)
            ∙ between before after r (drop (length (joined (map answer (before ++ r ∷ after)))) b)
            ∙ sym (alone_is r alone h);
      }

  -- ---- of a run of whole records, where there is room: they are the records read, and the run reads them all
  -- each answer, while at least `room` bytes are left
  abbrev pub Room : List (List ℕ) → List ℕ → Type 0
  Room [] buffer = Unit {0}
  Room (r ∷ rs) buffer = (room ≤ length buffer) × Room rs (drop (length (answer r)) buffer)

  turns : (rs : List (List ℕ)) (n : ℕ) (buffer : List ℕ) → length rs ≤ n → Records rs → Room rs buffer
      → run_from room answer n (joined rs) buffer
      ≡ record {
        run = record { records = length rs; read = length (joined rs); written = length (joined (map answer rs)); reason = 0 };
        answers = written buffer (joined (map answer rs));
      }
  unfolding run_from
  turns [] zero buffer h w m = refl
  turns [] (suc n) buffer h w m = refl
  turns (r ∷ rs) zero buffer h w m = absurd (omega arith)
  turns (r ∷ rs) (suc n) buffer h (w, ws) (m, ms) =
      let ih = turns rs n (drop (length (answer r)) buffer) (omega arith) ws ms in
      rw (next r (joined rs) w) (simp (le-ltb (length buffer) room m, take-append_seam, drop-append_seam, ih, length-append, append_assoc, drop-drop, one-add))

  few : (rs : List (List ℕ)) → Records rs → length rs ≤ length (joined rs)
  few [] w = omega arith
  few (r ∷ rs) (w, ws) = let h = few rs ws in let l = length-append r (joined rs) in omega arith

  pub apart : (rs : List (List ℕ)) (buffer : List ℕ) → Records rs → Room rs buffer
      → run_of room answer (joined rs) buffer
      ≡ record {
        run = record { records = length rs; read = length (joined rs); written = length (joined (map answer rs)); reason = 0 };
        answers = written buffer (joined (map answer rs));
      }
  apart rs buffer w m = turns rs (length (joined rs)) buffer (few rs w) w m

-- ---- of the runs of every kind
pub runs_apart : (kind : Kind) (s buffer : List ℕ) → Apart (room_of kind) (answer_to kind) s buffer (run_of (room_of kind) (answer_to kind) s buffer)
runs_apart kind = every_run (room_of kind) (answer_to kind)

pub whole_records : (kind : Kind) (rs : List (List ℕ)) (buffer : List ℕ) → Records rs → Room (room_of kind) (answer_to kind) rs buffer
    → run_of (room_of kind) (answer_to kind) (joined rs) buffer
    ≡ record {
      run = record { records = length rs; read = length (joined rs); written = length (joined (map (answer_to kind) rs)); reason = 0 };
      answers = written buffer (joined (map (answer_to kind) rs));
    }
whole_records kind = apart (room_of kind) (answer_to kind)
