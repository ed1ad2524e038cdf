-- The pass over the pivots but the last: does each begin with the prefix, and is none too long once it is changed?
use Rattle.std.specs.Prelude.{Ok, Err}
use mathlib.Core.Path.{◌≡◌, refl, ◌∙◌}
use mathlib.Core.Bool.{Bool, true, false, not, ◌&&◌, and_assoc}
use mathlib.Core.List.{List, [], ◌∷◌, map}
use mathlib.Core.Logic.{⊎_elim}
use Prim.Native.Nat.{ℕ, ◌+◌, ◌-◌, ◌/◌, ◌≤◌, ◌<◌}
use native.Mathlib.Numerals.{add-one}
use native.Mathlib.Omega.{arith}
use borrow.Author.Tests.{not-true, not-false, le-leb, lt-leb}
use lib.Dec.{leb}
use lib.ListN.{length, drop, get_or, drop_of_length-le}
use lib.Seq.{drop-cons, get_or-take, length-take-le}
use Rattle.model.specs.declared.Refusal.TheVariants.{NotPrefix, TooLong}
use Rattle.model.specs.keys.Key.{Key, max_len, IsPrefix, change_prefix}
use Rattle.model.specs.keys.Order.{key, max}
use Rattle.model.specs.records.Record.{key_bytes, elements}
use Rattle.model.specs.inner.Places.{record_at}
use Rattle.model.specs.tables.Tables.{all, short_element, WFPivots}
use Rattle.model.specs.translation.Renaming.{TranslateElement}
use Rattle.model.specs.calls.Refusals.{answer}
use Rattle.model.specs.calls.RenamingCalls.{but_last, begun}
use Rattle.model.proofs.Lists.{le_or_lt}
use Rattle.model.proofs.keys.Key.{length_change}
use Rattle.model.proofs.tables.Routing.{wf_count}
use Rattle.model.proofs.calls.Refusals.{here, later, done}
use Rattle.model.proofs.calls.TableCalls.{length_elements}
use Rattle.model.proofs.calls.PivotKeys.{key_at}
use Rattle.changed_pivots.specs.Renamed.{changed_pivots, changeable_causes}

-- ---- the pivots but the last

module _ (v : List ℕ) (wf : WFPivots (elements v) ≡ true) where
  -- there is one fewer
  pub but_count : length (but_last (elements v)) ≡ length v / 66 - 1
  but_count = length-take-le (length (elements v) - 1) (elements v) (omega arith) ∙ rw (length_elements v)

  -- each is the key of its record
  pub but_at : (i : ℕ) → i + 1 < length v / 66 → get_or (but_last (elements v)) i max ≡ key (key_bytes (record_at v i))
  but_at i h = get_or-take (length (elements v) - 1) (elements v) i max (omega (arith, length_elements v)) ∙ key_at v wf i h

-- a changed key has at most 64 bytes where the key has no more than the prefixes leave room for
changed_fits : (p q k : Key) → length q ≤ 64 → leb (length (change_prefix p q k)) max_len ≡ leb (length k) (64 - length q + length p)
changed_fits p q k h =
    let e = length_change p q k in
    let n = length (change_prefix p q k) in
    ⊎_elim (λ (m : length k ≤ 64 - length q + length p). rw (le-leb (length k) (64 - length q + length p) m) (le-leb n max_len (omega arith)))
    (λ (m : 64 - length q + length p < length k). rw (lt-leb (length k) (64 - length q + length p) m) (lt-leb n max_len (omega arith)))
    (le_or_lt (length k) (64 - length q + length p))

-- ---- the pass

-- all begin, and all are short, if those from i on do and are, and the keys before i fit
pub record Passing (v p q : List ℕ) (fit : Bool) (i : ℕ) : Type 0 where
  pub wf : WFPivots (elements v) ≡ true
  pub room : length q ≤ 64
  pub within : i + 1 ≤ length v / 66
  pub begin : all (begun p) (but_last (elements v)) ≡ all (begun p) (drop i (but_last (elements v)))
  pub short : all short_element (changed_pivots v p q) ≡ (fit && all short_element (map (TranslateElement p q) (drop i (but_last (elements v)))))

module _ (v p q : List ℕ) where
  -- there is a pivot
  pub some_pivot : WFPivots (elements v) ≡ true → 1 ≤ length v / 66
  some_pivot wf = omega (arith, wf_count (elements v) wf, length_elements v)

  -- before the first key
  pub pass_start : WFPivots (elements v) ≡ true → length q ≤ 64 → Passing v p q true 0
  pass_start wf h = record { wf = wf; room = h; within = some_pivot wf; begin = refl; short = refl }

  module _ (fit : Bool) (i : ℕ) (w : Passing v p q fit i) where
    module _ (a k : List ℕ) (t : Bool) (before : i < length v / 66 - 1) (f : a ≡ record_at v i) (g : k ≡ key_bytes a) (e : t ≡ IsPrefix p k) where
      m : i + 1 < length v / 66
      m = omega arith

      -- what is left begins with the key at the place
      here_key : drop i (but_last (elements v)) ≡ key k ∷ drop (i + 1) (but_last (elements v))
      here_key = rw (add-one, g, f, ← but_at v w.wf i m) (drop-cons (but_last (elements v)) i max (omega (arith, but_count v w.wf)))

      -- it decides with those after it whether all begin
      begin_on : all (begun p) (but_last (elements v)) ≡ (t && all (begun p) (drop (i + 1) (but_last (elements v))))
      unfolding all
      begin_on = w.begin ∙ rw (here_key, e)

      -- and with the others whether all are short
      short_on : all short_element (changed_pivots v p q)
          ≡ ((fit && leb (length k) (64 - length q + length p)) && all short_element (map (TranslateElement p q) (drop (i + 1) (but_last (elements v)))))
      unfolding all TranslateElement
      short_on = w.short ∙ rw (here_key, changed_fits p q k w.room, and_assoc)

      -- a key that lacks the prefix is refused
      pub not_begun : (n : ℕ) → not t ≡ true → Err NotPrefix ≡ answer (changeable_causes v p q) n
      not_begun n h = here Err _ _ _ NotPrefix _ (rw (begin_on, not-true t h)) refl

      -- one that has it is passed
      pub pass_next : (u : Bool) → not t ≡ false → u ≡ (fit && leb (length k) (64 - length q + length p)) → Passing v p q u (i + 1)
      pass_next u h j = record { wf = w.wf; room = w.room; within = omega arith; begin = begin_on ∙ rw (not-false t h); short = short_on ∙ rw j }

    module _ (m : length v / 66 - 1 ≤ i) (n : ℕ) where
      -- after the last key nothing is left
      none_left : drop i (but_last (elements v)) ≡ []
      none_left =
          let h : length (but_last (elements v)) ≤ i = omega (arith, but_count v w.wf) in
          drop_of_length-le (but_last (elements v)) h

      -- so all begin
      all_begin : not (all (begun p) (but_last (elements v))) ≡ false
      unfolding all
      all_begin = rw (w.begin, none_left)

      -- and all are short where the keys fit
      all_short : all short_element (changed_pivots v p q) ≡ (fit && true)
      unfolding all
      all_short = rw (w.short, none_left)

      -- a key that did not fit is refused
      pub pass_long : not fit ≡ true → Err TooLong ≡ answer (changeable_causes v p q) n
      pass_long h = later Err _ _ _ NotPrefix _ all_begin (here Err _ _ _ TooLong _ (rw (all_short, not-true fit h)) refl)

      -- else neither cause applies
      pub pass_done : not fit ≡ false → Ok n ≡ answer (changeable_causes v p q) n
      pass_done h = later Err _ _ _ NotPrefix _ all_begin (later Err _ _ _ TooLong _ (rw (all_short, not-false fit h)) (done Err _ _ refl))

-- ---- one key more

module _ (fit : Bool) (n most : ℕ) where
  -- where all fit so far, the next decides
  pub fit_here : fit ≡ true → leb n most ≡ (fit && leb n most)
  fit_here h = rw h

  -- where one did not, nothing changes it
  pub fit_before : fit ≡ false → false ≡ (fit && leb n most)
  fit_before h = rw h
