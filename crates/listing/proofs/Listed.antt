-- The text that a check calls for is the list, and what the call leaves of it.
use Rattle.std.specs.Prelude.{Result, Ok, Err}
use mathlib.Core.Path.{◌≡◌, refl, sym, ap, ◌∙◌}
use mathlib.Core.Bool.{false}
use mathlib.Core.List.{List, [], ◌∷◌, ◌++◌, append_assoc, append-nil}
use mathlib.Core.Option.{Option, none, some}
use Prim.Native.Nat.{ℕ, zero, suc, ◌+◌, ◌-◌, ◌/◌, ◌≤◌, ◌<◌, min}
use native.Mathlib.Numerals.{add-one}
use native.Mathlib.Omega.{arith}
use borrow.Author.Tests.{lt-ltb, le-ltb}
use borrow.Rule.Slice.PartMut.{put_mid}
use lib.ListN.{length, take, drop, drop_of_length-le}
use lib.Seq.{drop-cons}
use Rattle.model.specs.declared.Refusal.{Refusal}
use Rattle.model.specs.declared.Refusal.TheVariants.{Shape, Malformed, Unsorted, EmptyPrefix, OutOfRange, NoSuchSlot, NotPrefix, TooLong, NotBelow, NoRoom, AlreadyPivot, TooManyPivots, NotMeeting, EntriesUnsorted, WrongIndex}
use Rattle.model.specs.keys.Order.{max}
use Rattle.model.specs.records.Record.{no_edge, record_size, elements, edges}
use Rattle.model.specs.tables.Tables.{PivotTable, EdgeTable, pivot_at, edge_at}
use Rattle.model.specs.calls.Refusals.{number, first, answer, over}
use Rattle.model.specs.inner.Written.{into}
use Rattle.model.specs.list.ShelfList.{newline, header, decimal, refused_word, slot_line, slot_lines, table_text, refused_text}
use Rattle.model.specs.list.ShelfList.{list_pivots, list_edges, not_list_size, list_causes, shelf_list, list_table_answer, list_table_leaves}
use Rattle.model.proofs.calls.Refusals.{here, later, done, value_done, passed, refused_by}
use Rattle.model.proofs.Lists.{into_over}
use Rattle.model.proofs.calls.TableCalls.{length_elements, element_at, edge_at_lem, table_count, table_most, length_edges}
use Rattle.digits.specs.Field.{field}
use Rattle.list_lines.specs.Lines.{line_at, lines_to, text_of}
use Rattle.listing.specs.Text.{count_of, found_text}
use Rattle.list_fields.proofs.Texts.{both_length, both_written}

-- ---- a table that is refused

pub number_small : (r : Refusal) (n : ℕ) → n ≡ number r → n < 100
number_small Shape n e = omega arith
number_small Malformed n e = omega arith
number_small Unsorted n e = omega arith
number_small EmptyPrefix n e = omega arith
number_small OutOfRange n e = omega arith
number_small NoSuchSlot n e = omega arith
number_small NotPrefix n e = omega arith
number_small TooLong n e = omega arith
number_small NotBelow n e = omega arith
number_small NoRoom n e = omega arith
number_small AlreadyPivot n e = omega arith
number_small TooManyPivots n e = omega arith
number_small NotMeeting n e = omega arith
number_small EntriesUnsorted n e = omega arith
number_small WrongIndex n e = omega arith

-- its first field
abbrev refused_field : List ℕ
refused_field = 0x72 ∷ 0x65 ∷ 0x66 ∷ 0x75 ∷ 0x73 ∷ 0x65 ∷ 0x64 ∷ 0x09 ∷ []

module _ (r : Refusal) (x : ℕ) (e : x ≡ number r) where
  refused_is : refused_field ++ field (decimal x) newline ≡ refused_text r
  unfolding refused_text refused_word field
  refused_is = rw e

  pub refused_length : (m : ℕ) → m ≡ length (field (decimal x) newline) → 8 + m ≡ length (refused_text r)
  refused_length m l = both_length 8 m refused_field (field (decimal x) newline) refl l ∙ ap length refused_is

  pub refused_written : (at : ℕ) (d v w : List ℕ) → v ≡ into refused_field d → at ≡ min 8 (length v)
      → w ≡ into (field (decimal x) newline) (take (length v - at) (drop at v)) → put_mid at (length v - at) v w ≡ into (refused_text r) d
  refused_written at d v w ev em ew =
      both_written 8 at refused_field (field (decimal x) newline) d v w refl ev em ew ∙ ap (λ (t : List ℕ). into t d) refused_is

-- ---- the text by what was found

module _ (f : Result ℕ Refusal) (p e : List ℕ) where
  -- all the pivots of a table are listed
  listed : (n : ℕ) → f ≡ Ok n → count_of f ≤ 64 → text_of p e n ≡ found_text f p e
  unfolding text_of found_text
  listed n h k = let l : n ≤ 64 = rw h at k in let m : min n 64 ≡ n = omega arith in rw (h, m)

  pub value_length : (n m : ℕ) → f ≡ Ok n → count_of f ≤ 64 → m ≡ length (text_of p e n) → m ≡ length (found_text f p e)
  value_length n m h k g = g ∙ ap length (listed n h k)

  pub value_written : (n : ℕ) (d w : List ℕ) → f ≡ Ok n → count_of f ≤ 64 → w ≡ into (text_of p e n) d → w ≡ into (found_text f p e) d
  value_written n d w h k g = g ∙ ap (λ (t : List ℕ). into t d) (listed n h k)

  pub refusal_length : (r : Refusal) (m : ℕ) → f ≡ Err r → m ≡ length (refused_text r) → m ≡ length (found_text f p e)
  unfolding found_text
  refusal_length r m h k = rw h k

  pub refusal_written : (r : Refusal) (d w : List ℕ) → f ≡ Err r → w ≡ into (refused_text r) d → w ≡ into (found_text f p e) d
  unfolding found_text
  refusal_written r d w h k = rw h k

-- ---- the lines of all slots

-- a table's text by its first pivot and those after it
from_first : (pt : PivotTable) (et : EdgeTable) → 0 < length pt → header ++ slot_lines 0 (pivot_at pt 0) (drop 1 pt) et ≡ table_text pt et
unfolding table_text
from_first [] et h = absurd (omega arith)
from_first (p ∷ pt) et h = refl

module _ (p e : List ℕ) (slots : ℕ) (h : length (edges e) ≡ slots) (k : length (elements p) ≡ slots + 1) where
  -- the line at a place is that of the table's slot
  line_of : (i : ℕ) → i < slots → line_at p e i ≡ slot_line i (pivot_at (elements p) i) (pivot_at (elements p) (suc i)) (edge_at (edges e) i)
  unfolding line_at
  line_of i l =
      let a = length_elements p in
      let b = length_edges e in
      rw (add-one, element_at p i (omega arith), element_at p (suc i) (omega arith), edge_at_lem e i (omega arith))

  -- the lines up to a slot, followed by those from it on, are all of them
  in_turn_lem : (i : ℕ) → i ≤ slots
      → lines_to p e i ++ slot_lines i (pivot_at (elements p) i) (drop (suc i) (elements p)) (drop i (edges e))
      ≡ slot_lines 0 (pivot_at (elements p) 0) (drop 1 (elements p)) (edges e)
  unfolding lines_to slot_lines
  in_turn_lem zero l = refl
  in_turn_lem (suc i) l =
      let a : suc i < length (elements p) = omega arith in
      let b : i < length (edges e) = omega arith in
      rw (append_assoc, line_of i (omega arith)) (rw (drop-cons (elements p) (suc i) max a, drop-cons (edges e) i no_edge b) at (in_turn_lem i (omega arith)))

  to_the_end : lines_to p e slots ≡ slot_lines 0 (pivot_at (elements p) 0) (drop 1 (elements p)) (edges e)
  unfolding slot_lines
  to_the_end =
      let l : length (elements p) ≤ suc slots = omega arith in
      let z : drop (suc slots) (elements p) ≡ [] = drop_of_length-le (elements p) l in
      rw (z, append-nil) at (in_turn_lem slots (omega arith))

  pub all_lines : header ++ lines_to p e slots ≡ table_text (elements p) (edges e)
  all_lines = rw to_the_end (from_first (elements p) (edges e) (omega arith))

-- ---- the text that a check calls for

module _ (s : List ℕ) (f : Result ℕ Refusal) (e : f ≡ answer (list_causes s) (length (list_pivots s) / record_size)) where
  -- of a table that is not refused
  module _ (h : first (list_causes s) ≡ none) where
    accepted_is : f ≡ Ok (length (list_pivots s) / record_size)
    accepted_is = e ∙ sym (passed Err _ _ (list_causes s) h refl)

    table_is : header ++ lines_to (list_pivots s) (list_edges s) (length (list_pivots s) / record_size - 1) ≡ shelf_list s
    unfolding shelf_list list_causes
    table_is =
        let a = table_count (not_list_size s) false (list_pivots s) (list_edges s) h in
        let b = length_elements (list_pivots s) in
        passed refused_text _ _ (list_causes s) h (all_lines (list_pivots s) (list_edges s) (length (list_pivots s) / record_size - 1) (omega arith) (omega arith))

    most : length (list_pivots s) / record_size ≤ 64
    unfolding list_causes
    most = rw (← length_elements (list_pivots s)) (table_most (not_list_size s) false (list_pivots s) (list_edges s) h)

  found_is : found_text f (list_pivots s) (list_edges s) ≡ shelf_list s
  unfolding found_text
  found_is = go (first (list_causes s)) refl
    where
      go : (o : Option Refusal) → first (list_causes s) ≡ o → found_text f (list_pivots s) (list_edges s) ≡ shelf_list s
      go none h = rw (accepted_is h) (table_is h)
      go (some r) h = rw (e ∙ sym (refused_by Err _ _ (list_causes s) r h refl)) (unfold shelf_list in refused_by refused_text _ _ (list_causes s) r h refl)

  pub found_count : count_of f ≤ 64
  found_count = go (first (list_causes s)) refl
    where
      go : (o : Option Refusal) → first (list_causes s) ≡ o → count_of f ≤ 64
      go none h = rw (accepted_is h) (most h)
      go (some r) h = rw (e ∙ sym (refused_by Err _ _ (list_causes s) r h refl)) (omega arith)

-- ---- the call: the text is measured where there is no room, and then written

module _ (s d p e w : List ℕ) (f : Result ℕ Refusal) (n : ℕ) (ep : p ≡ list_pivots s) (ee : e ≡ list_edges s)
    (ef : f ≡ answer (list_causes s) (length (list_pivots s) / record_size)) (l : n ≡ length (found_text f p e)) (m : w ≡ into (found_text f p e) [])
  where
    text_is : found_text f p e ≡ shelf_list s
    text_is = rw (ep, ee) (found_is s f ef)

    measured : n ≡ length (shelf_list s)
    measured = l ∙ ap length text_is

    -- measuring writes nothing
    untouched : w ++ d ≡ d
    unfolding into over
    untouched = rw m

    pub no_room_answer : length (w ++ d) < n → Err NoRoom ≡ list_table_answer s d
    no_room_answer h = here Err _ _ _ NoRoom [] (lt-ltb _ _ (rw (untouched, measured) at h)) refl

    pub no_room_leaves : length (w ++ d) < n → w ++ d ≡ list_table_leaves s d
    no_room_leaves h = here (λ (r : Refusal). d) _ _ _ NoRoom [] (lt-ltb _ _ (rw (untouched, measured) at h)) untouched

    pub room_answer : n ≤ length (w ++ d) → Ok n ≡ list_table_answer s d
    room_answer h = later Err _ _ _ NoRoom [] (le-ltb _ _ (rw (untouched, measured) at h)) (value_done Err n _ measured)

    pub room_leaves : (v : List ℕ) → n ≤ length (w ++ d) → v ≡ into (found_text f p e) (w ++ d) → v ≡ list_table_leaves s d
    room_leaves v h g =
        let k : length (shelf_list s) ≤ length d = rw (untouched, measured) at h in
        later (λ (r : Refusal). d) _ _ _ NoRoom [] (le-ltb _ _ k)
        (done (λ (r : Refusal). d) _ _ (g ∙ rw (untouched, text_is) (into_over (shelf_list s) d k)))
