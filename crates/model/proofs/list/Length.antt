-- How long a list can be: 32,715 bytes, the header and 63 lines with keys of 64 bytes.
use mathlib.Core.Path.{◌≡◌, refl, sym}
use mathlib.Core.Bool.{Bool, true, false, cond}
use mathlib.Core.List.{List, [], ◌∷◌}
use mathlib.Core.Logic.{⊎_elim}
use mathlib.Core.Option.{Option, none, some}
use Prim.Native.Nat.{ℕ, suc, ◌+◌, ◌*◌, ◌-◌, ◌/◌, ◌%◌, ◌≤◌, ◌<◌}
use native.Mathlib.Omega.{arith}
use borrow.Author.Tests.{leb-true, lt-ltb}
use lib.Dec.{ltb}
use lib.ListN.{length, length-append}
use Rattle.model.specs.declared.Refusal.{Refusal}
use Rattle.model.specs.keys.Key.{Key, max_len}
use Rattle.model.specs.keys.Order.{Element, key, max}
use Rattle.model.specs.records.Record.{Edge, edge, no_edge, elements, edges}
use Rattle.model.specs.ranges.RangePrefix.{PivotLcp}
use Rattle.model.specs.tables.Tables.{PivotTable, EdgeTable, max_pivots, all, short_element, short_edge}
use Rattle.model.specs.calls.Refusals.{Cause, number, outcome, first}
use Rattle.model.specs.list.ShelfList.{newline, header, refused_word, max_word, dash, dot, digit, decimal, hex, key_text, element_text, edge_text, slot_line, slot_lines, table_text}
use Rattle.model.specs.list.ShelfList.{list_pivots, list_edges, list_causes, refused_text, shelf_list}
use Rattle.model.proofs.Lists.{le_or_lt}
use Rattle.model.proofs.keys.Key.{both}
use Rattle.model.proofs.calls.Refusals.{refused_by, passed}
use Rattle.model.proofs.calls.TableCalls.{table_wf, table_most, table_edges_short}
use Rattle.model.proofs.tables.Routing.{wf_all_short}
use Rattle.model.proofs.tables.SlotPrefix.{range_prefix_short}

-- a key's text
pub hex_length : (k : Key) → length (hex k) ≡ 2 * length k
unfolding hex
hex_length [] = refl
hex_length (b ∷ k) = omega (arith, hex_length k)

key_length_lem : (k : Key) → length k ≤ max_len → length (key_text k) ≤ 128
unfolding key_text dash
key_length_lem [] h = omega arith
key_length_lem (b ∷ k) h = omega (arith, hex_length (b ∷ k))

element_length : (e : Element) → short_element e ≡ true → length (element_text e) ≤ 128
unfolding element_text max_word
element_length (key k) h = key_length_lem k (leb-true (length k) max_len h)
element_length max h = omega arith

edge_length : (e : Edge) → short_edge e ≡ true → length (edge_text e) ≤ 128
unfolding edge_text dash dot
edge_length (edge []) h = omega arith
edge_length (edge (b ∷ k)) h = let m = leb-true (length (b ∷ k)) max_len h in omega (arith, hex_length (b ∷ k))
edge_length no_edge h = omega arith

-- a number's text
decimal_most : (n : ℕ) → length (decimal n) ≤ 2
unfolding decimal
decimal_most n = go (ltb n 10)
  where
    go : (t : Bool) → length (cond t (digit n ∷ []) (digit (n / 10) ∷ digit (n % 10) ∷ [])) ≤ 2
    go true = omega arith
    go false = omega arith

decimal_low : (n : ℕ) → n < 10 → length (decimal n) ≤ 1
unfolding decimal
decimal_low n h = rw (lt-ltb n 10 h) (omega arith)

-- one line
line_length : (i : ℕ) (l r : Element) (e : Edge) → short_element l ≡ true → short_element r ≡ true → short_edge e ≡ true
    → length (slot_line i l r e) ≤ length (decimal i) + 517
unfolding slot_line
line_length i l r e h j k =
    let a = element_length l h in
    let b = element_length r j in
    let c = key_length_lem (PivotLcp l r) (range_prefix_short l r h) in
    let d = edge_length e k in
    simp length-append (omega arith)

-- the lines of the slots from number i on: those past the tenth have a second digit
lines_length : (i : ℕ) (l : Element) (pt : PivotTable) (et : EdgeTable) → short_element l ≡ true → all short_element pt ≡ true → all short_edge et ≡ true
    → length (slot_lines i l pt et) ≤ 518 * length pt + (length pt - (10 - i))
unfolding slot_lines all
lines_length i l [] et h j k = omega arith
lines_length i l (r ∷ pt) [] h j k = omega arith
lines_length i l (r ∷ pt) (e ∷ et) h j k =
    let a = both (short_element r) (all short_element pt) j in
    let b = both (short_edge e) (all short_edge et) k in
    let first = line_length i l r e h a.0 b.0 in
    let rest = lines_length (suc i) r pt et a.0 a.1 b.1 in
    let both-are = length-append (slot_line i l r e) (slot_lines (suc i) r pt et) in
    ⊎_elim (λ (m : 10 ≤ i). omega (arith, decimal_most i)) (λ (m : i < 10). omega (arith, decimal_low i m)) (le_or_lt 10 i)

-- a table of at most 64 pivots
table_length : (pt : PivotTable) (et : EdgeTable) → length pt ≤ max_pivots → all short_element pt ≡ true → all short_edge et ≡ true
    → length (table_text pt et) ≤ 32715
unfolding table_text header all
table_length [] et m h k = omega arith
table_length (p ∷ pt) et m h k =
    let a = both (short_element p) (all short_element pt) h in
    let n = lines_length 0 p pt et a.0 a.1 k in
    omega arith

refused_length : (r : Refusal) → length (refused_text r) ≤ 32715
unfolding refused_text refused_word
refused_length r =
    let n = length-append (decimal (number r)) (newline ∷ []) in
    omega (arith, decimal_most (number r))

-- what holds of each refusal, and of the value where no cause applies, holds of the outcome
outcome_holds : {A : Type 0} (P : A → Type 0) (f : Refusal → A) (cs : List Cause) (v : A) → ((r : Refusal) → P (f r)) → (first cs ≡ none → P v) → P (outcome f cs v)
outcome_holds P f cs v g h = go (first cs) refl
  where
    go : (o : Option Refusal) → first cs ≡ o → P (outcome f cs v)
    go none e = rw (sym (passed f v v cs e refl)) (h e)
    go (some r) e = rw (sym (refused_by f v (f r) cs r e refl)) (g r)

-- the list of any input has at most 32,715 bytes
pub list_most : (s : List ℕ) → length (shelf_list s) ≤ 32715
unfolding shelf_list list_causes
list_most s =
    outcome_holds (λ (t : List ℕ). length t ≤ 32715) refused_text (list_causes s) (table_text (elements (list_pivots s)) (edges (list_edges s))) refused_length
    (λ e. table_length (elements (list_pivots s)) (edges (list_edges s)) (table_most _ _ _ _ e) (wf_all_short _ (table_wf _ _ _ _ e)) (table_edges_short _ _ _ _ e))
