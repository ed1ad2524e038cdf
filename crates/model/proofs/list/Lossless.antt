-- The list loses nothing: well-formed tables with the same list have the same pivots and edges, and where two inputs have the same list and one of them is a table, they are the same bytes.
use Rattle.std.specs.Prelude.{Ok}
use mathlib.Core.Path.{◌≡◌, refl, sym, ap, ◌∙◌}
use mathlib.Core.Bool.{true, false, false≢true}
use mathlib.Core.List.{List, [], ◌∷◌, ◌++◌}
use mathlib.Core.Option.{Option, none, some}
use Prim.Native.Nat.{ℕ, suc, ◌+◌, ◌*◌, ◌-◌, ◌/◌, ◌%◌, ◌≤◌}
use native.Mathlib.Omega.{arith}
use borrow.Author.Tests.{eqb-true, not-false}
use lib.Dec.{eqb}
use lib.ListN.{length, take, drop, length-append, take-append-drop}
use lib.Seq.{length-take-le, drop-append_seam}
use Rattle.model.specs.declared.Refusal.{Refusal}
use Rattle.model.specs.keys.Key.{Bytes}
use Rattle.model.specs.keys.Order.{Element}
use Rattle.model.specs.records.Record.{Edge, record_size, length_field, elements, edges, encode_all, encode_edges}
use Rattle.model.specs.tables.Tables.{PivotTable, EdgeTable, WFPivots, WFEdges, edges_fit}
use Rattle.model.specs.calls.Refusals.{first, over}
use Rattle.model.specs.calls.TableCalls.{not_edge_count, table_causes}
use Rattle.model.specs.list.ShelfList.{tab, header, refused_word, decimal, slot_line, slot_lines, table_text}
use Rattle.model.specs.list.ShelfList.{list_count, list_pivots, list_edges, not_list_size, list_causes, refused_text, shelf_list, list_table_causes, list_table_answer, list_table_leaves}
use Rattle.model.proofs.Lists.{take_over, two_more}
use Rattle.model.proofs.keys.Key.{both, bytes_take, bytes_drop}
use Rattle.model.proofs.tables.Routing.{wf_count}
use Rattle.model.proofs.calls.Refusals.{accepted, value_is, passed, refused_by}
use Rattle.model.proofs.calls.TableCalls.{either_fails, causes_shape, length_elements, table_pivots, table_wf, table_edges, table_encode, table_encode_edges}
use Rattle.model.proofs.list.Fields.{head_is, behind, line_is, line_tells}

-- ---- tables

-- a line is not nothing
line_some : (i : ℕ) (l r : Element) (e : Edge) (x : List ℕ) → slot_line i l r e ++ x ≡ [] → ⊥
line_some i l r e x h =
    let z : length (slot_line i l r e ++ x) ≡ 0 = ap length h in
    let w = ap length (line_is i l r e x) in
    omega (arith, length-append (decimal i) (tab ∷ behind l r e x))

-- the lines of the slots from pivot l on tell the pivots after it and the edges, and where there is a slot they tell l
lines_tell : (i : ℕ) (l l' : Element) (pt : PivotTable) (et : EdgeTable) (pt' : PivotTable) (et' : EdgeTable) → length et ≡ length pt → length et' ≡ length pt'
    → slot_lines i l pt et ≡ slot_lines i l' pt' et' → (1 ≤ length pt → l ≡ l') × (pt ≡ pt') × (et ≡ et')
unfolding slot_lines
lines_tell i l l' [] [] [] [] n n' h = (λ (m : 1 ≤ 0). absurd (omega arith), refl, refl)
lines_tell i l l' [] [] [] (e' ∷ et') n n' h = absurd (omega arith)
lines_tell i l l' [] [] (r' ∷ pt') [] n n' h = absurd (omega arith)
lines_tell i l l' [] [] (r' ∷ pt') (e' ∷ et') n n' h = absurd (line_some i l' r' e' _ (sym h))
lines_tell i l l' [] (e ∷ et) pt' et' n n' h = absurd (omega arith)
lines_tell i l l' (r ∷ pt) [] pt' et' n n' h = absurd (omega arith)
lines_tell i l l' (r ∷ pt) (e ∷ et) [] [] n n' h = absurd (line_some i l r e _ h)
lines_tell i l l' (r ∷ pt) (e ∷ et) [] (e' ∷ et') n n' h = absurd (omega arith)
lines_tell i l l' (r ∷ pt) (e ∷ et) (r' ∷ pt') [] n n' h = absurd (omega arith)
lines_tell i l l' (r ∷ pt) (e ∷ et) (r' ∷ pt') (e' ∷ et') n n' h =
    let t = line_tells l l' r r' e e' _ _ i h in
    let w = lines_tell (suc i) r r' pt et pt' et' (omega arith) (omega arith) t.rest in
    (λ (m : 1 ≤ length (r ∷ pt)). t.left, rw (t.right, w.1), rw (t.carries, w.2))

-- well-formed tables with the same text have the same pivots and edges
pub text_tells : (pt pt' : PivotTable) (et et' : EdgeTable) → WFPivots pt ≡ true → WFEdges et pt ≡ true → WFPivots pt' ≡ true → WFEdges et' pt' ≡ true
    → table_text pt et ≡ table_text pt' et' → (pt ≡ pt') × (et ≡ et')
unfolding table_text WFEdges
text_tells [] pt' et et' w x w' x' h = absurd (false≢true x)
text_tells (l ∷ pt) [] et et' w x w' x' h = absurd (false≢true x')
text_tells (l ∷ pt) (l' ∷ pt') et et' w x w' x' h =
    let n = eqb-true _ _ (both (eqb (length et) (length pt)) (edges_fit l pt et) x).0 in
    let n' = eqb-true _ _ (both (eqb (length et') (length pt')) (edges_fit l' pt' et') x').0 in
    let same : slot_lines 0 l pt et ≡ slot_lines 0 l' pt' et' = sym (drop-append_seam header _) ∙ ap (drop (length header)) h ∙ drop-append_seam header _ in
    let t = lines_tell 0 l l' pt et pt' et' n n' same in
    let m = wf_count (l ∷ pt) w in
    (rw (t.0 (omega arith), t.1), t.2)

-- ---- inputs

module _ (s : List ℕ) (h : first (list_causes s) ≡ none) where
  checked : first (table_causes (not_list_size s) false (list_pivots s) (list_edges s)) ≡ none
  unfolding list_causes
  checked = h

  -- the list of a table is its text
  table_listed : table_text (elements (list_pivots s)) (edges (list_edges s)) ≡ shelf_list s
  unfolding shelf_list
  table_listed = passed refused_text _ _ (list_causes s) h refl

  -- no byte is missing, and none is left over
  size : length s ≡ 2 + (list_count s + (list_count s - 1)) * record_size
  unfolding not_list_size
  size =
      let right = either_fails (not_list_size s) (not_edge_count (list_pivots s) (list_edges s)) (causes_shape _ _ _ (table_pivots _ _ _ _ checked)) in
      eqb-true (length s) (2 + (list_count s + (list_count s - 1)) * record_size) (not-false _ right.0)

-- the count in two bytes, and the records of pivots and edges
abbrev pub input_of : PivotTable → EdgeTable → List ℕ
input_of pt et = length pt / 256 ∷ length pt % 256 ∷ (encode_all pt ++ encode_edges et)

-- an input that is a table is made of them
pub input_is : (s : List ℕ) → Bytes s → first (list_causes s) ≡ none → input_of (elements (list_pivots s)) (edges (list_edges s)) ≡ s
unfolding length_field
input_is [] b h = let n = size [] h in absurd (omega arith)
input_is (x ∷ []) b h = let n = size (x ∷ []) h in absurd (omega arith)
input_is (x ∷ y ∷ t) b h =
    let s = x ∷ y ∷ t in
    let c = x * 256 + y in
    let n = size s h in
    let p : list_pivots s ≡ take (c * record_size) t = unfold list_pivots in refl in
    let q : list_edges s ≡ drop (c * record_size) t = unfold list_edges in rw (two_more (c * record_size)) in
    let pivots = table_encode _ _ _ _ (checked s h) (rw p (bytes_take (c * record_size) t b.1.1)) in
    let carried = table_encode_edges _ _ _ _ (checked s h) (rw q (bytes_drop (c * record_size) t b.1.1)) in
    let m : length (elements (list_pivots s)) ≡ c = length_elements (list_pivots s) ∙ rw (p, length-take-le (c * record_size) t (omega arith)) (omega arith) in
    let high : c / 256 ≡ x = omega arith in
    let low : c % 256 ≡ y = omega arith in
    rw (m, high, low, pivots, carried, p, q, take-append-drop (c * record_size) t)

-- a table's list is not a refused input's
not_refused : (pt : PivotTable) (et : EdgeTable) (r : Refusal) → table_text pt et ≡ refused_text r → ⊥
unfolding table_text header refused_text refused_word
not_refused [] et r h = let z : ◌≡◌ {A = ℕ} 0x73 0x72 = head_is _ _ _ _ h in omega arith
not_refused (p ∷ pt) et r h = let z : ◌≡◌ {A = ℕ} 0x73 0x72 = head_is _ _ _ _ h in omega arith

module _ (s s' : List ℕ) (h : first (list_causes s) ≡ none) (e : shelf_list s ≡ shelf_list s') where
  -- an input with the list of a table is a table
  pub list_accepted : first (list_causes s') ≡ none
  list_accepted = go (first (list_causes s')) refl
    where
      go : (o : Option Refusal) → first (list_causes s') ≡ o → o ≡ none
      go none f = refl
      go (some r) f =
          let told : shelf_list s' ≡ refused_text r = unfold shelf_list in sym (refused_by refused_text _ _ (list_causes s') r f refl) in
          absurd (not_refused _ _ r (table_listed s h ∙ e ∙ told))

  -- an input with the list of a table is that table, byte for byte
  pub list_one : Bytes s → Bytes s' → s ≡ s'
  list_one b b' =
      let h' = list_accepted in
      let c = checked s h in
      let c' = checked s' h' in
      let text = table_listed s h ∙ e ∙ sym (table_listed s' h') in
      let t = text_tells _ _ _ _ (table_wf _ _ _ _ c) (table_edges _ _ _ _ c) (table_wf _ _ _ _ c') (table_edges _ _ _ _ c') text in
      sym (input_is s b h) ∙ rw (t.0, t.1) (input_is s' b' h')

-- ---- the call

module _ (s d : List ℕ) (n : ℕ) (h : list_table_answer s d ≡ Ok n) where
  -- it answers the list's length
  pub listed_length : n ≡ length (shelf_list s)
  listed_length = value_is (list_table_causes s d) (length (shelf_list s)) (list_table_answer s d) refl n h

  -- what it writes is the list
  pub listed : take n (list_table_leaves s d) ≡ shelf_list s
  listed =
      let unrefused = accepted (list_table_causes s d) (length (shelf_list s)) (list_table_answer s d) refl n h in
      let left = passed (λ (r : Refusal). d) _ (over (shelf_list s) d) (list_table_causes s d) unrefused refl in
      rw (listed_length, ← left) (take_over (shelf_list s) d)

-- where it writes the same text of two inputs, and one of them is a table, they are the same bytes
pub listed_one : (s s' d d' : List ℕ) (n n' : ℕ) → list_table_answer s d ≡ Ok n → list_table_answer s' d' ≡ Ok n'
    → take n (list_table_leaves s d) ≡ take n' (list_table_leaves s' d') → first (list_causes s) ≡ none → Bytes s → Bytes s' → s ≡ s'
listed_one s s' d d' n n' a a' e h b b' = list_one s s' h (sym (listed s d n a) ∙ e ∙ listed s' d' n' a') b b'
