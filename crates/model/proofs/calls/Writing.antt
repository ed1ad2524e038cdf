-- A table that is written as records: its causes and its count, by its bytes.
use Rattle.std.specs.Prelude.{Result, Ok, Err}
use mathlib.Core.Path.{◌≡◌, sym, ◌∙◌}
use mathlib.Core.Bool.{true}
use mathlib.Core.List.{List}
use Prim.Native.Nat.{ℕ, ◌*◌, ◌/◌}
use native.Mathlib.Omega.{arith}
use lib.ListN.{length}
use Rattle.model.specs.declared.Refusal.{Refusal}
use Rattle.model.specs.records.Record.{record_size, encode_all, encode_edges}
use Rattle.model.specs.tables.Tables.{PivotTable, EdgeTable, all, short_element, short_edge}
use Rattle.model.specs.calls.Refusals.{outcome, answer, leaves, over}
use Rattle.model.specs.calls.CutCalls.{room_causes, write_causes}
use Rattle.model.proofs.records.Records.{length-encode_all, length-encode_edges}

-- where no edge is too long, only 10 is left
pub short_room : {A : Type 0} (f : Refusal → A) (v : A) (pt : PivotTable) (et : EdgeTable) (dp de : List ℕ) → all short_edge et ≡ true
    → outcome f (write_causes pt et dp de) v ≡ outcome f (room_causes (length pt * record_size) (length et * record_size) dp de) v
unfolding outcome
short_room f v pt et dp de t = rw t

-- pivots with the bytes x and edges with the bytes y, none too long
module _ (pt : PivotTable) (et : EdgeTable) (x y : List ℕ) (a : encode_all pt ≡ x) (b : encode_edges et ≡ y)
    (s : all short_element pt ≡ true) (t : all short_edge et ≡ true) where
  -- the bytes tell the number of pivots
  pub bytes_count : length x / record_size ≡ length pt
  bytes_count = rw (← a) (omega (arith, length-encode_all pt s))

  module _ (dp de : List ℕ) where
    -- of the causes only 10 may apply, and it goes by the bytes
    pub only_room : {A : Type 0} (f : Refusal → A) (v : A) → outcome f (room_causes (length x) (length y) dp de) v ≡ outcome f (write_causes pt et dp de) v
    only_room f v = sym (short_room f v pt et dp de t ∙ rw (← a, ← b, length-encode_all pt s, length-encode_edges et t))

    -- what is answered and left by the bytes is so by the table
    pub table_answered : (z : Result ℕ Refusal) → z ≡ answer (room_causes (length x) (length y) dp de) (length x / record_size) → z ≡ answer (write_causes pt et dp de) (length pt)
    table_answered z h = h ∙ rw bytes_count (only_room Err (Ok (length pt)))

    pub table_pivots : (w : List ℕ) → w ≡ leaves (room_causes (length x) (length y) dp de) x dp → w ≡ leaves (write_causes pt et dp de) (encode_all pt) dp
    table_pivots w h = h ∙ rw a (only_room (λ (r : Refusal). dp) (over x dp))

    pub table_edges : (w : List ℕ) → w ≡ leaves (room_causes (length x) (length y) dp de) y de → w ≡ leaves (write_causes pt et dp de) (encode_edges et) de
    table_edges w h = h ∙ rw b (only_room (λ (r : Refusal). de) (over y de))
