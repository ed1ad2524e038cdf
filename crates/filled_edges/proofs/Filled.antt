-- The filled edges of a table that has none of the causes 1 to 4, by their records: each made in its slot, and all written in turn.
use mathlib.Core.Path.{◌≡◌, refl, sym, ap, ◌∙◌}
use mathlib.Core.Bool.{true, false}
use mathlib.Core.List.{List, [], append-nil}
use mathlib.Core.Option.{none}
use Prim.Native.Nat.{ℕ, ◌+◌, ◌*◌, ◌-◌, ◌/◌, ◌≤◌, ◌<◌}
use native.Mathlib.Omega.{arith}
use borrow.Author.Tests.{leb-true, lt-ltb, le-ltb}
use borrow.Rule.Slice.PartMut.{put_mid}
use lib.ListN.{length, take, drop}
use Rattle.model.specs.declared.Refusal.{Refusal}
use Rattle.model.specs.declared.Refusal.TheVariants.{NoRoom}
use Rattle.model.specs.declared.EdgeKind.{EdgeKind}
use Rattle.model.specs.declared.EdgeKind.TheVariants as kinds
use Rattle.model.specs.keys.Key.{max_len}
use Rattle.model.specs.keys.Order.{key}
use Rattle.model.specs.records.Record.{edge, no_edge, record_size, key_bytes, element, edge_of, elements, edges}
use Rattle.model.specs.records.Record.{record_of, encode_edge, encode_edges}
use Rattle.model.specs.inner.EdgeKinds.{edge_kind}
use Rattle.model.specs.inner.Places.{record_at}
use Rattle.model.specs.inner.Written.{into}
use Rattle.model.specs.ranges.RangePrefix.{PivotLcp}
use Rattle.model.specs.tables.Tables.{edge_at, all, short_edge}
use Rattle.model.specs.translation.Renaming.{filled}
use Rattle.model.specs.calls.Refusals.{first, over, outcome}
use Rattle.model.specs.calls.TableCalls.{table_causes}
use Rattle.model.specs.calls.RenamingCalls.{new_edges, edges_causes}
use Rattle.model.proofs.Lists.{all_at}
use Rattle.model.proofs.calls.Refusals.{here, later, done, after, accepted, handed_on-first}
use Rattle.model.proofs.keys.Key.{prefix_is_take}
use Rattle.model.proofs.ranges.RangePrefix.{prefix_of_left}
use Rattle.model.proofs.records.Record.{length-encode_edge, absent_edge, prefix_edge}
use Rattle.model.proofs.records.InTurn.{turn_start, turn_next, turn_end}
use Rattle.model.proofs.tables.Routing.{wf_all_short}
use Rattle.model.proofs.calls.TableCalls.{length_elements, length_edges, element_at, edge_at_lem}
use Rattle.model.proofs.calls.TableCalls.{table_wf, table_count, table_edges_whole, table_edges_short}
use Rattle.model.proofs.calls.PivotKeys.{key_at}
use Rattle.model.proofs.translation.Renaming.{edges_count, edges_at, edges_short}
use Rattle.records.specs.Blank.{blank}
use Rattle.records.proofs.JoinedKeys.{joined_made}

-- the record of a key: a length and zeros, and then the key's bytes over the zeros
module _ (k d v w : List ℕ) (h : length k ≤ 64) (m : 66 ≤ length d) (n : ℕ) (l : n ≡ length k) (e : v ≡ blank n d) where
  pub key_made : w ≡ into k (take (length v - 2) (drop 2 v)) → put_mid 2 (length v - 2) v w ≡ over (record_of (length k) k) d
  key_made g = rw append-nil at (joined_made k [] d v w (omega arith) m n (omega arith) e (rw append-nil g))

module _ (p e : List ℕ) (h : first (table_causes false false p e) ≡ none) where
  -- there are as many as the edges lent
  new_count : length (new_edges p e) ≡ length e / 66
  new_count = edges_count (edges e) (elements p) (table_count _ _ p e h) ∙ length_edges e

  -- and none is too long
  new_short : all short_edge (new_edges p e) ≡ true
  new_short = edges_short (edges e) (elements p) (wf_all_short (elements p) (table_wf _ _ p e h)) (table_edges_short _ _ p e h)

  -- ---- one record

  module _ (i : ℕ) (m : i < length e / 66) where
    -- nor is that of a slot
    short_here : short_edge (edge_at (new_edges p e) i) ≡ true
    short_here = all_at short_edge (new_edges p e) i no_edge refl new_short

    -- the slot's two pivots are in the table
    pivots_here : i + 1 < length p / 66
    pivots_here = omega (arith, table_count _ _ p e h, length_elements p, length_edges e)

    -- its edge is filled by the records of its place
    filled_here : edge_at (new_edges p e) i ≡ filled (PivotLcp (key (key_bytes (record_at p i))) (element (record_at p (i + 1)))) (edge_of (record_at e i))
    filled_here =
        edges_at (edges e) (elements p) (table_count _ _ p e h) i (omega (arith, length_edges e))
        ∙ rw (key_at p (table_wf _ _ p e h) i pivots_here, element_at p (i + 1) pivots_here, edge_at_lem e i m)

    module _ (a : List ℕ) (t : EdgeKind) (g : a ≡ record_at e i) (f : t ≡ edge_kind a) where
      -- where there is no edge, the prefix of the range is made
      module _ (u : t ≡ kinds.Absent) (b x s : List ℕ) (n : ℕ) (j : b ≡ record_at p i) (o : x ≡ key_bytes b) (l : s ≡ record_at p (i + 1))
          (c : n ≡ length (PivotLcp (key x) (element s))) where
        -- the filled edge is the part of the left key that the prefix is
        prefix_is : edge_at (new_edges p e) i ≡ edge (take n x)
        unfolding filled
        prefix_is = filled_here ∙ rw (← g, absent_edge a t f u, ← j, ← o, ← l, c) (ap edge (sym (prefix_is_take _ x (prefix_of_left x (element s)))))

        prefix_short : length (take n x) ≤ max_len
        prefix_short = leb-true (length (take n x)) max_len (rw prefix_is at short_here)

        -- it has room in a record
        pub prefix_room : length (take n x) ≤ 64
        prefix_room = prefix_short

        -- and its record is that of the filled edge
        pub prefix_made : (d w : List ℕ) → w ≡ over (record_of (length (take n x)) (take n x)) d → w ≡ over (encode_edge (edge_at (new_edges p e) i)) d
        unfolding encode_edge
        prefix_made d w f = f ∙ rw prefix_is

      -- where there is one, it is made again
      module _ (y : ℕ) (u : t ≡ kinds.Prefix y) (k : List ℕ) (o : k ≡ key_bytes a) where
        -- the filled edge is the edge itself
        kept_is : edge_at (new_edges p e) i ≡ edge k
        unfolding filled
        kept_is = filled_here ∙ rw (← g, prefix_edge a t f y u, o)

        kept_short : length k ≤ max_len
        kept_short = leb-true (length k) max_len (rw kept_is at short_here)

        -- it has room in a record
        pub kept_room : length k ≤ 64
        kept_room = kept_short

        -- and its record is that of the filled edge
        pub kept_made : (d w : List ℕ) → w ≡ over (record_of (length k) k) d → w ≡ over (encode_edge (edge_at (new_edges p e) i)) d
        unfolding encode_edge
        kept_made d w f = f ∙ rw kept_is

  -- ---- all records

  -- at first nothing is written
  pub edges_start : (d : List ℕ) → d ≡ over (encode_edges (take 0 (new_edges p e))) d
  unfolding encode_edges
  edges_start d = turn_start encode_edge (new_edges p e) d

  -- one slot more
  pub edges_next : (i : ℕ) (d v w : List ℕ) → i < length e / 66 → v ≡ over (encode_edges (take i (new_edges p e))) d
      → w ≡ over (encode_edge (edge_at (new_edges p e) i)) (take (length v - i * 66) (drop (i * 66) v))
      → put_mid (i * 66) (length v - i * 66) v w ≡ over (encode_edges (take (i + 1) (new_edges p e))) d
  unfolding encode_edges
  edges_next i d v w l f g =
      turn_next encode_edge (new_edges p e) record_size short_edge length-encode_edge new_short i (omega (arith, new_count)) no_edge d v w f g

  -- after the last slot everything is
  pub edges_end : (i : ℕ) (d v : List ℕ) → length e / 66 ≤ i → v ≡ over (encode_edges (take i (new_edges p e))) d → v ≡ over (encode_edges (new_edges p e)) d
  unfolding encode_edges
  edges_end i d v l f = turn_end encode_edge (new_edges p e) i d v (omega (arith, new_count)) f

  -- ---- what is answered

  module _ {A : Type 0} (f : Refusal → A) (v x : A) (d : List ℕ) where
    -- the filled edges take the room of the edges lent
    size : length (new_edges p e) * record_size ≡ length e
    size = sym (rw (edges_count (edges e) (elements p) (table_count _ _ p e h)) (table_edges_whole _ _ p e h))

    -- a shorter destination is refused
    pub no_room_lem : length d < length e → x ≡ f NoRoom → x ≡ outcome f (edges_causes p e d) v
    no_room_lem l y = after f v x (table_causes false false p e) _ h (here f v x _ NoRoom [] (rw size (lt-ltb (length d) (length e) l)) y)

    -- and one that isn't is written to
    pub room : length e ≤ length d → x ≡ v → x ≡ outcome f (edges_causes p e d) v
    room l y = after f v x (table_causes false false p e) _ h (later f v x _ NoRoom [] (rw size (le-ltb (length d) (length e) l)) (done f v x y))

  -- how many edges are answered
  pub counted : length e / 66 ≡ length (new_edges p e)
  counted = sym new_count

-- `translate_edges`, by its tests
pub ruleset filling = (accepted, handed_on-first, no_room_lem, room, counted)
