-- The ways out of a join: the check of both tables, and what is written.
use Rattle.std.specs.Prelude.{Result, Ok, Err}
use mathlib.Core.Path.{◌≡◌, ◌∙◌}
use mathlib.Core.Bool.{true, false}
use mathlib.Core.List.{List, ◌++◌}
use mathlib.Core.Option.{none}
use Prim.Native.Nat.{ℕ, ◌-◌, ◌≤◌}
use native.Mathlib.Omega.{arith}
use mir.Syntax.{w8}
use mir.Val.{Fits}
use lib.ListN.{length, take, drop, get_or, take-append-drop}
use Rattle.model.specs.declared.Refusal.{Refusal}
use Rattle.model.specs.records.Record.{elements, encode_all, encode_edges}
use Rattle.model.specs.tables.Tables.{all, short_element, short_edge}
use Rattle.model.specs.calls.Refusals.{outcome, first, answer}
use Rattle.model.specs.calls.CutCalls.{write_causes}
use Rattle.model.specs.calls.JoinCalls.{two_tables_causes, joined_pivots, joined_edges, meeting_causes, join_causes}
use Rattle.model.proofs.Lists.{rest}
use Rattle.model.proofs.keys.Key.{bytes_of}
use Rattle.model.proofs.calls.Refusals.{accepted, refused, refused_first, after}
use Rattle.model.proofs.calls.TableCalls.{table_wf, table_whole, table_count, table_edges_whole}
use Rattle.model.proofs.calls.Writing.{short_room}
use Rattle.model.proofs.calls.JoinCalls.{second_table, join_pivots_bytes, join_edges_bytes, join_pivots_short, join_edges_short, join_tables}
use Rattle.model.proofs.tables.Routing.{wf_count}

module _ (p e q f : List ℕ) where
  -- ---- what is written, where none of the causes 1 to 4, 13 and 12 applies

  module _ (h : first (meeting_causes p e q f) ≡ none) where
    both_tables : first (two_tables_causes p e q f) ≡ none
    both_tables = join_tables p e q f h

    -- the second has a first pivot
    pub pivot_there : 66 ≤ length q
    pivot_there =
        let t = second_table p e q f both_tables in
        omega (arith, table_whole false false q f t, wf_count (elements q) (table_wf false false q f t))

    -- and a first edge
    pub edge_there : 66 ≤ length f
    edge_there =
        let t = second_table p e q f both_tables in
        omega (arith, table_count false false q f t, table_edges_whole false false q f t, wf_count (elements q) (table_wf false false q f t))

    pub pivots_joined : ((i : ℕ) → Fits w8 (get_or p i 0)) → ((i : ℕ) → Fits w8 (get_or q i 0))
        → encode_all (joined_pivots p q) ≡ p ++ (take 0 q ++ take (length q - 66) (drop 66 q))
    pivots_joined b c = join_pivots_bytes p e q f both_tables (bytes_of p b) (bytes_of q c) ∙ rw (rest q 66)

    pub edges_joined : ((i : ℕ) → Fits w8 (get_or e i 0)) → ((i : ℕ) → Fits w8 (get_or f i 0))
        → encode_edges (joined_edges e f) ≡ e ++ (take 66 f ++ take (length f - 66) (drop 66 f))
    edges_joined b c = join_edges_bytes p e q f both_tables (bytes_of e b) (bytes_of f c) ∙ rw (rest f 66, take-append-drop 66 f)

    -- nothing is too long
    pub pivots_short : all short_element (joined_pivots p q) ≡ true
    pivots_short = join_pivots_short p e q f both_tables

    pub edges_short : all short_edge (joined_edges e f) ≡ true
    edges_short = join_edges_short p e q f both_tables

  -- ---- where it ends

  module _ {A : Type 0} (g : Refusal → A) (v x : A) (dp de : List ℕ) where
    -- at a cause of the check
    pub meeting_refuses : (a : Result ℕ Refusal) (m : ℕ) (r : Refusal) → a ≡ answer (meeting_causes p e q f) m → a ≡ Err r → x ≡ g r
        → x ≡ outcome g (join_causes p e q f dp de) v
    meeting_refuses a m r b c d = refused_first g v x (meeting_causes p e q f) _ r (refused (meeting_causes p e q f) m a b r c) d

    -- or with what is written
    pub join_writes : first (meeting_causes p e q f) ≡ none → x ≡ outcome g (write_causes (joined_pivots p q) (joined_edges e f) dp de) v
        → x ≡ outcome g (join_causes p e q f dp de) v
    join_writes h d =
        after g v x (meeting_causes p e q f) _ h (d ∙ short_room g v (joined_pivots p q) (joined_edges e f) dp de (edges_short h))

-- a check that is passed says that the tables meet
pub they_meet : (p e q f : List ℕ) (a : Result ℕ Refusal) (m n : ℕ) → a ≡ answer (meeting_causes p e q f) m → a ≡ Ok n → first (meeting_causes p e q f) ≡ none
they_meet p e q f a m n b c = accepted (meeting_causes p e q f) m a b n c
