-- Demand 3 as one claim, `Demand3`, about what the calls of CutCalls answer and leave. Its proof is in proofs/cuts/TwoOrders.
use Rattle.std.specs.Prelude.{◌≡◌, Bool, true, false, List, ℕ, ◌*◌, ◌-◌, ◌≤◌, length, take, Result, Ok, Err}
use Rattle.model.specs.declared.Refusal.{Refusal}
use Rattle.model.specs.declared.Refusal.TheVariants.{TooLong, NoRoom}
use Rattle.model.specs.keys.Key.{Key, Bytes, max_len}
use Rattle.model.specs.keys.Order.{key, lte, lt}
use Rattle.model.specs.records.Record.{record_size, elements, edges, encode_all, encode_edges}
use Rattle.model.specs.tables.Tables.{pivot_at, last_pivot, all, short_edge}
use Rattle.model.specs.cuts.Cuts.{plain_cut, plain_cut_edges}
use Rattle.model.specs.calls.TableCalls.{wf_edges_answer}
use Rattle.model.specs.calls.CutCalls.{cut_answer, cut_leaves_pivots, cut_leaves_edges}
use Rattle.model.specs.calls.TranslationCalls.{translate_key_answer, translate_key_leaves}

-- the two destinations of a cut
pub record Dests : Type 0 where
  pub for_pivots : List ℕ
  pub for_edges : List ℕ

-- they are no shorter than the bytes of p and e
pub record NoShorter (p e : List ℕ) (d : Dests) : Type 0 where
  pub pivots : length p ≤ length d.for_pivots
  pub edges : length e ≤ length d.for_edges

-- where a cut or an order of two ends: accepted, with the count answered and the records written, or at a refusal
pub data End : Type 0 where
  wrote : ℕ → List ℕ → List ℕ → End
  refused : Refusal → End

abbrev pub accepted : End → Bool
accepted (wrote n p e) = true
accepted (refused x) = false

-- the records that a cut wrote: as many pivots as it answers, and one edge fewer
abbrev pub end_of : Result ℕ Refusal → List ℕ → List ℕ → End
end_of (Ok n) p e = wrote n (take (n * record_size) p) (take ((n - 1) * record_size) e)
end_of (Err x) p e = refused x

-- a cut at k into d of pivots p and edges e
abbrev pub cut : Bool → Key → Dests → List ℕ → List ℕ → End
cut left k d p e =
    end_of (cut_answer left p e k d.for_pivots d.for_edges)
    (cut_leaves_pivots left p e k d.for_pivots d.for_edges)
    (cut_leaves_edges left p e k d.for_pivots d.for_edges)

-- "The right cut at l cuts off what lies below l, the left cut at r what lies from r on"
abbrev pub left_cut : Key → Dests → List ℕ → List ℕ → End
left_cut r d p e = cut true r d p e

abbrev pub right_cut : Key → Dests → List ℕ → List ℕ → End
right_cut l d p e = cut false l d p e

-- "The second cut is lent exactly the records that the first wrote"; "An order is accepted where both its cuts are, and ends at a refused one"
abbrev pub next : (List ℕ → List ℕ → End) → End → End
next second (wrote n p e) = second p e
next second (refused x) = refused x

-- "cutting off what lies below l and then, from what that left, what lies from r on"
abbrev pub right_then_left : Key → Key → Dests → Dests → List ℕ → List ℕ → End
right_then_left l r a b p e = next (left_cut r b) (right_cut l a p e)

-- "the other order"
abbrev pub left_then_right : Key → Key → Dests → Dests → List ℕ → List ℕ → End
left_then_right l r a b p e = next (right_cut l b) (left_cut r a p e)

-- "the records of the plain cut, pivots and edges", and its count
abbrev pub plain_end : Key → Key → List ℕ → List ℕ → End
plain_end l r p e =
    wrote (length (plain_cut (elements p) l r))
    (encode_all (plain_cut (elements p) l r))
    (encode_edges (plain_cut_edges (elements p) (edges e) l r))

-- k translated by p' and e' gets the answer and the bytes that p and e give, in every destination
abbrev pub TranslatedAlike : List ℕ → List ℕ → List ℕ → List ℕ → Key → Type 0
TranslatedAlike p e p' e' k =
    (d : List ℕ) → (translate_key_answer p' e' k d ≡ translate_key_answer p e k d) × (translate_key_leaves p' e' k d ≡ translate_key_leaves p e k d)

-- every key from l up to, but without, r, is translated by what an order left as by the uncut table
abbrev pub Preserved : Key → Key → List ℕ → List ℕ → End → Type 0
Preserved l r p e (wrote n p' e') = (k : Key) → Bytes k → lte (key l) (key k) ≡ true → lt (key k) (key r) ≡ true → TranslatedAlike p e p' e' k
Preserved l r p e (refused x) = Unit {0}

-- where the two orders end, at x and at y
pub record TwoOrders (l r : Key) (p e : List ℕ) (x y : End) : Type 0 where
  -- "is accepted exactly when the other order is"
  pub exactly : accepted x ≡ accepted y
  -- "namely when every edge of document 01's plain cut at l and r has at most 64 bytes"
  pub namely : accepted x ≡ all short_edge (plain_cut_edges (elements p) (edges e) l r)
  -- "else both orders end in refusal 8"
  pub otherwise : accepted x ≡ false → (x ≡ refused TooLong) × (y ≡ refused TooLong)
  -- "Where accepted, both leave the records of the plain cut, pivots and edges, byte for byte"
  pub plain : accepted x ≡ true → (x ≡ plain_end l r p e) × (y ≡ plain_end l r p e)
  -- "and every key from l up to, but without, r, translated by what the cuts left, gets the answer and the bytes that document 01's translation gives by the uncut table and its edges, a refusal for length included"
  pub preserved : Preserved l r p e x × Preserved l r p e y

-- Demand 3, for all pivots p and edges e lent, all keys l and r, and all destinations: a and b of one order, c and d of the other
abbrev pub Demand3 : Type 0
Demand3 =
    (p e : List ℕ) (l r : Key) (a b c d : Dests) → Bytes p → Bytes l → Bytes r
    -- "For every well-formed table with its edges"
    → wf_edges_answer p e ≡ Ok true
    -- "and all keys l and r of at most 64 bytes"
    → length l ≤ max_len
    → length r ≤ max_len
    -- "with l below r"
    → lt (key l) (key r) ≡ true
    -- "l not below the first pivot"
    → lte (pivot_at (elements p) 0) (key l) ≡ true
    -- "and r not above the last"
    → lte (key r) (last_pivot (elements p)) ≡ true
    -- "all destinations long enough": "cause 10 is absent"
    → (right_then_left l r a b p e ≡ refused NoRoom → ⊥)
    → (left_then_right l r c d p e ≡ refused NoRoom → ⊥)
    → TwoOrders l r p e (right_then_left l r a b p e) (left_then_right l r c d p e)
