-- What is asked of insertion, as one claim, `Inserts`, about what the calls answer and leave. Its proof is in proofs/cuts/Inserted.
use Rattle.std.specs.Prelude.{◌≡◌, ◌⊎◌, Bool, true, false, List, ℕ, ◌+◌, ◌*◌, ◌≤◌, ◌<◌, length, Ok, Err}
use Rattle.model.specs.declared.Refusal.TheVariants.{TooLong, TooManyPivots}
use Rattle.model.specs.keys.Key.{Key, Bytes}
use Rattle.model.specs.keys.Order.{key}
use Rattle.model.specs.records.Record.{record_size, elements}
use Rattle.model.specs.tables.Tables.{max_pivots, pivot_at, Route}
use Rattle.model.specs.cuts.Insertion.{InsertPivot}
use Rattle.model.specs.calls.TableCalls.{wf_edges_answer}
use Rattle.model.specs.calls.CutCalls.{cut_answer, cut_leaves_pivots, cut_leaves_edges}
use Rattle.model.specs.calls.InsertionCalls.{insert_answer, insert_leaves_pivots, insert_leaves_edges}
use Rattle.model.specs.cuts.TwoOrders.{Dests, End, wrote, refused, accepted, end_of, cut, TranslatedAlike}

-- an insertion of k, into d, of pivots p and edges e
abbrev pub insert : Key → Dests → List ℕ → List ℕ → End
insert k d p e =
    end_of (insert_answer p e k d.for_pivots d.for_edges)
    (insert_leaves_pivots p e k d.for_pivots d.for_edges)
    (insert_leaves_edges p e k d.for_pivots d.for_edges)

-- a cut at k of p' and e' has the answer and the bytes of that of p and e, in all destinations
abbrev pub CutAlike : Bool → List ℕ → List ℕ → List ℕ → List ℕ → Key → Type 0
CutAlike left p e p' e' k =
    (dp de : List ℕ)
    → (cut_answer left p' e' k dp de ≡ cut_answer left p e k dp de)
    × (cut_leaves_pivots left p' e' k dp de ≡ cut_leaves_pivots left p e k dp de)
    × (cut_leaves_edges left p' e' k dp de ≡ cut_leaves_edges left p e k dp de)

-- what an accepted insertion leaves: n pivots with their edges, in the records p' and e'
pub record Inserted (p e : List ℕ) (k : Key) (n : ℕ) (p' e' : List ℕ) : Type 0 where
  -- it passes the check, and so can be lent to the next call
  pub table : wf_edges_answer p' e' ≡ Ok true
  -- its pivots, which therefore rise, are the old ones and the key
  pub pivots : elements p' ≡ InsertPivot (elements p) (Route (elements p) k + 1) k
  pub count : n ≡ length (elements p) + 1
  -- "Every bounded key must translate as before, a refusal for length included"; so does every other key
  pub keys : (j : Key) → Bytes j → TranslatedAlike p e p' e' j
  -- "Both new edges extend the old one as a cut does": its cuts at the key are those of the table
  pub cuts : (left : Bool) → CutAlike left p e p' e' k

-- where it ends, so
abbrev pub Kept : List ℕ → List ℕ → Key → End → Type 0
Kept p e k (wrote n p' e') = Inserted p e k n p' e'
Kept p e k (refused x) = Unit {0}

-- an answer is refusal 8
abbrev pub long_insert : List ℕ → List ℕ → Key → Dests → Type 0
long_insert p e k d = insert_answer p e k d.for_pivots d.for_edges ≡ Err TooLong

abbrev pub long_cut : Bool → List ℕ → List ℕ → Key → Dests → Type 0
long_cut left p e k d = cut_answer left p e k d.for_pivots d.for_edges ≡ Err TooLong

-- insertion is refused with 8 exactly where the left or the right cut at the key is, unless 12 comes first; destinations don't matter
pub record LongAsCuts (p e : List ℕ) (k : Key) (d : Dests) : Type 0 where
  pub cut : (l r : Dests) → long_insert p e k d → long_cut true p e k l ⊎ long_cut false p e k r
  pub inserted : (left : Bool) (c : Dests) → long_cut left p e k c
      → (insert_answer p e k d.for_pivots d.for_edges ≡ Err TooManyPivots → ⊥) → long_insert p e k d

-- it is accepted where both cuts at the key are, the key is no pivot, there are fewer than 64, and there is room for one more
abbrev pub Taken : List ℕ → List ℕ → Key → Dests → Type 0
Taken p e k d =
    (l r : Dests) → accepted (cut true k l p e) ≡ true → accepted (cut false k r p e) ≡ true
    → ((i : ℕ) → i < length (elements p) → pivot_at (elements p) i ≡ key k → ⊥)
    → length (elements p) < max_pivots
    → (length (elements p) + 1) * record_size ≤ length d.for_pivots
    → length (elements p) * record_size ≤ length d.for_edges
    → accepted (insert k d p e) ≡ true

-- for all pivots p and edges e lent, every key k and all destinations
abbrev pub Inserts : Type 0
Inserts = (p e : List ℕ) (k : Key) (d : Dests) → Bytes p → Bytes k → Kept p e k (insert k d p e) × LongAsCuts p e k d × Taken p e k d
