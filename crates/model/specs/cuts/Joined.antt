-- What is asked of a join, as two claims about what the calls answer and leave: `Joins`, of any two tables, and `Rejoins`, of the two cuts of one. Their proofs are in proofs/cuts/Joined and proofs/cuts/Rejoined.
use Rattle.std.specs.Prelude.{◌≡◌, ◌⊎◌, Bool, true, false, List, ◌++◌, ℕ, ◌+◌, ◌≤◌, ◌<◌, length, drop, Ok}
use Rattle.model.specs.declared.Refusal.TheVariants.{TooManyPivots, NotMeeting}
use Rattle.model.specs.keys.Key.{Key, Bytes}
use Rattle.model.specs.keys.Order.{key}
use Rattle.model.specs.records.Record.{record_size, elements}
use Rattle.model.specs.tables.Tables.{max_pivots, pivot_at, last_pivot, is_pivot}
use Rattle.model.specs.calls.TableCalls.{wf_edges_answer, bounded_key_answer}
use Rattle.model.specs.calls.InsertionCalls.{insert_answer, insert_leaves_pivots, insert_leaves_edges}
use Rattle.model.specs.calls.JoinCalls.{join_answer, join_leaves_pivots, join_leaves_edges}
use Rattle.model.specs.cuts.TwoOrders.{Dests, NoShorter, End, wrote, refused, accepted, end_of, cut, TranslatedAlike}

-- a join, into d, of pivots p with edges e and pivots q with edges f
abbrev pub join : Dests → List ℕ → List ℕ → List ℕ → List ℕ → End
join d p e q f =
    end_of (join_answer p e q f d.for_pivots d.for_edges)
    (join_leaves_pivots p e q f d.for_pivots d.for_edges)
    (join_leaves_edges p e q f d.for_pivots d.for_edges)

-- j is in the range of p and not in that of q, and p' and e' translate it as p and e do, answer and bytes, 8 included
pub record OnlyIn (p e q p' e' : List ℕ) (j : Key) : Type 0 where
  pub inside : bounded_key_answer p j ≡ Ok true
  pub outside : bounded_key_answer q j ≡ Ok false
  pub alike : TranslatedAlike p e p' e' j

-- the cut of p' and e' at k gives p and e, byte for byte, where there is room for them
abbrev pub GivesBack : Bool → Key → List ℕ → List ℕ → List ℕ → List ℕ → Type 0
GivesBack left k p' e' p e = (d : Dests) → NoShorter p e d → cut left k d p' e' ≡ wrote (length (elements p)) p e

-- what an accepted join of p, e and q, f leaves: n pivots with their edges, in the records p' and e'
pub record Joined (p e q f : List ℕ) (n : ℕ) (p' e' : List ℕ) : Type 0 where
  -- it passes the check, and so can be lent to the next call
  pub table : wf_edges_answer p' e' ≡ Ok true
  -- "The joined table has that pivot once and all edges in turn", byte for byte
  pub pivots : p' ≡ p ++ drop record_size q
  pub edges : e' ≡ e ++ f
  pub count : n + 1 ≡ length (elements p) + length (elements q)
  -- "A key in its range is in the range of exactly one half and translates as there"
  pub keys : (j : Key) → Bytes j → bounded_key_answer p' j ≡ Ok true → OnlyIn p e q p' e' j ⊎ OnlyIn q f p p' e' j
  -- a key that is not in its range is in that of neither half
  pub others : (j : Key) → bounded_key_answer p' j ≡ Ok false → (bounded_key_answer p j ≡ Ok false) × (bounded_key_answer q j ≡ Ok false)
  -- cut at the meeting pivot it is the two halves again
  pub halves : (k : Key) → pivot_at (elements q) 0 ≡ key k → GivesBack true k p' e' p e × GivesBack false k p' e' q f

-- where it ends, so
abbrev pub JoinKept : List ℕ → List ℕ → List ℕ → List ℕ → End → Type 0
JoinKept p e q f (wrote n p' e') = Joined p e q f n p' e'
JoinKept p e q f (refused x) = Unit {0}

-- it is accepted where both tables pass the check, the one ends with the pivot that the other begins with, there are at most 64 and there is room; that pivot can't be max
abbrev pub JoinTaken : List ℕ → List ℕ → List ℕ → List ℕ → Dests → Type 0
JoinTaken p e q f d =
    wf_edges_answer p e ≡ Ok true → wf_edges_answer q f ≡ Ok true → last_pivot (elements p) ≡ pivot_at (elements q) 0
    → length (elements p) + length (elements q) ≤ max_pivots + 1
    → NoShorter (p ++ drop record_size q) (e ++ f) d
    → accepted (join d p e q f) ≡ true

-- where both pass the check, it is refused with 13 if they don't meet, and if they do, with 12 where there are more than 64
pub record JoinRefused (p e q f : List ℕ) (d : Dests) : Type 0 where
  pub apart : wf_edges_answer p e ≡ Ok true → wf_edges_answer q f ≡ Ok true → (last_pivot (elements p) ≡ pivot_at (elements q) 0 → ⊥)
      → join d p e q f ≡ refused NotMeeting
  pub many : wf_edges_answer p e ≡ Ok true → wf_edges_answer q f ≡ Ok true → last_pivot (elements p) ≡ pivot_at (elements q) 0
      → max_pivots + 1 < length (elements p) + length (elements q) → join d p e q f ≡ refused TooManyPivots

-- for all pivots p and q and edges e and f lent, and all destinations
abbrev pub Joins : Type 0
Joins =
    (p e q f : List ℕ) (d : Dests) → Bytes p → Bytes e → Bytes q → Bytes f
    → JoinKept p e q f (join d p e q f) × JoinTaken p e q f d × JoinRefused p e q f d

-- a join of l, x and r, y answers and leaves what an insertion of k into p and e does, in all destinations
abbrev pub AsInserted : List ℕ → List ℕ → Key → List ℕ → List ℕ → List ℕ → List ℕ → Type 0
AsInserted p e k l x r y =
    (dp de : List ℕ)
    → (join_answer l x r y dp de ≡ insert_answer p e k dp de)
    × (join_leaves_pivots l x r y dp de ≡ insert_leaves_pivots p e k dp de)
    × (join_leaves_edges l x r y dp de ≡ insert_leaves_edges p e k dp de)

-- the left cut at k left l and x, the right cut r and y; k then lies strictly between the first pivot and the last
pub record Rejoined (p e : List ℕ) (k : Key) (l x r y : List ℕ) : Type 0 where
  -- "gives the old table if it was a pivot"
  pub old : is_pivot (elements p) k ≡ true → (d : Dests) → NoShorter p e d → join d l x r y ≡ wrote (length (elements p)) p e
  -- "and otherwise what inserting it gives": refused where insertion is
  pub new : is_pivot (elements p) k ≡ false → AsInserted p e k l x r y

-- "joining the left and right cut at it", where both are accepted, for all pivots p and edges e lent, every key k and all destinations
abbrev pub Rejoins : Type 0
Rejoins =
    (p e : List ℕ) (k : Key) (c d : Dests) (m n : ℕ) (l x r y : List ℕ) → Bytes p → Bytes e → Bytes k
    → cut true k c p e ≡ wrote m l x → cut false k d p e ≡ wrote n r y → Rejoined p e k l x r y
