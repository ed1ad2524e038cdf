-- "Cases to prove": the sixteen rows of document 01, as questions about the definitions with their answers.
use Rattle.std.specs.Prelude.{◌≡◌, List, [], ◌∷◌, ◌++◌, ℕ}
use Rattle.std.proofs.Math.Option.{Option, none}
use Rattle.model.specs.keys.Key.{Key}
use Rattle.model.specs.keys.Order.{Element, key, max}
use Rattle.model.specs.records.Record.{edge, no_edge, encode_all, encode_edges}
use Rattle.model.specs.ranges.RangePrefix.{PivotLcp}
use Rattle.model.specs.ranges.UpperBound.{ShortestUncommonPrefix}
use Rattle.model.specs.tables.Tables.{PivotTable, EdgeTable}
use Rattle.model.specs.cuts.Cuts.{SplitLeft, SplitRight, SplitLeftEdges, SplitRightEdges}
use Rattle.model.specs.translation.PrefixSet.{PrefixSet, pair, ComposePrefixSet}
use Rattle.model.specs.translation.Renaming.{TranslatePivotPairInternal}

pub data Row : Type 0 where
  prefix_of : Key → Element → Key → Row
  bound_of : Key → Element → Row
  compose : Option PrefixSet → Option PrefixSet → Option PrefixSet → Row
  cut_left : PivotTable → EdgeTable → Key → PivotTable → EdgeTable → Row
  cut_right : PivotTable → EdgeTable → Key → PivotTable → EdgeTable → Row
  pair_from : Key → Element → Key → Key → Key → Element → Row

-- what a row says; its answer stands last
abbrev pub Holds : Row → Type 0
Holds (prefix_of l r k) = PivotLcp (key l) r ≡ k
Holds (bound_of p u) = ShortestUncommonPrefix p ≡ u
Holds (compose a b c) = ComposePrefixSet a b ≡ c
Holds (cut_left pt et k pt' et') = (SplitLeft pt k ≡ pt') × (SplitLeftEdges et pt k ≡ et')
Holds (cut_right pt et k pt' et') = (SplitRight pt k ≡ pt') × (SplitRightEdges et pt k ≡ et')
Holds (pair_from l r p q l' r') = TranslatePivotPairInternal (key l) r p q ≡ record { left = key l'; right = r' }

abbrev pub AllHold : List Row → Type 0
AllHold [] = Unit {0}
AllHold (r ∷ rs) = Holds r × AllHold rs

-- keys of one, two, three bytes
abbrev b1 : ℕ → Key
b1 x = x ∷ []

abbrev b2 : ℕ → ℕ → Key
b2 x y = x ∷ y ∷ []

abbrev b3 : ℕ → ℕ → ℕ → Key
b3 x y z = x ∷ y ∷ z ∷ []

-- "Table T, with pivots 41 30, 41 35, 42 and edges 43 and none"
abbrev pub pivots_t : PivotTable
pivots_t = key (b2 0x41 0x30) ∷ key (b2 0x41 0x35) ∷ key (b1 0x42) ∷ []

abbrev pub edges_t : EdgeTable
edges_t = edge (b1 0x43) ∷ no_edge ∷ []

abbrev pub rows : List Row
rows =
    prefix_of (b2 0x41 0x30) (key (b2 0x41 0x35)) (b1 0x41) ∷
    prefix_of (b2 0x41 0x35) (key (b1 0x42)) (b1 0x41) ∷
    prefix_of (0x41 ∷ b3 0xff 0xff 0x07) (key (b1 0x42)) (b3 0x41 0xff 0xff) ∷
    prefix_of (b2 0x41 0xff) (key (b2 0x42 0x00)) [] ∷
    prefix_of (b3 0xff 0xff 0x10) max (b2 0xff 0xff) ∷
    prefix_of [] max [] ∷
    prefix_of (b1 0x41) (key (b2 0x41 0x05)) (b1 0x41) ∷
    bound_of (b3 0x41 0xff 0xff) (key (b1 0x42)) ∷
    bound_of (b2 0xff 0xff) max ∷
    bound_of (b2 0x41 0x30) (key (b2 0x41 0x31)) ∷
    compose (pair (b1 0x41) (b1 0x50)) (pair (b2 0x41 0x30) (b2 0x60 0x01)) (pair (b2 0x60 0x01) (b2 0x50 0x30)) ∷
    compose (pair (b2 0x41 0x30) (b1 0x50)) (pair (b1 0x41) (b1 0x60)) (pair (b2 0x60 0x30) (b1 0x50)) ∷
    compose none (pair (b1 0x41) (b1 0x60)) (pair (b1 0x60) (b1 0x41)) ∷
    cut_left pivots_t edges_t (b2 0x41 0x31) (key (b2 0x41 0x30) ∷ key (b2 0x41 0x31) ∷ []) (edge (b2 0x43 0x30) ∷ []) ∷
    cut_right pivots_t edges_t (b2 0x41 0x31) (key (b2 0x41 0x31) ∷ key (b2 0x41 0x35) ∷ key (b1 0x42) ∷ []) (edge (b1 0x43) ∷ no_edge ∷ []) ∷
    pair_from (b2 0x41 0x30) (key (b1 0x42)) (b1 0x41) (b2 0x43 0xff) (b3 0x43 0xff 0x30) (key (b1 0x44)) ∷ []

-- T as the shelf list reads it, the header, and the two lines after it
abbrev pub input_t : List ℕ
input_t = 0 ∷ 3 ∷ encode_all pivots_t ++ encode_edges edges_t

abbrev pub header_line : List ℕ
header_line =
    0x73 ∷ 0x6c ∷ 0x6f ∷ 0x74 ∷ 0x09 ∷ 0x6c ∷ 0x65 ∷ 0x66 ∷ 0x74 ∷ 0x09 ∷ 0x72 ∷ 0x69 ∷ 0x67 ∷ 0x68 ∷ 0x74 ∷ 0x09 ∷
    0x73 ∷ 0x68 ∷ 0x61 ∷ 0x72 ∷ 0x65 ∷ 0x64 ∷ 0x09 ∷ 0x65 ∷ 0x64 ∷ 0x67 ∷ 0x65 ∷ 0x0a ∷ []

abbrev pub lines_t : List ℕ
lines_t =
    0x30 ∷ 0x09 ∷ 0x34 ∷ 0x31 ∷ 0x33 ∷ 0x30 ∷ 0x09 ∷ 0x34 ∷ 0x31 ∷ 0x33 ∷ 0x35 ∷ 0x09 ∷ 0x34 ∷ 0x31 ∷ 0x09 ∷ 0x34 ∷ 0x33 ∷ 0x0a ∷
    0x31 ∷ 0x09 ∷ 0x34 ∷ 0x31 ∷ 0x33 ∷ 0x35 ∷ 0x09 ∷ 0x34 ∷ 0x32 ∷ 0x09 ∷ 0x34 ∷ 0x31 ∷ 0x09 ∷ 0x2d ∷ 0x0a ∷ []
