-- For the contracts of inner functions: what kind of edge a record stands for.
use Rattle.std.specs.Prelude.{List, ℕ, length}
use Rattle.model.specs.declared.EdgeKind.{EdgeKind}
use Rattle.model.specs.declared.EdgeKind.TheVariants as kinds
use Rattle.model.specs.records.Record.{Edge, edge, no_edge, edge_of}

-- a prefix of so many bytes, or absent
abbrev pub kind_of : Edge → EdgeKind
kind_of (edge k) = kinds.Prefix (length k)
kind_of no_edge = kinds.Absent

-- the kind of the edge that a record stands for
unfoldable pub edge_kind : List ℕ → EdgeKind
edge_kind r = kind_of (edge_of r)
