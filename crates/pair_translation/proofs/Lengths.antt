-- The pair of a key's slot has prefixes of at most 64 bytes.
use mathlib.Core.Path.{◌≡◌, refl}
use mathlib.Core.Bool.{true, false}
use mathlib.Core.List.{List}
use mathlib.Core.Option.{none}
use Prim.Native.Nat.{ℕ, ◌≤◌}
use native.Mathlib.Omega.{arith}
use borrow.Author.Tests.{leb-true}
use lib.ListN.{length}
use Rattle.model.specs.keys.Key.{Key}
use Rattle.model.specs.keys.Order.{Element, key}
use Rattle.model.specs.records.Record.{Edge, edge, no_edge, elements, edges}
use Rattle.model.specs.ranges.RangePrefix.{PivotLcp}
use Rattle.model.specs.tables.Tables.{short_edge, CutoffForRight}
use Rattle.model.specs.translation.PrefixSet.{long_pair}
use Rattle.model.specs.translation.Translation.{edge_pair, Translate}
use Rattle.model.specs.calls.Refusals.{first}
use Rattle.model.specs.calls.TranslationCalls.{translate_causes, translate_pair}
use Rattle.model.proofs.keys.Key.{prefix_length}
use Rattle.model.proofs.ranges.RangePrefix.{prefix_of_left}
use Rattle.model.proofs.calls.TableCalls.{not_too_long}
use Rattle.model.proofs.calls.CutCalls.{cut_left_key, cut_left_short, cut_old_edge, cut_edge_short}
use Rattle.pair_bytes.proofs.Lengths.{Fitting, beside_fits}

-- a pair of a short prefix and a short edge is not long
edge_pair_short : (p : Key) (e : Edge) → length p ≤ 64 → short_edge e ≡ true → long_pair (edge_pair p e) ≡ false
unfolding long_pair edge_pair
edge_pair_short p (edge q) h i = rw (not_too_long p h, not_too_long q (leb-true (length q) 64 i))
edge_pair_short p no_edge h i = refl

-- the prefix of a range is no longer than its left bound
prefix_short : (x : Key) (r : Element) → length x ≤ 64 → length (PivotLcp (key x) r) ≤ 64
prefix_short x r h = omega (arith, prefix_length (PivotLcp (key x) r) x (prefix_of_left x r))

-- the pair of a key's slot is not long
slot_short : (p e : List ℕ) (k : Key) → first (translate_causes p e k) ≡ none → long_pair (Translate (elements p) (edges e) k) ≡ false
unfolding Translate CutoffForRight
slot_short p e k h =
    edge_pair_short _ _ (rw (cut_left_key false p e k h) (prefix_short _ _ (cut_left_short false p e k h)))
    (rw (cut_old_edge false p e k h) (cut_edge_short false p e k h))

-- both lengths of the pair of a key's slot are at most 64
pub translate_fits : (p e : List ℕ) (k : Key) → Fitting (translate_pair p e k)
translate_fits p e k = beside_fits (translate_causes p e k) (Translate (elements p) (edges e) k) (slot_short p e k)
