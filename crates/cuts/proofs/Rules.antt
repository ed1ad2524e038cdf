-- For each function the lemmas by which the check finds its goals.
use mathlib.Core.Path.{refl}
use Rattle.cuts.proofs.Writes.{edge_refused, left_pivots, right_pivots, left_edges, right_edges, edges_short}
use Rattle.model.proofs.Lists.{part_counts}
use Rattle.model.proofs.calls.CutCalls.{cut_pivots_short}
use Rattle.model.proofs.calls.CutPlaces.{key_fits, at_fits, next_fits, pivots_at, pivots_next, edges_at, edges_next}
use Rattle.model.proofs.calls.Refusals.{handing_on, accepted, value_is, trying}
use Rattle.model.proofs.calls.Writing.{table_answered, table_pivots, table_edges}

pub ruleset cut = (handing_on, accepted, value_is)

pub ruleset cut_at = (refl, trying, edge_refused)

pub ruleset write_at = (part_counts, key_fits, at_fits, next_fits, pivots_at, pivots_next, edges_at, edges_next, left_pivots, right_pivots, left_edges, right_edges, cut_pivots_short, edges_short, table_answered, table_pivots, table_edges)
