-- For each function the lemmas by which the check finds its goals.
use mathlib.Core.Path.{refl}
use Rattle.joining.proofs.Joins.{meeting_refuses, join_writes, they_meet, pivot_there, edge_there, pivots_joined, edges_joined, pivots_short, edges_short}
use Rattle.model.proofs.Lists.{part_counts}
use Rattle.model.proofs.calls.Refusals.{trying}
use Rattle.model.proofs.calls.Writing.{table_answered, table_pivots, table_edges}

pub ruleset join = (refl, trying, meeting_refuses, join_writes, they_meet)

pub ruleset write_joined = (part_counts, pivot_there, edge_there, pivots_joined, edges_joined, pivots_short, edges_short, table_answered, table_pivots, table_edges)
