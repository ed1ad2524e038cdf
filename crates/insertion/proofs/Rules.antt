-- For each function the lemmas by which the check finds its goals.
use mathlib.Core.Path.{refl}
use Rattle.insertion.proofs.Inserts.{half_refused, half_unmade, second_half, both_made, edges_refused, edges_taken, new_none, new_slot, new_found, new_cutoff, new_pivots_lem, new_edges_lem}
use Rattle.model.proofs.Lists.{part_counts}
use Rattle.model.proofs.calls.CutPlaces.{key_fits, at_fits, next_fits, pivots_next, edges_at, edges_next}
use Rattle.model.proofs.calls.InsertionCalls.{insert_pivots_short}
use Rattle.model.proofs.calls.Refusals.{trying, handing_on}
use Rattle.model.proofs.calls.Writing.{table_answered, table_pivots, table_edges}

pub ruleset half_edges = (trying, half_refused, half_unmade, second_half, both_made)

pub ruleset insert_at = (refl, trying, edges_refused, edges_taken)

pub ruleset insert_pivot = (handing_on, new_none, new_slot, new_found, new_cutoff)

pub ruleset write_in = (part_counts, key_fits, at_fits, next_fits, pivots_next, edges_at, edges_next, new_pivots_lem, new_edges_lem, insert_pivots_short, table_answered, table_pivots, table_edges)
