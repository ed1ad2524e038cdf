-- For each function the lemmas by which the check finds its goals.
use mathlib.Core.Path.{refl}
use Rattle.filled_edges.proofs.Filled.{prefix_room, prefix_made, kept_room, kept_made, key_made, no_room_lem, room, counted, edges_start, edges_next, edges_end}
use Rattle.model.proofs.Lists.{part_counts}
use Rattle.model.proofs.calls.Refusals.{trying, accepted, handed_on-first}

pub ruleset put_filled = (part_counts, prefix_room, prefix_made, kept_room, kept_made)

pub ruleset put_key = (key_made)

pub ruleset translate_edges = (refl, trying, accepted, handed_on-first, no_room_lem, room, counted)

pub ruleset write_edges = (edges_start, edges_next, edges_end)
