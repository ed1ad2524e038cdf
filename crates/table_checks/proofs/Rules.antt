-- For each function the lemmas by which the check finds its goals.
use Rattle.model.proofs.calls.Refusals.{trying}
use Rattle.table_checks.proofs.Counts.{no_pivot, one_fewer}
use Rattle.table_checks.proofs.EdgePass.{none_fits, prefix_fits, other_count, stand_start, stand_over, stands_not, stand_next, edges_over, not_edge, next_edge}
use Rattle.table_checks.proofs.Table.{shape_refused, edges_counted, pivots_counted, pivots_refused, edges_refused, table_stands}

pub ruleset check_table = (trying, shape_refused, edges_counted, pivots_counted, pivots_refused, edges_refused, table_stands)

pub ruleset edge_fits = (none_fits, prefix_fits)

pub ruleset edges_fit = (other_count, stand_start, stand_over, stands_not, stand_next)

pub ruleset edges_read = (edges_over, not_edge, next_edge)

pub ruleset not_edge_count = (no_pivot, one_fewer)
