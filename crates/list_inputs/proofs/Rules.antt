-- For each function the lemmas by which the check finds its goals.
use Rattle.list_inputs.proofs.Inputs.{list_checked, edges_part, pivots_none, pivots_part, size_none, size_some}

pub ruleset check_list = (list_checked)

pub ruleset list_edges = (edges_part)

pub ruleset list_pivots = (pivots_none, pivots_part)

pub ruleset not_list_size = (size_none, size_some)
