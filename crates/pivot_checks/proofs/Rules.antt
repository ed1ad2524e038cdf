-- For each function the lemmas by which the check finds its goals.
use Rattle.pivot_checks.proofs.Counts.{not_whole, too_few, too_many}
use Rattle.pivot_checks.proofs.PivotPass.{first_wrong, start, next_fits, next_wrong, after_read, turn, falls, all_rise, one_more, shape_refused, count_refused, wrong_refused, alone}

pub ruleset check_pivots = (shape_refused, count_refused, wrong_refused, alone)

pub ruleset not_pivot_count = (not_whole, too_few, too_many)

pub ruleset read_pivots = (first_wrong, start, next_fits, next_wrong, after_read, turn, falls, all_rise)

pub ruleset rises_on = (one_more)
