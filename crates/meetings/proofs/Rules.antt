-- For each function the lemmas by which the check finds its goals.
use mathlib.Core.Path.{refl}
use Rattle.meetings.proofs.Checks.{checks_refuse, apart_first, many_first, they_meet, first_checked, second_checked, both_checked}
use Rattle.meetings.proofs.Meets.{apart_told, many_told}
use Rattle.model.proofs.calls.PivotKeys.{last_counted}
use Rattle.model.proofs.calls.Refusals.{trying}

pub ruleset are_apart = (last_counted, apart_told)

pub ruleset are_too_many = (last_counted, many_told)

pub ruleset check_meeting = (refl, trying, checks_refuse, apart_first, many_first, they_meet, first_checked, second_checked)

pub ruleset check_tables = (both_checked)
