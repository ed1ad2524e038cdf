use borrow.Author.Rules.{rules}
use Rattle.joining.proofs.Rules.{join}
use Rattle.joining.proofs.join.Goals as goal

pub returns-in_err-check_meeting-clause-answered : goal.returns-in_err-check_meeting-clause-answered
returns-in_err-check_meeting-clause-answered c = search (rules, join, c.in_err-check_meeting.was)

pub returns-in_err-check_meeting-clause-pivots : goal.returns-in_err-check_meeting-clause-pivots
returns-in_err-check_meeting-clause-pivots c = search (rules, join, c.in_err-check_meeting.was)

pub returns-in_err-check_meeting-clause-edges : goal.returns-in_err-check_meeting-clause-edges
returns-in_err-check_meeting-clause-edges c = search (rules, join, c.in_err-check_meeting.was)
