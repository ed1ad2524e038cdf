use borrow.Author.Rules.{rules}
use Rattle.meetings.proofs.Rules.{check_meeting}
use Rattle.meetings.proofs.check_meeting.Goals as goal

pub returns-in_err-count : goal.returns-in_err-count
returns-in_err-count c = search (rules, check_meeting, c.in_err-count.was)
