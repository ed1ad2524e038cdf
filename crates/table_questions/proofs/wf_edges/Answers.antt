use borrow.Author.Rules.{rules}
use Rattle.table_questions.proofs.Rules.{wf_edges}
use Rattle.table_questions.proofs.wf_edges.Goals as goal

pub returns-in_err-check_table : goal.returns-in_err-check_table
returns-in_err-check_table c = search (rules, wf_edges, c.in_err-check_table.was)
