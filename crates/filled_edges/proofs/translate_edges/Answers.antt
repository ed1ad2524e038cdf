use borrow.Author.Rules.{rules}
use Rattle.filled_edges.proofs.Rules.{translate_edges}
use Rattle.filled_edges.proofs.translate_edges.Goals as goal

pub returns-in_err-check_table-clause-answered : goal.returns-in_err-check_table-clause-answered
returns-in_err-check_table-clause-answered c = search (rules, translate_edges, c.in_err-check_table.was)

pub returns-in_err-check_table-clause-written : goal.returns-in_err-check_table-clause-written
returns-in_err-check_table-clause-written c = search (rules, translate_edges, c.in_err-check_table.was)
