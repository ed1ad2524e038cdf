use borrow.Author.Rules.{rules}
use Rattle.table_writes.proofs.Rules.{write_table}
use Rattle.table_writes.proofs.write_table.Goals as goal

pub returns-in_err-size-clause-answered : goal.returns-in_err-size-clause-answered
returns-in_err-size-clause-answered c = search (rules, write_table, c.in_err-size.was)

pub returns-in_err-size-clause-pivots : goal.returns-in_err-size-clause-pivots
returns-in_err-size-clause-pivots c = search (rules, write_table, c.in_err-size.was)

pub returns-in_err-size-clause-edges : goal.returns-in_err-size-clause-edges
returns-in_err-size-clause-edges c = search (rules, write_table, c.in_err-size.was)

pub returns-in_err-measured-clause-answered : goal.returns-in_err-measured-clause-answered
returns-in_err-measured-clause-answered c = search (rules, write_table, c.in_ok-size.was, c.in_err-measured.was)

pub returns-in_err-measured-clause-pivots : goal.returns-in_err-measured-clause-pivots
returns-in_err-measured-clause-pivots c = search (rules, write_table, c.in_ok-size.was, c.in_err-measured.was)

pub returns-in_err-measured-clause-edges : goal.returns-in_err-measured-clause-edges
returns-in_err-measured-clause-edges c = search (rules, write_table, c.in_ok-size.was, c.in_err-measured.was)

pub returns-clause-answered : goal.returns-clause-answered
returns-clause-answered c = search (rules, write_table, c.in_ok-measured.was)
