use borrow.Author.Rules.{rules}
use Rattle.filled_edges.proofs.Rules.{write_edges}
use Rattle.filled_edges.proofs.write_edges.Goals as goal

pub returns : goal.returns
returns c = search (rules, write_edges)
