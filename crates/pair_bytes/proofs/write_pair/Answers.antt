use borrow.Author.Rules.{rules}
use Rattle.pair_bytes.proofs.Rules.{write_pair}
use Rattle.pair_bytes.proofs.write_pair.Goals as goal

pub returns : goal.returns
returns c = search (rules, write_pair)
