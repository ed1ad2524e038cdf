use borrow.Author.Rules.{rules}
use Rattle.tables.proofs.Rules.{get_key_part}
use Rattle.tables.proofs.get.get_key_part.Goals as goal

pub returns-in-Err : goal.returns-in-Err
returns-in-Err c = search (rules, get_key_part)
