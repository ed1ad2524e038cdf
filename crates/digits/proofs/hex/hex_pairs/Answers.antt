use borrow.Author.Rules.{rules}
use Rattle.digits.proofs.Digits.{pair_end}
use Rattle.digits.proofs.hex.hex_pairs.Goals as goal

ruleset own = (rules, pair_end)

pub returns : goal.returns
returns c = search own
