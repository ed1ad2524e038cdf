use Rattle.model.specs.buckets.Index.{encode_place}
use borrow.Author.Rules.{rules}
use Rattle.indexes.proofs.place.put_place.Goals as goal

ruleset own = (rules)

pub returns : goal.returns
unfolding encode_place
returns c = search own
