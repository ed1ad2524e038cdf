use Rattle.upper_bound.proofs.Down.{walk}
use Rattle.upper_bound.proofs.last_other.Goals as goal

pub returns : goal.returns
returns c = search walk
