use Rattle.copies.proofs.Turns.{copy_end}
use Rattle.copies.proofs.bytes.copy.Goals as goal

pub returns : goal.returns
returns c = search copy_end
