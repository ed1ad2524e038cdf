-- For each function the lemmas by which the check finds its goals.
use mathlib.Core.Path.{refl}
use Rattle.model.proofs.Lists.{written_on}
use Rattle.model.proofs.calls.Refusals.{trying}
use Rattle.table_writes.proofs.Room.{first_lacks, second_lacks, third_lacks, parts_measured, pivots_lack, edges_lack, table_counted, pivots_written, edges_written}

pub ruleset join_three = (written_on)

pub ruleset measured = (first_lacks, second_lacks, third_lacks, parts_measured)

pub ruleset write_table = (refl, trying, pivots_lack, edges_lack, table_counted, pivots_written, edges_written)
