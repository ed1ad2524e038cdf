-- For each function the lemmas by which the check finds its goals.
use mathlib.Core.Path.{refl}
use Rattle.index_cuts.proofs.Refused.{slot_inside, no_slot_answer, no_slot_kept}
use Rattle.index_cuts.proofs.Sides.{side_refused, cut_inside, end_inside, at_inside, cut_fits, next_fits, end_fits, at_fits, left_side, right_side, side_answered, side_bucket, side_index}
use Rattle.model.proofs.Lists.{part_counts}
use Rattle.model.proofs.calls.Refusals.{value_is, trying}

pub ruleset cut = (slot_inside, value_is, no_slot_answer, no_slot_kept)

pub ruleset cut_at = (refl, trying, part_counts, side_refused, cut_inside, end_inside, at_inside, cut_fits, next_fits, end_fits, at_fits, left_side, right_side, side_answered, side_bucket, side_index)
