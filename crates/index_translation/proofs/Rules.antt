-- For each function the lemmas by which the check finds its goals.
use mathlib.Core.Path.{refl}
use Rattle.index_translation.proofs.Causes.{fits_ten, fits_eight, fits_refused, check_refused, given_good, given_placed, index_refused, bucket_answers, bucket_refuses, bucket_left, index_as_before, index_written}
use Rattle.index_translation.proofs.Counting.{one_kept, none_kept, count_start, count_end, count_fits, count_turn}
use Rattle.index_translation.proofs.Placing.{place_start, place_end, place_after, place_inside, place_fits, place_narrow, place_turn}
use Rattle.model.proofs.calls.Refusals.{trying}

pub ruleset kept_at = (one_kept, none_kept)

pub ruleset kept_between = (count_start, count_end, count_fits, count_turn)

pub ruleset write_kept = (place_start, place_end, place_after, place_inside, place_fits, place_narrow, place_turn)

pub ruleset no_room = (fits_ten, fits_eight, fits_refused)

pub ruleset translate_index = (refl, trying, check_refused, given_good, given_placed, index_refused, bucket_answers, bucket_refuses, bucket_left, index_as_before, index_written)
