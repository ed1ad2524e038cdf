-- For each function the lemmas by which the check finds its goals.
use Rattle.model.proofs.Lists.{part_counts}
use Rattle.model.proofs.calls.CutCalls.{cut_next_fits}
use Rattle.model.proofs.calls.Refusals.{handing_on, accepted, value_is, trying}
use Rattle.pairs.proofs.States.{telling}
use Rattle.translation.proofs.Pairing.{absent_pair, there_pair, slot_refused, translate_answer_lem, translate_pair_lem, slot_small, slot_left_short, slot_edge_short}
use Rattle.translation.proofs.Translating.{kept_answer, kept_written, changed_answer, changed_written}

pub ruleset translate_in = (part_counts, cut_next_fits, kept_answer, kept_written, changed_answer, changed_written)

pub ruleset translate_key = (handing_on, accepted, value_is)

pub ruleset slot_pair = (part_counts, absent_pair, there_pair)

pub ruleset translate = (trying, telling, slot_refused, translate_answer_lem, translate_pair_lem, slot_small, slot_left_short, slot_edge_short)
