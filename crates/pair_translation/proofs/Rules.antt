-- For each function the lemmas by which the check finds its goals.
use Rattle.pair_bytes.proofs.Placing.{placed_answer_lem, placed_written}
use Rattle.pair_translation.proofs.Lengths.{translate_fits}

pub ruleset translate_pair = (placed_answer_lem, placed_written, translate_fits)
