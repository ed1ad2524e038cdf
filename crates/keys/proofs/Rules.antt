-- For each function the lemmas by which the check finds its goals.
use Rattle.keys.proofs.Elements.{both_max, left_max, right_max, two_keys, told_below, max_fails, key_below, key_not_above}
use Rattle.keys.proofs.Padded.{elements_told, words_decide, rest_decides_words, left_mark, right_mark, words_first}
use Rattle.model.proofs.calls.Refusals.{answering}
use Rattle.model.proofs.keys.CommonRun.{cmp_equal, cmp_shorter, cmp_longer, cmp_below, cmp_above}

pub ruleset compare = (elements_told, answering)

pub ruleset compare_bytes = (cmp_equal, cmp_shorter, cmp_longer, cmp_below, cmp_above)

pub ruleset compare_elements = (both_max, left_max, right_max, two_keys)

pub ruleset compare_keys = (words_decide, rest_decides_words)

pub ruleset compare_padded = (left_mark, right_mark, words_first)

pub ruleset is_below = (told_below)

pub ruleset passes = (max_fails, key_below, key_not_above)
