-- For each function the lemmas by which the check finds its goals.
use Rattle.list_fields.proofs.Texts.{both_length, both_written}
use Rattle.list_lines.proofs.SlotLines.{line_length, line_written, lines_none, lines_none_written, lines_length, lines_written, lines_end_length, lines_end_written}

pub ruleset line_head = (both_length, both_written)

pub ruleset line_pivots = (both_length, both_written)

pub ruleset line_rest = (both_length, both_written)

pub ruleset slot_line = (line_length, line_written)

pub ruleset slot_lines = (lines_none, lines_none_written, lines_length, lines_written, lines_end_length, lines_end_written)
