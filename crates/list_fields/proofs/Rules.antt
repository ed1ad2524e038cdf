-- For each function the lemmas by which the check finds its goals.
use Rattle.list_fields.proofs.Texts.{key_most, no_edge_length, no_edge_written, edge_length, edge_written, max_length, max_written, pivot_length, pivot_written, part_most, no_prefix_length, no_prefix_written, prefix_length, prefix_written, field_length, field_written, none_length, none_written, some_length, some_written}
use Rattle.model.proofs.Lists.{part_counts}

pub ruleset edge_field = (key_most, no_edge_length, no_edge_written, edge_length, edge_written)

pub ruleset element_field = (key_most, max_length, max_written, pivot_length, pivot_written)

pub ruleset shared_field = (part_counts, part_most, no_prefix_length, no_prefix_written, prefix_length, prefix_written)

pub ruleset key_field = (field_length, field_written)

pub ruleset key_text = (none_length, none_written, some_length, some_written)
