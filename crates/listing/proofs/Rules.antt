-- For each function the lemmas by which the check finds its goals.
use Rattle.listing.proofs.Listed.{value_length, value_written, refusal_length, refusal_written, found_count, no_room_answer, no_room_leaves, room_answer, room_leaves, number_small, refused_length, refused_written}

pub ruleset found_text = (value_length, value_written, refusal_length, refusal_written)

pub ruleset list_table = (found_count, no_room_answer, no_room_leaves, room_answer, room_leaves)

pub ruleset refused_text = (number_small, refused_length, refused_written)
