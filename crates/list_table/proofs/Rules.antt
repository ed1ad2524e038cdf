-- For each function the lemmas by which the check finds its goals.
use Rattle.list_table.proofs.Whole.{never_refused, list_length, list_whole}

pub ruleset list_read = (never_refused, list_length, list_whole)
