-- For each function the lemmas by which the check finds its goals.
use Rattle.key_parts.proofs.KeyOf.{entry_room, entry_answer, entry_part, key_cases, end_fits, end_inside, key_fills}
use Rattle.model.proofs.calls.Refusals.{answering, handing_on}

pub ruleset entry_key = (answering, entry_room, entry_answer)

pub ruleset entry_key_part = (answering, entry_room, entry_part)

pub ruleset pivot_key = (key_cases, answering)

pub ruleset pivot_key_part = (handing_on, end_fits, end_inside, key_fills)
