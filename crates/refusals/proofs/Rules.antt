-- For each function the lemmas by which the check finds its goals.
use Rattle.refusals.proofs.InStep.{none_second, none_first, second_less, first_least}

pub ruleset earlier = (none_second, none_first, second_less, first_least)
