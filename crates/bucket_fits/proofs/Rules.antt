-- For each function the lemmas by which the check finds its goals.
use mathlib.Core.Path.{refl}
use Rattle.bucket_fits.proofs.Fitting.{long_no, fits_room, will_decided}
use Rattle.bucket_measures.proofs.Causes.{check_good, check_refused}
use Rattle.model.proofs.calls.Refusals.{trying}

pub ruleset fits = (long_no, fits_room)

pub ruleset translate_bucket_will_fit = (refl, trying, check_good, check_refused, will_decided)
