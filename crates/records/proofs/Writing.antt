-- A record made in an array.
use mathlib.Core.Path.{◌≡◌}
use mathlib.Core.List.{List, [], ◌∷◌, ◌++◌, append-nil}
use Prim.Native.Nat.{ℕ, ◌/◌, ◌%◌}
use native.Mathlib.Omega.{arith}
use lib.ListN.{get_or}
use mir.Syntax.{w16}
use mir.Val.{Fits}
use Rattle.std.proofs.lemmas.List.{drop-replicate}
use Rattle.model.specs.records.Record.{zeros, record_of}
use Rattle.model.specs.calls.Refusals.{over}
use Rattle.model.specs.inner.Written.{clipped, into}

-- the two bytes of its length field, and a key copied over 64 zeros
pub record_made : (f : ℕ) (k b v : List ℕ) → Fits w16 f → b ≡ f / 256 % 256 ∷ f % 256 ∷ [] → v ≡ into k (zeros 64)
    → get_or b 0 0 ∷ get_or b 1 0 ∷ (v ++ []) ≡ record_of f (clipped k)
unfolding record_of clipped into over
record_made f k b v h e g =
    let high : f / 256 % 256 ≡ f / 256 = omega (arith, h.fits) in
    rw (e, high, append-nil, g, drop-replicate)
