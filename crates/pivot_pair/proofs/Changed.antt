-- The record of a key whose prefix is changed: the new prefix, and what goes on beyond the old one.
use mathlib.Core.Path.{◌≡◌, sym, ◌∙◌}
use mathlib.Core.List.{List, ◌++◌}
use Prim.Native.Nat.{ℕ, ◌+◌, ◌-◌, ◌≤◌}
use native.Mathlib.Omega.{arith}
use lib.ListN.{length, take, drop, length-append, length-drop}
use Rattle.model.specs.keys.Key.{change_prefix}
use Rattle.model.specs.keys.Order.{key}
use Rattle.model.specs.records.Record.{record_size, encode}
use Rattle.model.specs.inner.Written.{into, recorded}
use Rattle.model.proofs.Lists.{rest, into_over}
use Rattle.model.proofs.records.Record.{length_record}
use Rattle.records.proofs.JoinedKeys.{recorded_whole}

-- where there is room it is written whole
pub changed_written : (p q k d v : List ℕ) → length q + (length k - length p) ≤ 64 → record_size ≤ length d
    → v ≡ recorded (q ++ take (length k - length p) (drop (length p) k)) d → v ≡ into (encode (key (change_prefix p q k))) d
unfolding encode change_prefix
changed_written p q k d v i m e =
    let t = drop (length p) k in
    let n : length q + length t ≤ 64 = omega (arith, length-drop (length p) k) in
    let r = length_record (length (q ++ t)) (q ++ t) (omega (arith, length-append q t)) in
    recorded_whole q t d v n m (rw rest at e) ∙ sym (into_over _ d (omega (arith, r)))
