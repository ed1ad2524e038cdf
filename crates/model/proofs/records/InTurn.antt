-- Values written in turn, each in as many bytes, at the head of a destination: what is written so far grows by the next value at its place.
use mathlib.Core.Path.{◌≡◌, refl}
use mathlib.Core.Bool.{Bool, true}
use mathlib.Core.List.{List, [], ◌∷◌, ◌++◌, map, append-nil}
use Prim.Native.Nat.{ℕ, ◌+◌, ◌*◌, ◌-◌, ◌≤◌, ◌<◌}
use native.Mathlib.Numerals.{add-one}
use native.Mathlib.Omega.{arith}
use lib.ListN.{length, take, drop, get_or}
use lib.Seq.{length-take-le, take-suc, take_all, drop-append_seam}
use borrow.Rule.Slice.PartMut.{put_mid}
use Rattle.model.specs.records.Record.{joined}
use Rattle.model.specs.tables.Tables.{all}
use Rattle.model.specs.calls.Refusals.{over}
use Rattle.model.proofs.Lists.{rest, lent_on, take_over, over_append, all_parts}
use Rattle.model.proofs.records.Records.{joined_append, length_joined}

-- a is written, and b to what is lent on after it
pub over_on : (n : ℕ) (a b d v w : List ℕ) → length a ≡ n → v ≡ over a d → w ≡ over b (take (length v - n) (drop n v))
    → put_mid n (length v - n) v w ≡ over (a ++ b) d
over_on n a b d v w m e g =
    let after : drop (length a) (over a d) ≡ drop (length a) d = unfold over in drop-append_seam a _ in
    rw (lent_on, g, rest, ← m, e, take_over, after, over_append)

module _ {A : Type 0} (write : A → List ℕ) (xs : List A) where
  -- the bytes of the first i values
  abbrev pub written : ℕ → List ℕ
  written i = joined (map write (take i xs))

  -- nothing is written of no value
  pub turn_start : (d : List ℕ) → d ≡ over (written 0) d
  unfolding joined over
  turn_start d = refl

  -- of all values everything is
  pub turn_end : (i : ℕ) (d v : List ℕ) → length xs ≤ i → v ≡ over (written i) d → v ≡ over (joined (map write xs)) d
  turn_end i d v m e = rw (take_all i xs m) at e

  module _ (s : ℕ) (ok : A → Bool) (size : (x : A) → ok x ≡ true → length (write x) ≡ s) (h : all ok xs ≡ true) (i : ℕ) (m : i < length xs) where
    -- the first i values take i pieces
    turn_size : length (written i) ≡ i * s
    turn_size = rw (length_joined s ok write size (take i xs) (all_parts ok i xs h).0, length-take-le i xs (omega arith))

    -- one value more
    turn_more : (x : A) → written i ++ write (get_or xs i x) ≡ written (i + 1)
    unfolding joined
    turn_more x = rw (add-one, take-suc xs i x m, joined_append write (take i xs) (get_or xs i x ∷ []), append-nil)

    -- the next value is written at its place, to what is lent on from there
    pub turn_next : (x : A) (d v w : List ℕ) → v ≡ over (written i) d
        → w ≡ over (write (get_or xs i x)) (take (length v - i * s) (drop (i * s) v))
        → put_mid (i * s) (length v - i * s) v w ≡ over (written (i + 1)) d
    turn_next x d v w e g = rw (← turn_more x) (over_on (i * s) (written i) (write (get_or xs i x)) d v w turn_size e g)
