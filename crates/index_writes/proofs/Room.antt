-- Entries and an index written where both destinations have room.
use mathlib.Core.Path.{◌≡◌, ◌∙◌}
use mathlib.Core.List.{List, []}
use Prim.Native.Nat.{ℕ, ◌≤◌, ◌<◌}
use borrow.Author.Tests.{lt-ltb, le-ltb}
use lib.ListN.{length}
use Rattle.model.specs.declared.Refusal.{Refusal}
use Rattle.model.specs.declared.Refusal.TheVariants.{NoRoom}
use Rattle.model.specs.inner.Written.{into}
use Rattle.model.specs.calls.Refusals.{outcome, leaves}
use Rattle.model.specs.calls.KeyCalls.{no_room}
use Rattle.model.specs.calls.CutCalls.{room_causes}
use Rattle.model.proofs.Lists.{into_over}
use Rattle.model.proofs.calls.Refusals.{here, later, done, or_left, or_right, or_neither}

module _ {A : Type 0} (f : Refusal → A) (v z : A) (e y db dx : List ℕ) where
  pub bucket_lacks : length db < length e → z ≡ f NoRoom → z ≡ outcome f (room_causes (length e) (length y) db dx) v
  bucket_lacks h g = here f v z _ NoRoom [] (or_left (no_room (length e) db) (no_room (length y) dx) (lt-ltb (length db) (length e) h)) g

  pub index_lacks : length dx < length y → z ≡ f NoRoom → z ≡ outcome f (room_causes (length e) (length y) db dx) v
  index_lacks h g = here f v z _ NoRoom [] (or_right (no_room (length e) db) (no_room (length y) dx) (lt-ltb (length dx) (length y) h)) g

  pub both_hold : length e ≤ length db → length y ≤ length dx → z ≡ v → z ≡ outcome f (room_causes (length e) (length y) db dx) v
  both_hold h k g = later f v z _ NoRoom [] (or_neither (no_room (length e) db) (no_room (length y) dx) (le-ltb (length db) (length e) h) (le-ltb (length dx) (length y) k)) (done f v z g)

-- what is written as far as there is room is written whole
pub bucket_written : (e y db dx w : List ℕ) → length e ≤ length db → length y ≤ length dx → w ≡ into e db → w ≡ leaves (room_causes (length e) (length y) db dx) e db
bucket_written e y db dx w h k g = both_hold (λ (_ : Refusal). db) _ w e y db dx h k (g ∙ into_over e db h)

-- `write_side`, by its tests
pub ruleset side_room = (bucket_lacks, index_lacks, both_hold, bucket_written)
