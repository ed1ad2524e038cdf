-- The record of a key in two parts: a length field and zeros, and then the key's bytes over the zeros; and when it is written.
use mathlib.Core.Path.{◌≡◌, refl, ap, ◌∙◌}
use mathlib.Core.List.{List, [], ◌∷◌, ◌++◌, append_assoc}
use Prim.Native.Nat.{ℕ, ◌+◌, ◌-◌, ◌/◌, ◌%◌, ◌≤◌, ◌<◌}
use native.Mathlib.Omega.{arith}
use borrow.Author.Tests.{le-leb, lt-leb}
use borrow.Rule.Slice.PartMut.{put_mid}
use mir.Syntax.{w8}
use mir.Val.{Fits}
use lib.ListN.{length, take, drop, set, length-append, length-replicate}
use lib.Seq.{length-take-le, drop-append-le}
use Rattle.std.proofs.lemmas.List.{drop-replicate}
use Rattle.model.specs.keys.Key.{max_len}
use Rattle.model.specs.records.Record.{zeros, record_of}
use Rattle.model.specs.inner.Written.{into, recorded}
use Rattle.model.specs.calls.Refusals.{over}
use Rattle.model.proofs.Lists.{rest, lent_on, into_over}
use Rattle.model.proofs.records.Record.{length_record}
use Rattle.records.specs.Blank.{blank}

-- ---- the length field and zeros

-- over 66 zeros the length is written in the second byte
pub head_made : (n : ℕ) (d v : List ℕ) → Fits w8 n → 66 ≤ length d → v ≡ zeros (length (take 66 d)) → set (v ++ drop 66 d) 1 n ≡ blank n d
unfolding blank over record_of
head_made n d v f m e =
    let high : n / 256 ≡ 0 = omega (arith, f.fits) in
    let low : n % 256 ≡ n = omega (arith, f.fits) in
    rw (le-leb 66 (length d) m, e, length-take-le 66 d m, high, low)

-- without room nothing is
pub head_none : (n : ℕ) (d : List ℕ) → length d < 66 → d ≡ blank n d
unfolding blank
head_none n d h = rw (lt-leb 66 (length d) h)

-- ---- the key's bytes over the zeros

-- what is written over zeros leaves the rest of them
over_zeros : (n : ℕ) (k t : List ℕ) → length k ≤ n → over k (zeros n ++ t) ≡ (k ++ zeros (n - length k)) ++ t
unfolding over
over_zeros n k t h =
    rw (drop-append-le (length k) (zeros n) t (omega (arith, length-replicate {A = ℕ} n 0)), drop-replicate, append_assoc)

-- what stands after a record is written
over_record : (f : ℕ) (k d : List ℕ) → length k ≤ max_len → over (record_of f k) d ≡ f / 256 ∷ f % 256 ∷ ((k ++ zeros (max_len - length k)) ++ drop 66 d)
unfolding over
over_record f k d h = rw (length_record f k h) (unfold record_of in refl)

module _ (a b d v w : List ℕ) (h : length a + length b ≤ 64) (m : 66 ≤ length d) (n : ℕ) (l : n ≡ length a + length b) (e : v ≡ blank n d) where
  -- what stands before the key's bytes are written
  head_is : v ≡ (length a + length b) / 256 ∷ (length a + length b) % 256 ∷ (zeros max_len ++ drop 66 d)
  unfolding blank
  head_is = (rw (le-leb 66 (length d) m, l) at e) ∙ over_record (length a + length b) [] d (omega arith)

  -- and after them: the record of the whole key
  pub joined_made : w ≡ into (a ++ b) (take (length v - 2) (drop 2 v)) → put_mid 2 (length v - 2) v w ≡ over (record_of (length (a ++ b)) (a ++ b)) d
  joined_made g =
      let c : length (a ++ b) ≡ length a + length b = length-append a b in
      let s : drop 2 v ≡ zeros max_len ++ drop 66 d = ap (drop 2) head_is in
      let room : length (a ++ b) ≤ length (zeros max_len ++ drop 66 d) = omega (arith, c, length-append (zeros max_len) (drop 66 d), length-replicate {A = ℕ} max_len 0) in
      let y : w ≡ (a ++ b ++ zeros (max_len - length (a ++ b))) ++ drop 66 d =
      g ∙ rw (rest v 2, s, into_over (a ++ b) (zeros max_len ++ drop 66 d) room) (over_zeros max_len (a ++ b) (drop 66 d) (omega (arith, c)))
      in
      rw (lent_on 2 v w, y, head_is, over_record (length (a ++ b)) (a ++ b) d (omega (arith, c)), c)

-- ---- whether it is written

module _ (a b d : List ℕ) where
  -- the first part alone is too long
  pub long_first : 64 < length a → d ≡ recorded (a ++ b) d
  unfolding recorded
  long_first h = rw (lt-leb (length (a ++ b)) max_len (omega (arith, length-append a b)))

  module _ (h : length a ≤ 64) where
    -- or both together are
    pub long_second : 64 - length a < length b → d ≡ recorded (a ++ b) d
    unfolding recorded
    long_second i = rw (lt-leb (length (a ++ b)) max_len (omega (arith, length-append a b)))

    module _ (i : length b ≤ 64 - length a) where
      -- or there is no room
      pub no_room_lem : length d < 66 → d ≡ recorded (a ++ b) d
      unfolding recorded
      no_room_lem j = rw (le-leb (length (a ++ b)) max_len (omega (arith, length-append a b)), lt-leb 66 (length d) j)

      -- else it is
      pub room : (v : List ℕ) → 66 ≤ length d → v ≡ over (record_of (length (a ++ b)) (a ++ b)) d → v ≡ recorded (a ++ b) d
      unfolding recorded
      room v j e = rw (le-leb (length (a ++ b)) max_len (omega (arith, length-append a b)), le-leb 66 (length d) j) e

  -- where it has room a key that is short is written
  pub recorded_whole : (v : List ℕ) → length a + length b ≤ max_len → 66 ≤ length d → v ≡ recorded (a ++ b) d
      → v ≡ over (record_of (length (a ++ b)) (a ++ b)) d
  unfolding recorded
  recorded_whole v h j e = rw (le-leb (length (a ++ b)) max_len (omega (arith, length-append a b)), le-leb 66 (length d) j) at e

-- each way out of `put_joined`
pub ruleset joining = (long_first, long_second, no_room_lem, room)
