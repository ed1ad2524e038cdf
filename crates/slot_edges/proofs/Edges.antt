-- The edge of a range whose prefix grows, made as a record.
use Rattle.std.specs.Prelude.{Result, Ok, Err}
use mathlib.Core.Path.{◌≡◌, refl, sym, ap, ◌∙◌}
use mathlib.Core.Bool.{Bool, true, false, cond, not}
use mathlib.Core.List.{List, []}
use mathlib.Core.Logic.{⊎_elim}
use Prim.Native.Nat.{ℕ, ◌≤◌, ◌<◌}
use native.Mathlib.Omega.{arith}
use mir.Syntax.{w16}
use mir.Val.{Fits}
use borrow.Author.Tests.{le-leb, lt-leb, le-ltb, lt-ltb, leb-true, not-false}
use lib.ListN.{length, take}
use Rattle.model.specs.declared.Refusal.{Refusal}
use Rattle.model.specs.declared.Refusal.TheVariants.{TooLong}
use Rattle.model.specs.declared.EdgeKind.{EdgeKind}
use Rattle.model.specs.declared.EdgeKind.TheVariants as kinds
use Rattle.model.specs.keys.Key.{Key, max_len, IsPrefix, change_prefix}
use Rattle.model.specs.records.Record.{Edge, edge, no_edge, record_size, key_bytes, edge_of, zeros, record_of, encode_edge}
use Rattle.model.specs.inner.EdgeKinds.{edge_kind}
use Rattle.model.specs.inner.Written.{clipped, into}
use Rattle.model.specs.tables.Tables.{short_edge}
use Rattle.model.specs.cuts.Cuts.{cut_edge}
use Rattle.model.specs.calls.KeyCalls.{size_causes, change_prefix_causes, change_prefix_answer, change_prefix_leaves}
use Rattle.model.specs.calls.Refusals.{outcome, answer, leaves, over}
use Rattle.model.proofs.Lists.{into_over, clipped_all, le_or_lt}
use Rattle.model.proofs.calls.Refusals.{accepted, none_here, handed_on, call_passed}
use Rattle.model.proofs.calls.KeyCalls.{only_sizes, change_counts, change_most, change_head, change_inside}
use Rattle.model.proofs.records.Record.{length-encode_edge, absent_edge, prefix_edge}
use Rattle.slot_edges.specs.Slot.{grown_causes, grown_record, grown_answer, grown_leaves, long_edge_causes}

-- a cut edge that isn't refused is short
pub edge_taken : (x : Edge) (z : Result ℕ Refusal) → z ≡ answer (long_edge_causes x) 1 → (m : ℕ) → z ≡ Ok m → short_edge x ≡ true
edge_taken x z q m r = not-false _ (none_here _ TooLong [] (accepted (long_edge_causes x) 1 z q m r))

-- ---- a record that is no prefix is copied

module _ (r p q : List ℕ) (t : EdgeKind) (e : t ≡ edge_kind r) (g : t ≡ kinds.Absent) where
  pub absent_answer : Ok 1 ≡ grown_answer p q r
  unfolding grown_answer outcome
  absent_answer = rw (absent_edge r t e g)

  pub absent_left : (w made : List ℕ) → w ≡ into r made → w ≡ grown_leaves p q r made
  unfolding grown_leaves outcome
  absent_left w made f = rw (absent_edge r t e g) f

-- ---- a prefix is changed, in 64 bytes

-- of the room only its length counts
room_counts : (p q b room : List ℕ) → length room ≡ 64 → change_prefix_causes q p b room ≡ change_prefix_causes q p b (zeros max_len)
room_counts p q b room x = rw x

module _ (a : Result ℕ Refusal) (r p q b room w : List ℕ) (h : a ≡ change_prefix_answer q p b room) (k : w ≡ change_prefix_leaves q p b room)
    (u : b ≡ key_bytes r) (x : length room ≡ 64) where
  -- ---- what is known of it whatever the record

  module _ (n : ℕ) (f : a ≡ Ok n) where
    counts : n ≡ length (change_prefix p b q)
    counts = change_counts q p b room a h n f

    at_most : n ≤ 64
    at_most = change_most q p b room a h n f

    made_of : take n w ≡ change_prefix p b q
    made_of = change_head q p b room a h n f w k

    pub made_fits : Fits w16 n
    made_fits = record { fits = omega (arith, at_most) }

    pub made_inside : n ≤ length w
    made_inside = change_inside q p b room a h n f w k (omega (arith, x))

    pub made_counts : n ≡ length (take n w)
    made_counts = counts ∙ ap length (sym made_of)

  -- ---- its causes are those of the cut edge

  module _ (t : EdgeKind) (e : t ≡ edge_kind r) (v : ℕ) (g : t ≡ kinds.Prefix v) where
    edge_is : edge_of r ≡ edge b
    edge_is = prefix_edge r t e v g ∙ ap edge (sym u)

    caused : a ≡ answer (grown_causes p q (edge_of r)) (length (change_prefix p b q))
    caused = h ∙ rw (edge_is, room_counts p q b room x)

    module _ (y : Refusal) (f : a ≡ Err y) where
      pub long_answer : (z : Result ℕ Refusal) → z ≡ Err y → z ≡ grown_answer p q r
      unfolding grown_answer
      long_answer z o = handed_on _ _ a caused Err (Ok 1) z y f o

      pub long_kept_lem : (made : List ℕ) → made ≡ grown_leaves p q r made
      unfolding grown_leaves
      long_kept_lem made = handed_on _ _ a caused (λ (_ : Refusal). made) _ made y f refl

    module _ (n : ℕ) (f : a ≡ Ok n) where
      pub made_answer : Ok 1 ≡ grown_answer p q r
      unfolding grown_answer
      made_answer = call_passed _ _ a caused Err (Ok 1) (Ok 1) n f refl

      written : record_of n (clipped (take n w)) ≡ grown_record p q r (edge_of r)
      unfolding encode_edge cut_edge
      written =
          let c : clipped (take n w) ≡ change_prefix p b q = rw (made_of n f) (clipped_all _ (omega (arith, counts n f, at_most n f))) in
          rw (c, edge_is, ← counts n f)

      pub made_left : (o made : List ℕ) → o ≡ into (record_of n (clipped (take n w))) made → o ≡ grown_leaves p q r made
      unfolding grown_leaves
      made_left o made y = call_passed _ _ a caused (λ (_ : Refusal). made) _ o n f (y ∙ rw written)

-- ---- where the prefix grows, and the record is that of its edge, only 8 may apply

-- what is written into 64 bytes has room where it is not too long
only_long : {A : Type 0} (f : Refusal → A) (v : A) (k : Key) → outcome f (size_causes k (zeros max_len)) v ≡ outcome f (long_edge_causes (edge k)) v
unfolding outcome
only_long f v k =
    ⊎_elim (λ (h : length k ≤ 64). rw (le-ltb 64 (length k) h, le-leb (length k) 64 h))
    (λ (h : 64 < length k). rw (lt-ltb 64 (length k) h, lt-leb (length k) 64 h)) (le_or_lt (length k) 64)

module _ (p q : Key) (g : IsPrefix p q ≡ true) (l : length q ≤ max_len) where
  grown_long : {A : Type 0} (f : Refusal → A) (v : A) (x : Edge) → short_edge x ≡ true
      → outcome f (grown_causes p q x) v ≡ outcome f (long_edge_causes (cut_edge p q x)) v
  unfolding cut_edge
  grown_long f v (edge b) s = only_sizes f v q p b (zeros max_len) l (leb-true (length b) max_len s) g ∙ only_long f v (change_prefix p b q)
  grown_long f v no_edge s = unfold outcome in refl

-- a short edge has room
room_made : (d : List ℕ) (x : Edge) → record_size ≤ length d
    → outcome (λ (_ : Refusal). d) (long_edge_causes x) (into (encode_edge x) d) ≡ leaves (long_edge_causes x) (encode_edge x) d
unfolding outcome
room_made d x h = go (short_edge x) refl
  where
    go : (b : Bool) → short_edge x ≡ b → cond (not b) d (into (encode_edge x) d) ≡ cond (not b) d (over (encode_edge x) d)
    go true b = into_over (encode_edge x) d (omega (arith, length-encode_edge x b, h))
    go false b = refl

same_record : (p q : Key) (r : List ℕ) (x : Edge) → encode_edge x ≡ r → grown_record p q r x ≡ encode_edge (cut_edge p q x)
unfolding cut_edge
same_record p q r (edge b) h = refl
same_record p q r no_edge h = sym h

module _ (p q r : List ℕ) (g : IsPrefix p q ≡ true) (l : length q ≤ max_len) (s : short_edge (edge_of r) ≡ true) where
  pub grown_answer_lem : grown_answer p q r ≡ answer (long_edge_causes (cut_edge p q (edge_of r))) 1
  unfolding grown_answer
  grown_answer_lem = grown_long p q g l Err (Ok 1) (edge_of r) s

  pub grown_left : (made : List ℕ) → encode_edge (edge_of r) ≡ r → record_size ≤ length made
      → grown_leaves p q r made ≡ leaves (long_edge_causes (cut_edge p q (edge_of r))) (encode_edge (cut_edge p q (edge_of r))) made
  unfolding grown_leaves
  grown_left made h m =
      rw (same_record p q r (edge_of r) h)
      (grown_long p q g l (λ (_ : Refusal). made) _ (edge_of r) s ∙ room_made made (cut_edge p q (edge_of r)) m)
