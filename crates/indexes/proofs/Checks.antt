-- The ways out of the checks: causes 5 of pivots and bucket, and 15 of the index, behind 1, 2, 3 and 14.
use Rattle.std.specs.Prelude.{Result, Ok, Err}
use mathlib.Core.Path.{◌≡◌, sym, ap}
use mathlib.Core.Bool.{Bool, true, false, not, ◌||◌}
use mathlib.Core.List.{List, [], ◌∷◌, ◌++◌, append_assoc}
use mathlib.Core.Option.{none}
use Prim.Native.Nat.{ℕ, ◌*◌, ◌/◌, ◌≤◌, ◌<◌}
use native.Mathlib.Omega.{arith}
use borrow.Author.Tests.{not-false, ne_eqb, eq-eqb, lt-ltb, le-ltb, ltb-false, le-leb}
use lib.ListN.{length, take, length-append}
use mir.Syntax.{w16, w64}
use mir.Val.{Fits}
use Rattle.model.specs.declared.Refusal.{Refusal}
use Rattle.model.specs.declared.Refusal.TheVariants.{OutOfRange, NoRoom, EntriesUnsorted, WrongIndex}
use Rattle.model.specs.keys.Key.{max_len, too_long, IsPrefix}
use Rattle.model.specs.keys.Order.{key}
use Rattle.model.specs.records.Record.{record_of, encode, element, elements}
use Rattle.model.specs.tables.Tables.{max_pivots, WFPivots}
use Rattle.model.specs.buckets.Bucket.{entry_size, entry_bytes, entries, entries_rise}
use Rattle.model.specs.buckets.Index.{entries_below, place_size}
use Rattle.model.specs.inner.Written.{clipped}
use Rattle.model.specs.calls.Refusals.{◌⇒◌, outcome, paired, first, answer, over}
use Rattle.model.specs.calls.KeyCalls.{no_room}
use Rattle.model.specs.calls.TableCalls.{pivot_causes}
use Rattle.model.specs.calls.BucketCalls.{entries_read, bucket_causes}
use Rattle.model.specs.calls.IndexCalls.{entries_inside, entries_causes, index_bytes, wrong_index, given_causes, build_index_causes}
use Rattle.model.proofs.Lists.{take_over, clipped_all}
use Rattle.model.proofs.records.Record.{length_encode, element_encode, reading_key}
use Rattle.model.proofs.calls.Refusals.{here, later, done, accepted, value_is, refused, refused_first, after, passed, none_here, none_before, none_after, paired_none}
use Rattle.model.proofs.calls.TableCalls.{length_elements, causes_wrong, causes_wf, causes_most}
use Rattle.model.proofs.calls.BucketCalls.{bucket_read}
use Rattle.model.proofs.calls.IndexCauses.{entries_wrong, entries_bucket, entries_rise_lem, given_entries}
use Rattle.model.proofs.buckets.IndexBytes.{length-encode_index, index_count}
use Rattle.keys.specs.Padded.{Padded}
use Rattle.entries.proofs.Places.{length_entries}
use Rattle.entry_order.specs.Rising.{rising_causes, Rising, CheckedBoth}

-- a bucket that rises is read
pub rising_read : (l : List ℕ) → Rising l → entries_read (entry_bytes l) ≡ true
rising_read l w = bucket_read false l w.read

-- ---- causes 5 and 15 behind that

-- the lists of causes in turn
entries_list : (wrong outside : Bool) (p l : List ℕ)
    → entries_causes wrong outside p l ≡ rising_causes wrong p l ++ ((outside || not (entries_inside (elements p) (entries l)) ⇒ OutOfRange) ∷ [])
unfolding entries_causes rising_causes
entries_list wrong outside p l = sym (append_assoc (paired (pivot_causes false wrong p) (bucket_causes false l)) _ _)

given_list : (wrong outside : Bool) (p l x : List ℕ)
    → given_causes wrong outside p l x ≡ rising_causes wrong p l ++ ((outside || not (entries_inside (elements p) (entries l)) ⇒ OutOfRange) ∷ (wrong_index p l x ⇒ WrongIndex) ∷ [])
unfolding given_causes
given_list wrong outside p l x = rw (entries_list wrong outside p l) (append_assoc (rising_causes wrong p l) _ _)

module _ (wrong : Bool) (p l : List ℕ) (a : Result ℕ Refusal) (m : ℕ) (e : a ≡ answer (rising_causes wrong p l) m) (n : ℕ) (f : a ≡ Ok n) where
  none_of_rising : first (rising_causes wrong p l) ≡ none
  none_of_rising = accepted (rising_causes wrong p l) m a e n f

  both_none : first (paired (pivot_causes false wrong p) (bucket_causes false l)) ≡ none
  unfolding rising_causes
  both_none = none_before (paired (pivot_causes false wrong p) (bucket_causes false l)) _ none_of_rising

  pivots_none : first (pivot_causes false wrong p) ≡ none
  pivots_none = (paired_none (pivot_causes false wrong p) (bucket_causes false l) both_none).0

  pub wf_checked : WFPivots (elements p) ≡ true
  wf_checked = causes_wf false wrong p pivots_none

  pub bucket_rises : Rising l
  unfolding rising_causes
  bucket_rises =
      record {
        read = (paired_none (pivot_causes false wrong p) (bucket_causes false l) both_none).1;
        rise = not-false (entries_rise (entries l)) (none_here _ EntriesUnsorted [] (none_after (paired (pivot_causes false wrong p) (bucket_causes false l)) _ none_of_rising));
      }

  -- pivots and bucket are checked
  pub checked : CheckedBoth p l
  checked = record { pivots = rw (causes_wrong false wrong p pivots_none) at pivots_none; bucket = bucket_rises }

  -- it is the count of pivots that is answered
  pub pivots_counted : n ≡ m
  pivots_counted = value_is (rising_causes wrong p l) m a e n f

  -- at most 64
  pub count_fits : m ≡ length p / 66 → Fits w64 (n * 2)
  count_fits c = record { fits = omega (arith, pivots_counted, length_elements p, causes_most false wrong p pivots_none) }

  -- the places of so many pivots have room
  pub room_for : (d : List ℕ) → m ≡ length p / 66 → n * 2 ≤ length d → length (elements p) * place_size ≤ length d
  room_for d c h = omega (arith, pivots_counted, length_elements p)

-- pivots that are checked are well formed
pub wf_of_checked : (p l : List ℕ) → CheckedBoth p l → WFPivots (elements p) ≡ true
wf_of_checked p l h = causes_wf false false p h.pivots

-- 5 of another argument comes with that of the entries
pub told_outside : (outside b : Bool) → outside ≡ true → true ≡ (outside || b)
told_outside outside b h = rw h

pub told_inside : (outside t b : Bool) → outside ≡ false → t ≡ b → t ≡ (outside || b)
told_inside outside t b h g = rw h g

-- ---- an index that is built

module _ (p l d : List ℕ) (a : Result ℕ Refusal) (m : ℕ) (e : a ≡ answer (rising_causes false p l) m) {A : Type 0} (g : Refusal → A) (v x : A) where
  pub build_refuses : (r : Refusal) → a ≡ Err r → x ≡ g r → x ≡ outcome g (build_index_causes p l d) v
  build_refuses r f k = rw (entries_list false false p l, append_assoc (rising_causes false p l) _ _) (refused_first g v x (rising_causes false p l) _ r (refused (rising_causes false p l) m a e r f) k)

  module _ (n : ℕ) (f : a ≡ Ok n) (t : Bool) (h : t ≡ not (entries_inside (elements p) (entries l))) where
    then_build : x ≡ outcome g ((t ⇒ OutOfRange) ∷ (no_room (length (elements p) * place_size) d ⇒ NoRoom) ∷ []) v → x ≡ outcome g (build_index_causes p l d) v
    then_build k =
        rw (entries_list false false p l, append_assoc (rising_causes false p l) _ _)
        (after g v x (rising_causes false p l) _ (none_of_rising false p l a m e n f) (rw (← h) k))

    pub build_outside : t ≡ true → x ≡ g OutOfRange → x ≡ outcome g (build_index_causes p l d) v
    build_outside i k = then_build (here g v x t OutOfRange _ i k)

    -- the room goes by the count of pivots
    counts : m ≡ length p / 66 → n ≡ length (elements p)
    counts c = omega (arith, pivots_counted false p l a m e n f, length_elements p)

    pub no_room_lem : m ≡ length p / 66 → t ≡ false → length d < n * 2 → x ≡ g NoRoom → x ≡ outcome g (build_index_causes p l d) v
    no_room_lem c i o k = then_build (later g v x t OutOfRange _ i (here g v x _ NoRoom [] (lt-ltb (length d) (length (elements p) * place_size) (omega (arith, counts c))) k))

    pub room : m ≡ length p / 66 → t ≡ false → n * 2 ≤ length d → x ≡ v → x ≡ outcome g (build_index_causes p l d) v
    room c i o k = then_build (later g v x t OutOfRange _ i (later g v x _ NoRoom [] (le-ltb (length d) (length (elements p) * place_size) (omega (arith, counts c))) (done g v x k)))

-- it answers the count of entries
pub build_counted : (p l d : List ℕ) (a : Result ℕ Refusal) (m : ℕ) → a ≡ answer (rising_causes false p l) m → (n : ℕ) → a ≡ Ok n → (t : Bool) → t ≡ not (entries_inside (elements p) (entries l))
    → m ≡ length p / 66 → t ≡ false → n * 2 ≤ length d → Ok (length l / entry_size) ≡ answer (build_index_causes p l d) (length (entries l))
build_counted p l d a m e n f t h c i o = room p l d a m e Err (Ok (length (entries l))) (Ok (length l / entry_size)) n f t h c i o (ap Ok (sym (length_entries l)))

-- ---- the index given

-- the places of 64 pivots have 128 bytes
pub index_most : (p l : List ℕ) → CheckedBoth p l → length p / 66 * 2 ≤ max_pivots * place_size
index_most p l h = omega (arith, length_elements p, causes_most false false p h.pivots)

pub index_room : (p l b : List ℕ) → CheckedBoth p l → length b ≡ max_pivots * place_size → length (elements p) * place_size ≤ length b
index_room p l b h e = omega (arith, length_elements p, index_most p l h)

module _ (p l x : List ℕ) (h : CheckedBoth p l) where
  index_length : length (index_bytes p l) ≡ length p / 66 * 2
  index_length = rw (length-encode_index, index_count, length_elements p)

  -- what it is written over is no shorter
  pub built_inside : (b d : List ℕ) → b ≡ over (index_bytes p l) d → length p / 66 * 2 ≤ length b
  unfolding over
  built_inside b d e = rw (e, length-append) (omega (arith, index_length))

  -- one of another length is wrong
  pub other_length : (length x ≡ length p / 66 * 2 → ⊥) → true ≡ wrong_index p l x
  other_length k = rw (ne_eqb (length x) (length (index_bytes p l)) (λ e. k (omega (arith, index_length))))

  -- one as long is right where it begins what is built
  pub built_index : length x ≡ length p / 66 * 2 → (b d : List ℕ) → b ≡ over (index_bytes p l) d → (t : Bool) → t ≡ IsPrefix x (take (length p / 66 * 2) b) → not t ≡ wrong_index p l x
  built_index k b d e t g =
      let w : take (length p / 66 * 2) b ≡ index_bytes p l = rw (e, ← index_length) (take_over (index_bytes p l) d) in
      rw (eq-eqb (length x) (length (index_bytes p l)) (omega (arith, index_length)), g, w)

module _ (wrong outside : Bool) (p l x : List ℕ) (a : Result ℕ Refusal) (m : ℕ) (e : a ≡ answer (rising_causes wrong p l) m) where
  -- a refusal of pivots and bucket is handed on
  pub rising_refuses : (r : Refusal) (y : Result ℕ Refusal) (v : ℕ) → a ≡ Err r → y ≡ Err r → y ≡ answer (given_causes wrong outside p l x) v
  rising_refuses r y v f g = rw (given_list wrong outside p l x) (refused_first Err (Ok v) y (rising_causes wrong p l) _ r (refused (rising_causes wrong p l) m a e r f) g)

  -- else 5 and then 15 decide
  module _ (n : ℕ) (f : a ≡ Ok n) (s t : Bool) (g : s ≡ (outside || not (entries_inside (elements p) (entries l)))) (h : t ≡ wrong_index p l x) where
    then_given : (y : Result ℕ Refusal) (v : ℕ) → y ≡ outcome Err ((s ⇒ OutOfRange) ∷ (t ⇒ WrongIndex) ∷ []) (Ok v) → y ≡ answer (given_causes wrong outside p l x) v
    then_given y v k = rw (given_list wrong outside p l x) (after Err (Ok v) y (rising_causes wrong p l) _ (none_of_rising wrong p l a m e n f) (rw (← g, ← h) k))

    pub given_outside : s ≡ true → (v : ℕ) → Err OutOfRange ≡ answer (given_causes wrong outside p l x) v
    given_outside i v = then_given (Err OutOfRange) v (unfold outcome in (rw i))

    pub given_other : s ≡ false → t ≡ true → (v : ℕ) → Err WrongIndex ≡ answer (given_causes wrong outside p l x) v
    given_other i j v = then_given (Err WrongIndex) v (unfold outcome in (rw (i, j)))

    pub given_right : s ≡ false → t ≡ false → Ok (length l / entry_size) ≡ answer (given_causes wrong outside p l x) (length (entries l))
    given_right i j = then_given (Ok (length l / entry_size)) (length (entries l)) (unfold outcome in (rw (i, j, length_entries l)))

-- ---- a key beside them

module _ (outside : Bool) (p l x k : List ℕ) (a : Result ℕ Refusal) (m : ℕ) (e : a ≡ answer (given_causes (too_long k) outside p l x) m) (n : ℕ) (f : a ≡ Ok n) where
  none_of_given : first (given_causes (too_long k) outside p l x) ≡ none
  none_of_given = accepted (given_causes (too_long k) outside p l x) m a e n f

  entries_none : first (entries_causes (too_long k) outside p l) ≡ none
  entries_none = given_entries (too_long k) outside p l x none_of_given

  -- it has at most 64 bytes
  pub key_short : length k ≤ max_len
  key_short = ltb-false max_len (length k) (entries_wrong (too_long k) outside p l entries_none)

  pub key_fits : Fits w16 (length k)
  key_fits = record { fits = omega (arith, key_short) }

  pub side_rises : Rising l
  side_rises = record { read = entries_bucket (too_long k) outside p l entries_none; rise = entries_rise_lem (too_long k) outside p l entries_none }

  module _ (r : List ℕ) (g : r ≡ record_of (length k) (clipped k)) where
    encoded : r ≡ encode (key k)
    unfolding encode
    encoded = rw (g, clipped_all k key_short)

    -- its record can be compared by words
    pub key_padded : Padded r
    key_padded = rw encoded (length_encode (key k) (le-leb (length k) max_len key_short), rw (reading_key k key_short))

    stands_for : element r ≡ key k
    stands_for = rw encoded (element_encode (key k) (le-leb (length k) max_len key_short))

    -- the entries below the key are those below the record
    pub side_counted : (c : ℕ) → c ≡ length (entries_below (element r) (entries l)) → Ok c ≡ answer (given_causes (too_long k) outside p l x) (length (entries_below (key k) (entries l)))
    side_counted c h = passed Err (Ok (length (entries_below (key k) (entries l)))) (Ok c) (given_causes (too_long k) outside p l x) none_of_given (rw (h, stands_for))
