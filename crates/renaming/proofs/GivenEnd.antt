-- TranslatePivots as a whole: the given end beside the pivots, what is written with it, and what is answered.
use Rattle.std.specs.Prelude.{Result, Ok, Err}
use mathlib.Core.Path.{◌≡◌, sym, ◌∙◌}
use mathlib.Core.Bool.{Bool, true, false, not}
use mathlib.Core.List.{List, [], ◌∷◌, ◌++◌, append-nil, append_assoc}
use mathlib.Core.Option.{none}
use Prim.Native.Nat.{ℕ, ◌+◌, ◌*◌, ◌-◌, ◌/◌, ◌%◌, ◌≤◌, ◌<◌}
use native.Mathlib.Omega.{arith}
use mir.Syntax.{w8}
use mir.Val.{Fits}
use borrow.Author.Tests.{eqb-true, lt-ltb, le-ltb, not-false}
use borrow.Rule.Slice.PartMut.{put_mid}
use lib.ListN.{length, take, drop, get_or, length-drop, length-append, length-map}
use Rattle.model.specs.declared.Refusal.{Refusal}
use Rattle.model.specs.declared.Refusal.TheVariants.{NotBelow, NoRoom}
use Rattle.model.specs.keys.Key.{Bytes, max_len}
use Rattle.model.specs.keys.Order.{lt}
use Rattle.model.specs.records.Record.{record_size, length_field, record_of, element, elements, encode, encode_all, joined}
use Rattle.model.specs.inner.Written.{clipped, into}
use Rattle.model.specs.translation.Renaming.{TranslateElement, TranslatePivots}
use Rattle.model.specs.calls.Refusals.{outcome, first, answer, over}
use Rattle.model.specs.calls.RenamingCalls.{but_last, new_pivots, last_translated, pivots_causes}
use Rattle.model.proofs.Lists.{rest, into_over, clipped_all}
use Rattle.model.proofs.keys.Key.{bytes_of}
use Rattle.model.proofs.records.Record.{length_encode, short_element_lem, encode_element}
use Rattle.model.proofs.records.Records.{joined_append, length-encode_all}
use Rattle.model.proofs.records.InTurn.{over_on}
use Rattle.model.proofs.calls.Refusals.{here, later, done, handed_on-first, call_passed_first, accepted, none_before, none_after}
use Rattle.model.proofs.calls.TableCalls.{length_elements, causes_shape, causes_whole, causes_least}
use Rattle.changed_pivots.specs.Renamed.{changed_pivots, with_end_causes, Given, renamed_causes}
use Rattle.changed_pivots.proofs.KeyPass.{but_count}
use Rattle.changed_pivots.proofs.Given.{given_wf, end_element, only_changed}
use Rattle.renaming.specs.Change.{end_causes, Changeable}
use Rattle.renaming.proofs.NewPivots.{changed_count, changed_short}

-- ---- a record of 66 bytes is its length field and the 64 bytes after it

whole_record : (r : List ℕ) → Bytes r → length r ≡ 66 → record_of (length_field r) (drop 2 r) ≡ r
unfolding record_of length_field
whole_record [] b h = absurd (omega arith)
whole_record (x ∷ []) b h = absurd (omega arith)
whole_record (x ∷ y ∷ t) b h =
    let hx : (x * 256 + y) / 256 ≡ x = omega (arith, b.1.0) in
    let hy : (x * 256 + y) % 256 ≡ y = omega (arith, b.1.0) in
    let z : max_len - length t ≡ 0 = omega arith in
    rw (hx, hy, z, append-nil)

module _ (v p q n : List ℕ) (h : Given v p q n) where
  -- of 66 bytes
  end_size : length n ≡ 66
  end_size = eqb-true (length n) 66 (not-false _ (causes_shape _ _ v h))

  -- the pivots are whole records
  pivots_size : length v ≡ length v / 66 * 66
  pivots_size = rw (length_elements v) at (causes_whole _ _ v h)

  -- two or more
  pivots_count : 2 ≤ length v / 66
  pivots_count = rw (length_elements v) at (causes_least _ _ v h)

  -- ---- how many pivots there are, and how long

  -- there are as many new pivots as pivots
  new_count : length (new_pivots v p q n) ≡ length v / 66
  unfolding TranslatePivots
  new_count = length-append (changed_pivots v p q) (element n ∷ []) ∙ omega (arith, pivots_count, length-map (but_last (elements v)) (TranslateElement p q), but_count v (given_wf v p q n h))

  -- so many are answered
  pub given_count : length v / 66 ≡ length (new_pivots v p q n)
  given_count = sym new_count

  -- and they take as much room
  new_size : length (new_pivots v p q n) * record_size ≡ length v
  new_size = rw new_count (sym pivots_size)

  -- ---- what is written

  -- there is a last record for the end
  pub given_size : 66 ≤ length v
  given_size = omega (arith, pivots_size, pivots_count)

  -- and the end has bytes after its length field
  pub given_end : 2 ≤ length n
  given_end = omega (arith, end_size)

  -- the record made of them is the end's
  end_record : Bytes n → record_of (length_field n) (clipped (take (length n - 2) (drop 2 n))) ≡ encode (element n)
  end_record b =
      let t : length (drop 2 n) ≡ 64 = omega (arith, length-drop 2 n, end_size) in
      rw (rest n 2, clipped_all (drop 2 n) (omega (arith, t)), whole_record n b end_size, encode_element n b end_size (end_element v p q n h))

  -- the records are those of the changed pivots and the end's
  all_records : encode_all (new_pivots v p q n) ≡ encode_all (changed_pivots v p q) ++ encode (element n)
  unfolding TranslatePivots encode_all joined
  all_records = joined_append encode (changed_pivots v p q) (element n ∷ []) ∙ rw append-nil

  module _ (c : Changeable v p q) where
    -- the changed pivots fill all records but the last
    changed_size : length (encode_all (changed_pivots v p q)) ≡ length v - 66
    changed_size = omega (arith, length-encode_all (changed_pivots v p q) (changed_short v p q c), changed_count v p q c, pivots_size)

    -- the end is written after the changed pivots
    pub end_written : (d u w : List ℕ) (f : ℕ) → ((i : ℕ) → Fits w8 (get_or n i 0)) → length v ≤ length d → length u ≡ length d
        → u ≡ over (encode_all (changed_pivots v p q)) d → f ≡ length_field n
        → w ≡ into (record_of f (clipped (take (length n - 2) (drop 2 n)))) (take (length u - (length v - 66)) (drop (length v - 66) u))
        → put_mid (length v - 66) (length u - (length v - 66)) u w ≡ over (encode_all (new_pivots v p q n)) d
    end_written d u w f b l s e g o =
        let x : record_of f (clipped (take (length n - 2) (drop 2 n))) ≡ encode (element n) = rw g (end_record (bytes_of n b)) in
        let k = length_encode (element n) (short_element_lem n (end_element v p q n h)) in
        let room : length (encode (element n)) ≤ length (take (length u - (length v - 66)) (drop (length v - 66) u)) =
        rw (rest u (length v - 66), length-drop (length v - 66) u) (omega (arith, k, given_size))
        in
        rw all_records
        (over_on (length v - 66) (encode_all (changed_pivots v p q)) (encode (element n)) d u w changed_size e (o ∙ rw x (into_over _ _ room)))

  -- ---- what is answered

  module _ {A : Type 0} (f : Refusal → A) (w x : A) (d : List ℕ) where
    module _ (t : Bool) (e : t ≡ lt (last_translated v p q) (element n)) where
      -- an end that is not above the last translated key is refused
      pub end_low : not t ≡ true → x ≡ f NotBelow → x ≡ outcome f (end_causes v p q n d) w
      end_low k y = here f w x _ NotBelow _ (rw (← e) k) y

      -- then a shorter destination is
      pub no_room_for : not t ≡ false → length d < length v → x ≡ f NoRoom → x ≡ outcome f (end_causes v p q n d) w
      no_room_for k l y = later f w x _ NotBelow _ (rw (← e) k) (here f w x _ NoRoom [] (rw new_size (lt-ltb (length d) (length v) l)) y)

      -- and one that isn't is written to
      pub room_for : not t ≡ false → length v ≤ length d → x ≡ w → x ≡ outcome f (end_causes v p q n d) w
      room_for k l y = later f w x _ NotBelow _ (rw (← e) k) (later f w x _ NoRoom [] (rw new_size (le-ltb (length d) (length v) l)) (done f w x y))

-- ---- the causes 9 and 10 behind the others

module _ (v p q n d : List ℕ) (z : Result ℕ Refusal) (m : ℕ) (e : z ≡ answer (renamed_causes v p q n) m) where
  all_causes : pivots_causes v p q n d ≡ renamed_causes v p q n ++ end_causes v p q n d
  all_causes = sym (append_assoc (with_end_causes v p q n) _ (end_causes v p q n d))

  -- a refusal of the check decides
  pub keys_refused : {A : Type 0} (f : Refusal → A) (w x : A) (r : Refusal) → z ≡ Err r → x ≡ f r → x ≡ outcome f (pivots_causes v p q n d) w
  keys_refused f w x r k y = rw all_causes (handed_on-first (renamed_causes v p q n) m z e f w x (end_causes v p q n d) r k y)

  -- where it has none, the end and the destination decide
  pub keys_passed : {A : Type 0} (f : Refusal → A) (w x : A) (l : ℕ) → z ≡ Ok l → x ≡ outcome f (end_causes v p q n d) w → x ≡ outcome f (pivots_causes v p q n d) w
  keys_passed f w x l k y = rw all_causes (call_passed_first (renamed_causes v p q n) m z e f w x (end_causes v p q n d) l k y)

module _ (v p q n : List ℕ) (z : Result ℕ Refusal) (m : ℕ) (e : z ≡ answer (renamed_causes v p q n) m) (l : ℕ) (k : z ≡ Ok l) where
  none_applies : first (renamed_causes v p q n) ≡ none
  none_applies = accepted (renamed_causes v p q n) m z e l k

  -- and the arguments are as they must be
  pub keys_given : Given v p q n
  keys_given = none_before (with_end_causes v p q n) _ none_applies

  -- so that the prefix can be changed
  pub keys_changeable : Changeable v p q
  keys_changeable =
      record { wf = given_wf v p q n keys_given; none_applies = rw (only_changed v p q n keys_given) at (none_after (with_end_causes v p q n) _ none_applies) }
