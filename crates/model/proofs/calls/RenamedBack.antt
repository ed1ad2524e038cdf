-- A bucket is renamed, and what that wrote is renamed back: the second call is accepted too, and writes the kept entries of the first bucket, byte for byte.
use Rattle.std.specs.Prelude.{Ok, Err}
use mathlib.Core.Path.{◌≡◌, refl, sym, ap, ◌∙◌}
use mathlib.Core.Bool.{Bool, true, false, cond, ◌||◌}
use mathlib.Core.List.{List, [], ◌∷◌, map}
use mathlib.Core.Option.{none}
use Prim.Native.Nat.{ℕ, zero, suc, ◌*◌, ◌/◌, ◌≤◌}
use native.Mathlib.Omega.{arith}
use borrow.Author.Tests.{le-ltb}
use lib.Dec.{leb, eqb}
use lib.ListN.{length, take, drop, length-drop}
use lib.Seq.{length-take-le}
use Rattle.model.specs.declared.Refusal.TheVariants.{NoRoom}
use Rattle.model.specs.keys.Key.{Key, Bytes, max_len, too_long, IsPrefix}
use Rattle.model.specs.records.Record.{reading, key_reading, key_bytes, pieces, joined}
use Rattle.model.specs.tables.Tables.{all}
use Rattle.model.specs.buckets.Bucket.{Entry, number_size, entry_size, entry_record, entry_of, entry_bytes, entry_bytes_by, entries, encode_entry, encode_bucket, sized_entry}
use Rattle.model.specs.buckets.Index.{only}
use Rattle.model.specs.calls.Refusals.{first}
use Rattle.model.specs.calls.KeyCalls.{no_room}
use Rattle.model.specs.calls.BucketCalls.{entries_read, bucket_causes, new_bucket, short_entry, bucket_long, rename_causes, translate_bucket_causes, translate_bucket_answer, translate_bucket_leaves}
use Rattle.model.proofs.keys.Key.{both, bytes_take, bytes_drop}
use Rattle.model.proofs.buckets.Below.{only_passes}
use Rattle.model.proofs.buckets.Entries.{encode_entry_lem, length-encode_bucket}
use Rattle.model.proofs.buckets.Renamed.{kept, renamed_count, renamed_back}
use Rattle.model.proofs.calls.Refusals.{accepted, none_before, or_neither}
use Rattle.model.proofs.calls.TableCalls.{either_fails}
use Rattle.model.proofs.calls.BucketCalls.{bucket_whole, bucket_wrong, bucket_read, bucket_sized, bucket_answers, renamed_written, renamed_reads, renamed_passes}
use Rattle.model.proofs.calls.BucketRoom.{by_room}

-- ---- the bytes of the entries kept

-- of entries' bytes, those whose key begins with the prefix
unfoldable pub kept_bytes : Key → List (List ℕ) → List (List ℕ)
kept_bytes p [] = []
kept_bytes p (e ∷ es) = cond (IsPrefix p (key_bytes (entry_record e))) (e ∷ kept_bytes p es) (kept_bytes p es)

kept_pieces : (p : Key) (n : ℕ) (l : List ℕ) → Bytes l → length l ≡ n * entry_size → all (λ (e : List ℕ). key_reading (reading (entry_record e))) (pieces entry_size n l) ≡ true
    → encode_bucket (kept (map entry_of (pieces entry_size n l)) p) ≡ joined (kept_bytes p (pieces entry_size n l))
unfolding pieces all only kept_bytes joined encode_bucket entry_of
kept_pieces p zero l b h e = refl
kept_pieces p (suc n) l b h e =
    let w = both (key_reading (reading (entry_record (take entry_size l)))) (all (λ (x : List ℕ). key_reading (reading (entry_record x))) (pieces entry_size n (drop entry_size l))) e in
    go (IsPrefix p (key_bytes (entry_record (take entry_size l)))) (encode_entry_lem (take entry_size l) (bytes_take entry_size l b) (length-take-le entry_size l (omega arith)) w.0)
    (kept_pieces p n (drop entry_size l) (bytes_drop entry_size l b) (omega (arith, length-drop entry_size l)) w.1)
  where
    go : (t : Bool) → encode_entry (entry_of (take entry_size l)) ≡ take entry_size l
        → encode_bucket (kept (map entry_of (pieces entry_size n (drop entry_size l))) p) ≡ joined (kept_bytes p (pieces entry_size n (drop entry_size l)))
        → encode_bucket (cond t (entry_of (take entry_size l) ∷ kept (map entry_of (pieces entry_size n (drop entry_size l))) p) (kept (map entry_of (pieces entry_size n (drop entry_size l))) p))
        ≡ joined (cond t (take entry_size l ∷ kept_bytes p (pieces entry_size n (drop entry_size l))) (kept_bytes p (pieces entry_size n (drop entry_size l))))
    go true u r = rw (u, r)
    go false u r = r

-- the entries kept of a checked bucket, written, are bytes of the bucket
pub kept_bytes_lem : (wrong : Bool) (l : List ℕ) (p : Key) → first (bucket_causes wrong l) ≡ none → Bytes l → encode_bucket (kept (entries l) p) ≡ joined (kept_bytes p (entry_bytes l))
unfolding entries entry_bytes_by entries_read
kept_bytes_lem wrong l p h b = kept_pieces p (length l / entry_size) l b (bucket_whole wrong l h) (bucket_read wrong l h)

-- where no other argument has cause 2, the bucket's own causes are all
right_again : (wrong : Bool) (l : List ℕ) → wrong ≡ false → first (bucket_causes false l) ≡ none → first (bucket_causes wrong l) ≡ none
right_again wrong l e h = rw e h

-- a sized entry is a short one
sized_short : (e : Entry) → sized_entry e ≡ true → short_entry e ≡ true
sized_short e h = (both (leb (length e.key) max_len) (eqb (length e.number) number_size) h).0

-- ---- there and back

module _ (l : List ℕ) (p q : Key) (d : List ℕ) (m : ℕ) (h : translate_bucket_answer l p q d ≡ Ok m) where
  -- what the first call wrote
  abbrev pub renamed : List ℕ
  renamed = take (m * entry_size) (translate_bucket_leaves l p q d)

  checked : first (rename_causes l p q) ≡ none
  checked = none_before (rename_causes l p q) _ (accepted (translate_bucket_causes l p q d) (length (new_bucket l p q)) (translate_bucket_answer l p q d) refl m h)

  kept_again : new_bucket renamed q p ≡ kept (entries l) p
  kept_again = rw (renamed_reads l p q d m h) (renamed_back p q (entries l))

  kept_count : length (kept (entries l) p) ≡ m
  kept_count = sym (bucket_answers l p q d m h ∙ renamed_count p q (entries l))

  kept_sized : all sized_entry (kept (entries l) p) ≡ true
  kept_sized = only_passes sized_entry (λ (e : Entry). IsPrefix p e.key) sized_entry (λ e s k. s) (entries l) (bucket_sized _ l checked)

  kept_short : all short_entry (kept (entries l) p) ≡ true
  kept_short = only_passes sized_entry (λ (e : Entry). IsPrefix p e.key) short_entry (λ e s k. sized_short e s) (entries l) (bucket_sized _ l checked)

  back_checked : first (rename_causes renamed q p) ≡ none
  back_checked =
      let w = either_fails (too_long p) (too_long q) (bucket_wrong _ l checked) in
      right_again (too_long q || too_long p) renamed (or_neither (too_long q) (too_long p) w.1 w.0) (renamed_passes l p q d m h)

  back_short : bucket_long renamed q p ≡ false
  back_short = rw (kept_again, kept_short)

  -- renamed back it is accepted wherever the destination holds as many entries, and their count is the same
  pub back_answers : (d' : List ℕ) → translate_bucket_answer renamed q p d' ≡ cond (no_room (m * entry_size) d') (Err NoRoom) (Ok m)
  back_answers d' =
      let n : length (encode_bucket (new_bucket renamed q p)) ≡ m * entry_size = rw (kept_again, length-encode_bucket (kept (entries l) p) kept_sized, kept_count) in
      by_room renamed q p back_checked back_short d' ∙ rw (n, kept_again, kept_count)

  -- what is written then are the kept entries of the first bucket, byte for byte
  pub back_leaves : Bytes l → (d' : List ℕ) → m * entry_size ≤ length d' → take (m * entry_size) (translate_bucket_leaves renamed q p d') ≡ joined (kept_bytes p (entry_bytes l))
  back_leaves b d' r =
      let a : translate_bucket_answer renamed q p d' ≡ Ok m = back_answers d' ∙ rw (le-ltb (length d') (m * entry_size) r) in
      renamed_written renamed q p d' m a ∙ ap encode_bucket kept_again ∙ kept_bytes_lem _ l p checked b
