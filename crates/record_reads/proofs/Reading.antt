-- What each return of the reading functions is, from the facts that the code leaves there.
use mathlib.Core.Path.{◌≡◌, refl, sym, ap, ◌∙◌}
use mathlib.Core.Bool.{Bool, true, false, cond, not, ◌&&◌, and-true, and-false}
use mathlib.Core.List.{List, []}
use Prim.Native.Nat.{ℕ, ◌+◌, ◌*◌, ◌-◌, ◌/◌, ◌≤◌, ◌<◌, min}
use native.Mathlib.Nat.{add-sub_cancel_left}
use native.Mathlib.Omega.{arith}
use borrow.Author.Tests.{ne_eqb, le-leb, lt-leb, leb-true, not-true, not-false}
use lib.Dec.{eqb, leb}
use lib.ListN.{length, take, drop, length-drop, drop_of_length-le, get_or-eq_default}
use lib.Seq.{take-nil}
use Rattle.model.specs.declared.Reading.{Reading}
use Rattle.model.specs.declared.Reading.TheVariants.{Key, Malformed, NoEdge, Max}
use Rattle.model.specs.declared.EdgeKind.TheVariants.{Prefix, Absent}
use Rattle.model.specs.keys.Key.{max_len}
use Rattle.model.specs.records.Record.{length_field, no_edge_mark, max_mark, field_reading, key_length, reading, all_zero, key_bytes, allowed, record_size, records}
use Rattle.model.specs.records.Record.{edge_of}
use Rattle.model.specs.inner.EdgeKinds.{edge_kind}
use Rattle.model.specs.inner.Places.{record_at}
use Rattle.model.proofs.Lists.{take_min}
use Rattle.model.proofs.records.Records.{length_pieces, piece_at}

-- ---- the length field

module _ (n : ℕ) where
  pub way_key : (k : ℕ) → k ≡ n → n < 65 → Key k ≡ field_reading n
  unfolding field_reading
  way_key k e h = rw (e, le-leb n max_len (omega arith))

  pub way_none : n ≡ 65534 → NoEdge ≡ field_reading n
  unfolding field_reading
  way_none e = rw e

  pub way_max : 65534 ≤ n → (n ≡ 65534 → ⊥) → n < 65536 → Max ≡ field_reading n
  unfolding field_reading
  way_max h p b = let e : n ≡ 65535 = omega (arith, p) in rw e

  pub way_other : 65 ≤ n → n < 65534 → Malformed ≡ field_reading n
  unfolding field_reading
  way_other h k = rw (lt-leb n max_len (omega arith), ne_eqb n 65534 (λ e. omega arith), ne_eqb n 65535 (λ e. omega arith))

pub ruleset ways = (way_key, way_none, way_max, way_other)

-- a field that is read as a key's is at most 64
pub key_short : (n : ℕ) (w : Reading) → w ≡ field_reading n → key_length w ≤ 64
unfolding field_reading
key_short n w e = rw e (go (leb n max_len) refl (eqb n no_edge_mark) (eqb n max_mark))
  where
    go : (s : Bool) → leb n max_len ≡ s → (t u : Bool) → key_length (cond s (Key n) (cond t NoEdge (cond u Max Malformed))) ≤ 64
    go true h t u = leb-true n max_len h
    go false h true u = omega arith
    go false h false true = omega arith
    go false h false false = omega arith

-- ---- the whole record

-- nothing is allowed where all must be zero and is not
spoilt_fails : (no_edge max z : Bool) (w : Reading) → allowed no_edge max (cond z w Malformed) ≡ (allowed no_edge max w && z)
spoilt_fails no_edge max true w = sym (and-true (allowed no_edge max w))
spoilt_fails no_edge max false w = sym (and-false (allowed no_edge max w))

module _ (r : List ℕ) (n : ℕ) (w : Reading) (e : n ≡ length_field r) (f : w ≡ field_reading n) where
  module _ (k : ℕ) (z : Bool) (g : k ≡ 2 + key_length w) (p : z ≡ all_zero (drop k r)) where
    pub read_whole : z ≡ true → w ≡ reading r
    unfolding reading
    read_whole q = rw (← e, ← f, ← g, ← p, q)

    pub read_spoilt : z ≡ false → Malformed ≡ reading r
    unfolding reading
    read_spoilt q = rw (← e, ← f, ← g, ← p, q)

  -- what is asked of a record's reading
  module _ (no_edge max t : Bool) (h : t ≡ allowed no_edge max w) where
    told : allowed no_edge max (reading r) ≡ (t && all_zero (drop (2 + key_length w) r))
    unfolding reading
    told = rw (h, ← e, ← f) (spoilt_fails no_edge max _ w)

    -- a field that may not stand there
    pub not_standing : not t ≡ true → false ≡ allowed no_edge max (reading r)
    not_standing q = sym (told ∙ rw (not-true t q))

    -- and one that may, with what follows
    pub standing : (k : ℕ) (z : Bool) → not t ≡ false → k ≡ 2 + key_length w → z ≡ all_zero (drop k r) → z ≡ allowed no_edge max (reading r)
    standing k z q g p = p ∙ rw g (sym (told ∙ rw (not-false t q)))

-- a mark is told by the length field
pub mark_told : (r : List ℕ) (n mark : ℕ) → n ≡ length_field r → eqb n mark ≡ eqb (length_field r) mark
mark_told r n mark e = rw e

-- ---- the kind of an edge

module _ (r : List ℕ) (n : ℕ) (e : n ≡ length_field r) where
  pub kind_absent : n ≡ 65534 → Absent ≡ edge_kind r
  unfolding edge_kind edge_of
  kind_absent h = rw (← e, h)

  pub kind_prefix : (k : List ℕ) → (n ≡ 65534 → ⊥) → k ≡ key_bytes r → Prefix (length k) ≡ edge_kind r
  unfolding edge_kind edge_of
  kind_prefix k h g = rw (← e, ne_eqb n 65534 h, g)

-- ---- the key's bytes

pub no_bytes : (r : List ℕ) → length r < 2 → [] ≡ key_bytes r
unfolding key_bytes
no_bytes r h = let p : length r ≤ 2 = omega arith in rw (drop_of_length-le r p, take-nil)

pub bytes_part : (r : List ℕ) (n w m : ℕ) → n ≡ length_field r → w ≡ n → m ≡ min w (length r - 2) → take (2 + m - 2) (drop 2 r) ≡ key_bytes r
unfolding key_bytes
bytes_part r n w m e f g =
    let h : min w (length r - 2) ≡ min w (length (drop 2 r)) = ap (min w) (sym (length-drop 2 r)) in
    rw (add-sub_cancel_left 2 m, g, h, take_min, f, e)

-- ---- the record at a place

module _ (l : List ℕ) (i : ℕ) where
  pub past_records : length l / 66 ≤ i → [] ≡ record_at l i
  unfolding records
  past_records h = sym (get_or-eq_default (records l) [] (omega (arith, length_pieces record_size (length l / 66) l)))

  pub record_part : i < length l / 66 → take (i * 66 + 66 - i * 66) (drop (i * 66) l) ≡ record_at l i
  unfolding records
  record_part h = rw (add-sub_cancel_left, piece_at record_size (length l / 66) i l h)

-- none after the last one either
pub past_after : (l : List ℕ) (i : ℕ) → length l / 66 ≤ i → [] ≡ record_at l (i + 1)
past_after l i h = past_records l (i + 1) (omega arith)

-- `edge_kind`, by its tests
pub ruleset kinds = (kind_absent, kind_prefix)
