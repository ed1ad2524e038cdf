-- What each return of the fields' functions is: the text's length, and the text written.
use mathlib.Core.Path.{◌≡◌, refl, ap, ◌∙◌}
use mathlib.Core.Bool.{Bool, true, false}
use mathlib.Core.List.{List, [], ◌∷◌, ◌++◌}
use Prim.Native.Nat.{ℕ, ◌+◌, ◌*◌, ◌-◌, ◌≤◌, min}
use native.Mathlib.Omega.{arith}
use borrow.Rule.Slice.PartMut.{put_mid}
use mir.Val.{Fits}
use mir.Syntax.{w8}
use lib.Dec.{eqb}
use lib.ListN.{length, take, drop, get_or, length-append, length-take}
use Rattle.model.specs.declared.EdgeKind.{EdgeKind}
use Rattle.model.specs.declared.EdgeKind.TheVariants as kinds
use Rattle.model.specs.keys.Key.{Key}
use Rattle.model.specs.keys.Order.{key, max}
use Rattle.model.specs.records.Record.{edge, max_mark, length_field, key_bytes, element}
use Rattle.model.specs.ranges.RangePrefix.{PivotLcp}
use Rattle.model.specs.inner.EdgeKinds.{edge_kind}
use Rattle.model.specs.inner.Written.{into}
use Rattle.model.specs.list.ShelfList.{tab, newline, hex, dash, dot, max_word, key_text, element_text, edge_text}
use Rattle.model.proofs.Lists.{length_over, written_on}
use Rattle.model.proofs.records.Record.{absent_edge, prefix_edge}
use Rattle.model.proofs.keys.Key.{prefix_is_take}
use Rattle.model.proofs.ranges.RangePrefix.{prefix_of_left}
use Rattle.digits.specs.Field.{field}
use Rattle.digits.proofs.Digits.{digits_length}
use Rattle.list_fields.specs.Fields.{hex_or, pivot_field, shared_field, edge_field, most_bytes}

-- ---- two texts one after the other

length_into : (a d : List ℕ) → length (into a d) ≡ length d
unfolding into
length_into a d = length_over (take (length d) a) d (omega (arith, length-take (length d) a))

-- what is written after the first text, in what is lent on, follows it
pub both_written : (n at : ℕ) (a b d v w : List ℕ) → n ≡ length a → v ≡ into a d → at ≡ min n (length v)
    → w ≡ into b (take (length v - at) (drop at v)) → put_mid at (length v - at) v w ≡ into (a ++ b) d
both_written n at a b d v w l e m g =
    let f : at ≡ min (length a) (length d) = rw (m, l, e, length_into a d) in
    written_on at a b d v w f e g

pub both_length : (n m : ℕ) (a b : List ℕ) → n ≡ length a → m ≡ length b → n + m ≡ length (a ++ b)
both_length n m a b l k = rw (length-append, l, k)

-- ---- a text and the byte that ends it

pub field_length : (n end : ℕ) (t : List ℕ) → n ≡ length t → n + 1 ≡ length (field t end)
unfolding field
field_length n end t l = both_length n 1 t (end ∷ []) l refl

pub field_written : (n at end : ℕ) (t d v w : List ℕ) → n ≡ length t → v ≡ into t d → at ≡ min n (length v)
    → w ≡ into (end ∷ []) (take (length v - at) (drop at v)) → put_mid at (length v - at) v w ≡ into (field t end) d
unfolding field
field_written n at end t d v w l e m g = both_written n at t (end ∷ []) d v w l e m g

-- ---- a key, or a mark in place of the empty one

module _ (mark : ℕ) (k : Key) where
  none_text : length k ≡ 0 → mark ∷ [] ≡ hex_or mark k
  unfolding hex_or
  none_text = go k
    where
      go : (k : Key) → length k ≡ 0 → mark ∷ [] ≡ hex_or mark k
      go [] h = refl
      go (b ∷ k) h = absurd (omega arith)

  some_text : (length k ≡ 0 → ⊥) → hex k ≡ hex_or mark k
  unfolding hex_or hex
  some_text = go k
    where
      go : (k : Key) → (length k ≡ 0 → ⊥) → hex k ≡ hex_or mark k
      go [] h = absurd (h refl)
      go (b ∷ k) h = refl

  pub none_length : length k ≡ 0 → 1 ≡ length (hex_or mark k)
  none_length h = ap length (none_text h)

  pub none_written : (d w : List ℕ) → length k ≡ 0 → w ≡ into (mark ∷ []) d → w ≡ into (hex_or mark k) d
  none_written d w h e = e ∙ ap (λ (t : List ℕ). into t d) (none_text h)

  pub some_length : (length k ≡ 0 → ⊥) → length k * 2 ≡ length (hex_or mark k)
  some_length h = digits_length k ∙ ap length (some_text h)

  pub some_written : (d w : List ℕ) → (length k ≡ 0 → ⊥) → w ≡ into (hex k) d → w ≡ into (hex_or mark k) d
  some_written d w h e = e ∙ ap (λ (t : List ℕ). into t d) (some_text h)

-- whatever the mark, it is as long as the text of a key and of an edge
marked_length : (mark n end : ℕ) (k : Key) → n ≡ length (field (hex_or mark k) end)
    → (n ≡ length (field (key_text k) end)) × (n ≡ length (field (edge_text (edge k)) end))
unfolding field hex_or key_text edge_text dash dot
marked_length mark n end [] h = (h, h)
marked_length mark n end (b ∷ k) h = (h, h)

-- where the mark is `-` it is the text of a key, and where it is `.` that of an edge
key_is_lem : (k : Key) → hex_or 0x2d k ≡ key_text k
unfolding hex_or key_text dash
key_is_lem [] = refl
key_is_lem (b ∷ k) = refl

edge_is : (k : Key) → hex_or 0x2e k ≡ edge_text (edge k)
unfolding hex_or edge_text dot
edge_is [] = refl
edge_is (b ∷ k) = refl

-- ---- a pivot

-- the key of a record has at most as many bytes as a length field counts
pub key_most : (r k : List ℕ) → k ≡ key_bytes r → ((j : ℕ) → Fits w8 (get_or r j 0)) → length k ≤ most_bytes
unfolding key_bytes length_field
key_most r k e b = rw e (omega (arith, length-take (length_field r) (drop 2 r), (b 0).fits, (b 1).fits))

module _ (r : List ℕ) (t : Bool) (e : t ≡ eqb (length_field r) max_mark) where
  is_max_lem : t ≡ true → element r ≡ max
  unfolding element
  is_max_lem h = rw (← e, h)

  is_key : t ≡ false → element r ≡ key (key_bytes r)
  unfolding element
  is_key h = rw (← e, h)

  pub max_length : t ≡ true → 4 ≡ length (pivot_field r)
  unfolding field element_text max_word
  max_length h = rw (is_max_lem h)

  pub max_written : (d w : List ℕ) → t ≡ true → w ≡ into (0x6d ∷ 0x61 ∷ 0x78 ∷ 0x09 ∷ []) d → w ≡ into (pivot_field r) d
  unfolding field element_text max_word
  max_written d w h f = rw (is_max_lem h) f

  pub pivot_length : (mark n : ℕ) (k : Key) → k ≡ key_bytes r → t ≡ false → n ≡ length (field (hex_or mark k) tab) → n ≡ length (pivot_field r)
  unfolding element_text
  pivot_length mark n k g h f = rw (is_key h, ← g) (marked_length mark n tab k f).0

  pub pivot_written : (k : Key) (d w : List ℕ) → k ≡ key_bytes r → t ≡ false → w ≡ into (field (hex_or 0x2d k) tab) d
      → w ≡ into (pivot_field r) d
  unfolding element_text
  pivot_written k d w g h f = rw (is_key h, ← g, ← key_is_lem k) f

-- ---- the prefix of a range

-- and so has a part of it
pub part_most : (r k : List ℕ) (n : ℕ) → k ≡ key_bytes r → ((j : ℕ) → Fits w8 (get_or r j 0)) → length (take n k) ≤ most_bytes
part_most r k n e b = omega (arith, key_most r k e b, length-take n k)

module _ (l r : List ℕ) (t : Bool) (e : t ≡ eqb (length_field l) max_mark) where
  no_prefix : t ≡ true → PivotLcp (element l) (element r) ≡ []
  unfolding PivotLcp
  no_prefix h = rw (is_max_lem l t e h)

  the_prefix : (n : ℕ) (k : Key) → k ≡ key_bytes l → t ≡ false → n ≡ length (PivotLcp (key k) (element r)) → take n k ≡ PivotLcp (element l) (element r)
  the_prefix n k g h f = rw (is_key l t e h, ← g, f) (prefix_is_take (PivotLcp (key k) (element r)) k (prefix_of_left k (element r)))

  pub no_prefix_length : (mark n : ℕ) → t ≡ true → n ≡ length (field (hex_or mark []) tab) → n ≡ length (shared_field l r)
  no_prefix_length mark n h f = rw (no_prefix h) (marked_length mark n tab [] f).0

  pub no_prefix_written : (d w : List ℕ) → t ≡ true → w ≡ into (field (hex_or 0x2d []) tab) d
      → w ≡ into (shared_field l r) d
  no_prefix_written d w h f = rw (no_prefix h, ← key_is_lem []) f

  pub prefix_length : (mark n m : ℕ) (k : Key) → k ≡ key_bytes l → t ≡ false → n ≡ length (PivotLcp (key k) (element r))
      → m ≡ length (field (hex_or mark (take n k)) tab) → m ≡ length (shared_field l r)
  prefix_length mark n m k g h f q = rw (← the_prefix n k g h f) (marked_length mark m tab (take n k) q).0

  pub prefix_written : (n : ℕ) (k : Key) (d w : List ℕ) → k ≡ key_bytes l → t ≡ false → n ≡ length (PivotLcp (key k) (element r))
      → w ≡ into (field (hex_or 0x2d (take n k)) tab) d → w ≡ into (shared_field l r) d
  prefix_written n k d w g h f q = rw (← the_prefix n k g h f, ← key_is_lem (take n k)) q

-- ---- an edge

module _ (r : List ℕ) (t : EdgeKind) (e : t ≡ edge_kind r) where
  pub no_edge_length : t ≡ kinds.Absent → 2 ≡ length (edge_field r)
  unfolding field edge_text dash
  no_edge_length h = rw (absent_edge r t e h)

  pub no_edge_written : (d w : List ℕ) → t ≡ kinds.Absent → w ≡ into (0x2d ∷ 0x0a ∷ []) d → w ≡ into (edge_field r) d
  unfolding field edge_text dash
  no_edge_written d w h f = rw (absent_edge r t e h) f

  pub edge_length : (mark n m : ℕ) (k : Key) → k ≡ key_bytes r → t ≡ kinds.Prefix m → n ≡ length (field (hex_or mark k) newline) → n ≡ length (edge_field r)
  edge_length mark n m k g h f = rw (prefix_edge r t e m h, ← g) (marked_length mark n newline k f).1

  pub edge_written : (m : ℕ) (k : Key) (d w : List ℕ) → k ≡ key_bytes r → t ≡ kinds.Prefix m → w ≡ into (field (hex_or 0x2e k) newline) d
      → w ≡ into (edge_field r) d
  edge_written m k d w g h f = rw (prefix_edge r t e m h, ← g, ← edge_is k) f
