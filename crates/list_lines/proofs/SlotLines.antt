-- The lines of a table's slots: each by its fields, and all of them in turn.
use mathlib.Core.Path.{◌≡◌, refl, sym, ap, ◌∙◌}
use mathlib.Core.List.{List, [], ◌∷◌, ◌++◌, append_assoc}
use Prim.Native.Nat.{ℕ, ◌+◌, ◌-◌, ◌≤◌, min}
use native.Mathlib.Numerals.{add-one}
use native.Mathlib.Omega.{arith}
use borrow.Rule.Slice.PartMut.{put_mid}
use lib.ListN.{length, take, drop}
use Rattle.model.specs.records.Record.{element, edge_of}
use Rattle.model.specs.inner.Places.{record_at}
use Rattle.model.specs.ranges.RangePrefix.{PivotLcp}
use Rattle.model.specs.calls.Refusals.{over}
use Rattle.model.specs.inner.Written.{into}
use Rattle.model.specs.list.ShelfList.{tab, newline, header, decimal, key_text, element_text, edge_text, slot_line}
use Rattle.model.proofs.Lists.{into_over}
use Rattle.digits.specs.Field.{field}
use Rattle.list_lines.specs.Lines.{line_head, line_rest, line_at, lines_to, text_of}
use Rattle.list_fields.proofs.Texts.{both_length, both_written}

-- ---- one line

-- a field before others
before : (a b : List ℕ) (t : ℕ) → (a ++ t ∷ []) ++ b ≡ a ++ (t ∷ b)
before a b t = append_assoc a (t ∷ []) b

-- five fields one after the other
five : (a b c d e : List ℕ) (t n : ℕ)
    → ((a ++ t ∷ []) ++ ((b ++ t ∷ []) ++ (c ++ t ∷ []))) ++ ((d ++ t ∷ []) ++ (e ++ n ∷ []))
    ≡ a ++ t ∷ b ++ t ∷ c ++ t ∷ d ++ t ∷ e ++ n ∷ []
five a b c d e t n =
    let e' = e ++ n ∷ [] in
    let d' = d ++ (t ∷ e') in
    let c' = c ++ (t ∷ d') in
    let b' = b ++ (t ∷ c') in
    rw (
      before d e' t,
      append_assoc (a ++ t ∷ []) ((b ++ t ∷ []) ++ (c ++ t ∷ [])) d',
      append_assoc (b ++ t ∷ []) (c ++ t ∷ []) d',
      before c d' t,
      before b c' t,
      before a b' t,
      append_assoc (a ++ t ∷ b ++ t ∷ c ++ t ∷ d) (t ∷ e) (n ∷ []),
      append_assoc (a ++ t ∷ b ++ t ∷ c) (t ∷ d) (t ∷ e'),
      append_assoc (a ++ t ∷ b) (t ∷ c) (t ∷ d'),
      append_assoc a (t ∷ b) (t ∷ c'),
    )

module _ (p e l r g : List ℕ) (i : ℕ) (el : l ≡ record_at p i) (er : r ≡ record_at p (i + 1)) (eg : g ≡ record_at e i) where
  line_is : line_head i l r ++ line_rest l r g ≡ line_at p e i
  unfolding line_at slot_line field
  line_is =
      rw (el, er, eg)
      (five (decimal i) (element_text (element (record_at p i))) (element_text (element (record_at p (i + 1))))
      (key_text (PivotLcp (element (record_at p i)) (element (record_at p (i + 1))))) (edge_text (edge_of (record_at e i))) tab newline)

  pub line_length : (n m : ℕ) → n ≡ length (line_head i l r) → m ≡ length (line_rest l r g) → n + m ≡ length (line_at p e i)
  line_length n m ln lm = both_length n m (line_head i l r) (line_rest l r g) ln lm ∙ ap length line_is

  pub line_written : (n at : ℕ) (d v w : List ℕ) → n ≡ length (line_head i l r) → v ≡ into (line_head i l r) d → at ≡ min n (length v)
      → w ≡ into (line_rest l r g) (take (length v - at) (drop at v)) → put_mid at (length v - at) v w ≡ into (line_at p e i) d
  line_written n at d v w ln ev em ew =
      both_written n at (line_head i l r) (line_rest l r g) d v w ln ev em ew ∙ ap (λ (t : List ℕ). into t d) line_is

-- ---- the loop over the slots

module _ (p e : List ℕ) where
  pub lines_none : 0 ≡ length (lines_to p e 0)
  unfolding lines_to
  lines_none = refl

  pub lines_none_written : (d : List ℕ) → d ≡ into (lines_to p e 0) d
  unfolding lines_to over
  lines_none_written d = sym (into_over [] d (omega arith))

  module _ (i : ℕ) where
    next : lines_to p e i ++ line_at p e i ≡ lines_to p e (i + 1)
    unfolding lines_to
    next = rw add-one

    pub lines_length : (n m : ℕ) → n ≡ length (lines_to p e i) → m ≡ length (line_at p e i) → n + m ≡ length (lines_to p e (i + 1))
    lines_length n m ln lm = both_length n m (lines_to p e i) (line_at p e i) ln lm ∙ ap length next

    pub lines_written : (n at : ℕ) (d v w : List ℕ) → n ≡ length (lines_to p e i) → v ≡ into (lines_to p e i) d → at ≡ min n (length v)
        → w ≡ into (line_at p e i) (take (length v - at) (drop at v)) → put_mid at (length v - at) v w ≡ into (lines_to p e (i + 1)) d
    lines_written n at d v w ln ev em ew = both_written n at (lines_to p e i) (line_at p e i) d v w ln ev em ew ∙ ap (λ (t : List ℕ). into t d) next

    module _ (count : ℕ) (h : i ≤ count - 1) (k : count ≤ i + 1) where
      last : i ≡ count - 1
      last = omega arith

      pub lines_end_length : (n : ℕ) → n ≡ length (lines_to p e i) → n ≡ length (lines_to p e (count - 1))
      lines_end_length n ln = rw (← last) ln

      pub lines_end_written : (d w : List ℕ) → w ≡ into (lines_to p e i) d → w ≡ into (lines_to p e (count - 1)) d
      lines_end_written d w ew = rw (← last) ew

-- ---- the text of as many pivots as are listed

pub text_length : (p e : List ℕ) (count listed m : ℕ) → listed ≡ min count 64 → m ≡ length (lines_to p e (listed - 1)) → 28 + m ≡ length (text_of p e count)
unfolding text_of header
text_length p e count listed m h k = both_length 28 m header (lines_to p e (listed - 1)) refl k ∙ rw h

pub text_written : (p e : List ℕ) (count listed at : ℕ) (d v w : List ℕ) → listed ≡ min count 64 → v ≡ into header d → at ≡ min 28 (length v)
    → w ≡ into (lines_to p e (listed - 1)) (take (length v - at) (drop at v)) → put_mid at (length v - at) v w ≡ into (text_of p e count) d
unfolding text_of header
text_written p e count listed at d v w h ev em ew = both_written 28 at header (lines_to p e (listed - 1)) d v w refl ev em ew ∙ rw h
