-- TranslationImpl, lines 216 to 241: an element and a range under another prefix.
use Rattle.std.specs.Prelude.{Ok, Err}
use mathlib.Core.Path.{◌≡◌, refl, ◌∙◌}
use mathlib.Core.Bool.{true, false}
use mathlib.Core.List.{List, [], ◌∷◌}
use mathlib.Core.Option.{none, some}
use Prim.Native.Nat.{ℕ, ◌*◌, ◌≤◌, ◌<◌}
use native.Mathlib.Omega.{arith}
use borrow.Author.Tests.{le-ltb, lt-ltb}
use lib.ListN.{length, take}
use Rattle.model.specs.declared.Refusal.TheVariants.{Malformed, NotPrefix, TooLong, NotBelow}
use Rattle.model.specs.keys.Key.{Key, max_len, too_long, IsPrefix, change_prefix}
use Rattle.model.specs.keys.Order.{Element, key, lt}
use Rattle.model.specs.records.Record.{record_size, reading, element, element_reading, encode, elements, encode_all}
use Rattle.model.specs.tables.Tables.{pivot_at, GetKey, short_element}
use Rattle.model.specs.translation.Renaming.{Bounds, TranslateElement, TranslatePivotPairInternal}
use Rattle.model.specs.calls.Refusals.{outcome, first, over}
use Rattle.model.specs.calls.KeyCalls.{change_prefix_causes, change_prefix_answer, change_prefix_leaves}
use Rattle.model.specs.calls.RenamingCalls.{pivot_pair_causes, pivot_pair_answer, pivot_pair_leaves}
use Rattle.model.proofs.calls.Refusals.{or_left, or_right, not_fails}
use Rattle.model.proofs.calls.TableCalls.{not_too_long}
use Rattle.model.proofs.calls.KeyCalls.{only_sizes}
use Rattle.model.proofs.calls.RenamingCalls.{pair_reads}
use Rattle.model.proofs.keys.Key.{prefix_length}
use Rattle.contracts.specs.Refuses.{RefusesAt}
use Rattle.contracts.specs.BoundedPivots.{ElementIsKey}
use Rattle.contracts.proofs.Refusing.{refuses_at, not_key_long}
use Rattle.contracts.proofs.LongRefused.{left_refused, right_refused}
use Rattle.contracts.proofs.Lent.{size_lent, accepted, element_lent}

-- ---- an element: a lone key, through change_prefix

module _ (k p q : Key) (d : List ℕ) where
  -- requires ElementIsKey(e)
  pub translation_impl_217 : ElementIsKey (key k) ≡ false → RefusesAt Err (change_prefix_causes k p q d) 0 Malformed (change_prefix_answer k p q d)
  translation_impl_217 h = refuses_at _ _ (change_prefix_causes k p q d) 0 _ _ _ refl (or_left _ _ (or_left _ _ (not_key_long k h)))

  -- requires IsPrefix(prefix, e.e)
  pub translation_impl_218 : IsPrefix p k ≡ false → RefusesAt Err (change_prefix_causes k p q d) 1 NotPrefix (change_prefix_answer k p q d)
  translation_impl_218 h = refuses_at _ _ (change_prefix_causes k p q d) 1 _ _ _ refl (not_fails _ h)

  -- ensures e' == TranslateElement(e, prefix, newPrefix)
  pub translation_impl_219 : length k ≤ max_len → length q ≤ max_len → IsPrefix p k ≡ true → length (change_prefix p q k) ≤ max_len → length (change_prefix p q k) ≤ length d
      → (TranslateElement p q (key k) ≡ key (change_prefix p q k))
      × (change_prefix_answer k p q d ≡ Ok (length (change_prefix p q k))) × (change_prefix_leaves k p q d ≡ over (change_prefix p q k) d)
  translation_impl_219 s c h t r =
      let b = change_prefix_causes k p q d in
      let n : first b ≡ none = only_sizes some none k p q d s c h ∙ size_lent (change_prefix p q k) d t r in
      (unfold TranslateElement in refl, accepted _ _ b n, accepted _ _ b n)

  -- ensures e' == TranslateElement(e, prefix, newPrefix)
  -- where it passes 64 bytes, the call is refused
  pub translation_impl_219b : max_len < length (change_prefix p q k) → RefusesAt Err (change_prefix_causes k p q d) 2 TooLong (change_prefix_answer k p q d)
  translation_impl_219b h = refuses_at _ _ (change_prefix_causes k p q d) 2 _ _ _ refl (lt-ltb max_len (length (change_prefix p q k)) h)

-- ---- a range

-- lent any bytes
module _ (l : Key) (r : List ℕ) (p q : Key) (d : List ℕ) where
  -- requires right.Element? ==> ElementIsKey(right)
  -- the record isn't read as an element; one that is has at most 64 bytes
  pub translation_impl_226 : element_reading (reading r) ≡ false → RefusesAt Err (pivot_pair_causes l r p q d) 1 Malformed (pivot_pair_answer l r p q d)
  translation_impl_226 h = refuses_at _ _ (pivot_pair_causes l r p q d) 1 _ _ _ refl (or_left _ _ (or_left _ _ (or_right (too_long l) _ (not_fails _ h))))

  -- requires IsPrefix(prefix, left)
  pub translation_impl_227 : IsPrefix p l ≡ false → RefusesAt Err (pivot_pair_causes l r p q d) 2 NotPrefix (pivot_pair_answer l r p q d)
  translation_impl_227 h = refuses_at _ _ (pivot_pair_causes l r p q d) 2 _ _ _ refl (not_fails _ h)

  -- requires Keyspace.lt(KeyToElement(left), right)
  pub translation_impl_228 : lt (key l) (element r) ≡ false → RefusesAt Err (pivot_pair_causes l r p q d) 4 NotBelow (pivot_pair_answer l r p q d)
  translation_impl_228 h = refuses_at _ _ (pivot_pair_causes l r p q d) 4 _ _ _ refl (not_fails _ h)

  abbrev lent : Bounds
  lent = TranslatePivotPairInternal (key l) (element r) p q

  -- && l == KeyToElement(left')
  -- where it passes 64 bytes, the call is refused
  pub translation_impl_230b : short_element lent.left ≡ false → RefusesAt Err (pivot_pair_causes l r p q d) 3 TooLong (pivot_pair_answer l r p q d)
  translation_impl_230b = left_refused l r p q d

  -- && r == right'
  -- where it passes 64 bytes, the call is refused
  pub translation_impl_231b : short_element lent.right ≡ false → RefusesAt Err (pivot_pair_causes l r p q d) 3 TooLong (pivot_pair_answer l r p q d)
  translation_impl_231b = right_refused l r p q d

-- lent a key and the record of an element
module _ (l : Key) (r : Element) (p q : Key) (d : List ℕ) (a : length l ≤ max_len) (e : short_element r ≡ true) (c : length q ≤ max_len)
    (h : IsPrefix p l ≡ true) (g : lt (key l) r ≡ true) (room : 2 * record_size ≤ length d)
    (t : short_element (TranslatePivotPairInternal (key l) r p q).left ≡ true) (u : short_element (TranslatePivotPairInternal (key l) r p q).right ≡ true) where
  abbrev new : Bounds
  new = TranslatePivotPairInternal (key l) r p q

  abbrev dest : List ℕ
  dest = pivot_pair_leaves l (encode r) p q d

  pair_lent : first (pivot_pair_causes l (encode r) p q d) ≡ none
  unfolding outcome
  pair_lent =
      let b : length p ≤ max_len = omega (arith, prefix_length p l h) in
      let o = element_lent r e in
      rw (o.one, not_too_long l a, o.right, not_too_long p b, not_too_long q c, h, o.stands, t, u, g, le-ltb _ _ room)

  pair_written : (pivot_pair_answer l (encode r) p q d ≡ Ok 2) × (dest ≡ over (encode_all (new.left ∷ new.right ∷ [])) d)
  pair_written =
      let b = pivot_pair_causes l (encode r) p q d in
      (accepted _ _ b pair_lent, accepted _ _ b pair_lent ∙ rw (element_lent r e).stands)

  -- the two records stand for the new bounds
  pair_read : elements (take (2 * record_size) dest) ≡ new.left ∷ new.right ∷ []
  pair_read = pair_reads l (encode r) p q d 2 pair_written.0 ∙ rw (element_lent r e).stands

  -- && l == KeyToElement(left')
  pub translation_impl_230 : (pivot_pair_answer l (encode r) p q d ≡ Ok 2) × (dest ≡ over (encode_all (new.left ∷ new.right ∷ [])) d)
      × (new.left ≡ key (GetKey (elements (take (2 * record_size) dest)) 0))
  translation_impl_230 = (pair_written.0, pair_written.1, rw pair_read (unfold GetKey TranslatePivotPairInternal TranslateElement in refl))

  -- && r == right'
  pub translation_impl_231 : (pivot_pair_answer l (encode r) p q d ≡ Ok 2) × (dest ≡ over (encode_all (new.left ∷ new.right ∷ [])) d)
      × (new.right ≡ pivot_at (elements (take (2 * record_size) dest)) 1)
  translation_impl_231 = (pair_written.0, pair_written.1, rw pair_read)
