-- The upper bound by the place where the walk ends, and its record.
use mathlib.Core.Path.{◌≡◌, refl, sym, ◌∙◌}
use mathlib.Core.Bool.{Bool, true, false, cond, true≢false, false≢true}
use mathlib.Core.List.{List, [], ◌∷◌, ◌++◌}
use Prim.Native.Nat.{ℕ, zero, suc, ◌+◌, ◌%◌, ◌≤◌, ◌<◌}
use native.Mathlib.Numerals.{add-one}
use native.Mathlib.Omega.{arith}
use borrow.Author.Tests.{eqb-false, le-leb, le-ltb}
use lib.Dec.{T, eqb}
use lib.IntN.{ℤ, pos, pred_ℤ, nat_abs}
use lib.Signed.{lt_z, non_neg}
use mir.Syntax.{w8, w64}
use mir.Val.{Fits, to_z, of_z}
use mir.Facts.{to_z-of_z}
use lib.ListN.{length, take, get_or, set, length-append}
use lib.Seq.{take-suc, set_at, append_snoc, length-take-le}
use Rattle.model.specs.keys.Key.{Key, max_len}
use Rattle.model.specs.keys.Order.{Element, key, max}
use Rattle.model.specs.records.Record.{max_mark, record_of, encode}
use Rattle.model.specs.inner.Written.{clipped}
use Rattle.model.specs.ranges.UpperBound.{raised_at, uncommon_from, ShortestUncommonPrefix}
use Rattle.model.specs.calls.Refusals.{over}
use Rattle.model.specs.inner.Written.{into}
use Rattle.model.specs.tables.Tables.{short_element}
use Rattle.model.proofs.Lists.{two_more, clipped_all, into_over}
use Rattle.model.proofs.records.Record.{length_encode}
use Rattle.model.proofs.ranges.UpperBound.{upper_short}
use Rattle.upper_bound.specs.Walk.{up_to_other}
use Rattle.upper_bound.proofs.Down.{below_fits}

-- ---- one byte of a record raised

-- the last byte of a key, set in its record
set_last : (k : Key) (a v n j : ℕ) → length k ≡ j → set (record_of n (k ++ (a ∷ []))) (2 + j) v ≡ record_of n (k ++ (v ∷ []))
unfolding record_of
set_last k a v n j e =
    rw (two_more, length-append k (a ∷ []), length-append k (v ∷ []), append_snoc k a _, append_snoc k v _, set_at k a _ v j e)

module _ (p : Key) (j : ℕ) (small : length p ≤ 64) (inside : j < length p) where
  -- the bytes up to the place, and the byte there
  pub part_counts : j + 1 ≡ length (take (j + 1) p)
  part_counts = sym (length-take-le (j + 1) p (omega arith))

  part_is : clipped (take (j + 1) p) ≡ take j p ++ (get_or p j 0 ∷ [])
  part_is = rw (clipped_all (take (j + 1) p) (omega (arith, part_counts)), add-one, take-suc p j 0 inside)

  pub raised_stored : (m d w : List ℕ) → m ≡ record_of (j + 1) (clipped (take (j + 1) p)) → w ≡ into (set m (2 + j) (get_or p j 0 + 1)) d
      → w ≡ into (encode (raised_at p j)) d
  unfolding encode raised_at
  raised_stored m d w e h =
      let l : length (take j p) ≡ j = length-take-le j p (omega arith) in
      let s : length (take j p ++ ((get_or p j 0 + 1) ∷ [])) ≡ j + 1 = rw (length-append, l) in
      rw (h, e, part_is, set_last (take j p) (get_or p j 0) (get_or p j 0 + 1) (j + 1) j l, s)

  -- a sum that wraps at FF raises any other byte alike
  pub round_stored : ((i : ℕ) → Fits w8 (get_or p i 0)) → (get_or p j 0 ≡ 255 → ⊥) → (m d w : List ℕ) → m ≡ record_of (j + 1) (clipped (take (j + 1) p))
      → w ≡ into (set m (2 + j) (get_or p j 0 % 255 + 1)) d → w ≡ into (encode (raised_at p j)) d
  round_stored f n m d w e h =
      let u : get_or p j 0 % 255 + 1 ≡ get_or p j 0 + 1 = omega (arith, f j) in
      raised_stored m d w e (rw u at h)

-- a byte that isn't FF can be raised
pub raised_fits : (p : Key) (j : ℕ) → ((i : ℕ) → Fits w8 (get_or p i 0)) → (get_or p j 0 ≡ 255 → ⊥) → Fits w8 (get_or p j 0 + 1)
raised_fits p j f h = record { fits = omega (arith, f j) }

-- ---- the place where the walk ends

-- what is known of n bytes by those up to the last one that isn't FF
abbrev Ends : Key → ℕ → ℕ → Type 0
Ends p n zero = uncommon_from p n ≡ max
Ends p n (suc j) = (j < n) × (get_or p j 0 ≡ 255 → ⊥) × (uncommon_from p n ≡ raised_at p j)

one_more : (p : Key) (n m : ℕ) → uncommon_from p (suc n) ≡ uncommon_from p n → Ends p n m → Ends p (suc n) m
one_more p n zero e h = e ∙ h
one_more p n (suc j) e h = (omega (arith, h.0), h.1, e ∙ h.2)

ends : (p : Key) (n : ℕ) → Ends p n (up_to_other p n)
unfolding up_to_other uncommon_from
ends p zero = refl
ends p (suc n) = go (eqb (get_or p n 0) 255) refl (ends p n)
  where
    go : (t : Bool) → eqb (get_or p n 0) 255 ≡ t → Ends p n (up_to_other p n) → Ends p (suc n) (cond t (up_to_other p n) (suc n))
    go true e h = one_more p n (up_to_other p n) (rw e) h
    go false e h = (omega arith, eqb-false (get_or p n 0) 255 e, rw e)

-- a place whose byte is raised for the bound of p
record Place (p : Key) (z : ℤ) : Type 0 where
  at : ℕ
  is : to_z w64 (of_z w64 z) ≡ pos at
  ends_there : Ends p (length p) (suc at)

module _ (p : Key) (z : ℤ) (small : length p ≤ 64) (e : z ≡ pred_ℤ (pos (up_to_other p (length p)))) where
  fits : (n : ℕ) → Ends p (length p) n → n ≤ 64
  fits zero h = omega arith
  fits (suc j) h = omega (arith, h.0)

  here : to_z w64 (of_z w64 z) ≡ pred_ℤ (pos (up_to_other p (length p)))
  here = rw e (to_z-of_z (below_fits (up_to_other p (length p)) (fits (up_to_other p (length p)) (ends p (length p)))))

  none : lt_z (to_z w64 (of_z w64 z)) (pos 0) ≡ true → ShortestUncommonPrefix p ≡ max
  unfolding ShortestUncommonPrefix
  none t = go (up_to_other p (length p)) here (ends p (length p))
    where
      go : (n : ℕ) → to_z w64 (of_z w64 z) ≡ pred_ℤ (pos n) → Ends p (length p) n → uncommon_from p (length p) ≡ max
      go zero h w = w
      go (suc j) h w = absurd (false≢true (sym (le-ltb j 0 (omega arith)) ∙ (rw h at t)))

  pub max_stored : (d w : List ℕ) → lt_z (to_z w64 (of_z w64 z)) (pos 0) ≡ true → w ≡ into (record_of max_mark (clipped (take 0 p))) d
      → w ≡ into (encode (ShortestUncommonPrefix p)) d
  unfolding encode clipped
  max_stored d w t h = rw (none t) h

  module _ (t : lt_z (to_z w64 (of_z w64 z)) (pos 0) ≡ false) where
    place : Place p z
    place = go (up_to_other p (length p)) here (ends p (length p))
      where
        go : (n : ℕ) → to_z w64 (of_z w64 z) ≡ pred_ℤ (pos n) → Ends p (length p) n → Place p z
        go zero h w = absurd (true≢false (rw h at t))
        go (suc j) h w = record { at = j; is = h; ends_there = w }

    pub place_sign : T (non_neg (to_z w64 (of_z w64 z)))
    place_sign = rw place.is tt

    pub place_inside : nat_abs (to_z w64 (of_z w64 z)) < length p
    place_inside = rw place.is place.ends_there.0

    pub place_fits : Fits w64 (nat_abs (to_z w64 (of_z w64 z)))
    place_fits = record { fits = omega (arith, place_inside) }

    pub place_other : get_or p (nat_abs (to_z w64 (of_z w64 z))) 0 ≡ 255 → ⊥
    place_other = rw place.is place.ends_there.1

    pub key_stored : (d w : List ℕ) → w ≡ into (encode (raised_at p (nat_abs (to_z w64 (of_z w64 z))))) d → w ≡ into (encode (ShortestUncommonPrefix p)) d
    unfolding ShortestUncommonPrefix
    key_stored d w h = rw place.ends_there.2 (rw place.is at h)

-- ---- a bound has room

-- the upper bound of a short prefix is short
pub short_upper : (p : Key) → length p ≤ 64 → short_element (ShortestUncommonPrefix p) ≡ true
short_upper p small = go (ShortestUncommonPrefix p) refl
  where
    go : (u : Element) → ShortestUncommonPrefix p ≡ u → short_element u ≡ true
    go (key k) e = le-leb (length k) max_len (omega (arith, upper_short p k e))
    go max e = refl

-- with room for a record, all of it is written
pub upper_written : (p : Key) (d w : List ℕ) → length p ≤ 64 → 66 ≤ length d → w ≡ into (encode (ShortestUncommonPrefix p)) d
    → w ≡ over (encode (ShortestUncommonPrefix p)) d
upper_written p d w small room h =
    h ∙ into_over (encode (ShortestUncommonPrefix p)) d (rw (length_encode (ShortestUncommonPrefix p) (short_upper p small)) room)
