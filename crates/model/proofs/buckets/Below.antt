-- Entries that rise: those below an element stand first, and their number is the place of the first that isn't.
use mathlib.Core.Path.{◌≡◌, refl, sym, ap, ◌∙◌}
use mathlib.Core.Bool.{Bool, true, false, cond, not, true≢false}
use mathlib.Core.List.{[], ◌∷◌, ◌++◌, map}
use mathlib.Core.Logic.{⊎_elim}
use Prim.Native.Nat.{ℕ, zero, suc, ◌≤◌, ◌<◌}
use native.Mathlib.Omega.{arith}
use borrow.Author.Tests.{lt-ltb, le-ltb}
use lib.Dec.{ltb}
use lib.ListN.{length, take, drop, get_or}
use lib.Seq.{take-append_seam, drop-append_seam}
use Rattle.model.specs.keys.Order.{Element, key, lt}
use Rattle.model.specs.tables.Tables.{all}
use Rattle.model.specs.buckets.Bucket.{Entry, Bucket, entries_rise}
use Rattle.model.specs.buckets.Index.{only, is_below, entries_below, entries_from}
use Rattle.model.proofs.Lists.{le_or_lt}
use Rattle.model.proofs.keys.Key.{both}
use Rattle.model.proofs.keys.Order.{lt_lte, lte_trans_lt, refuted}
use Rattle.model.proofs.tables.Places.{sorted_head, sorted_tail}

-- ---- entries that pass a test

-- no more pass than there are
pub only_most : (test : Entry → Bool) (b : Bucket) → length (only test b) ≤ length b
unfolding only
only_most test [] = omega arith
only_most test (e ∷ b) = go (test e) (only_most test b)
  where
    go : (t : Bool) → length (only test b) ≤ length b → length (cond t (e ∷ only test b) (only test b)) ≤ length (e ∷ b)
    go true h = omega arith
    go false h = omega arith

-- all pass, or none does
pub only_all : (test : Entry → Bool) (b : Bucket) → ((i : ℕ) (d : Entry) → i < length b → test (get_or b i d) ≡ true) → only test b ≡ b
unfolding only
only_all test [] f = refl
only_all test (e ∷ b) f = rw (f 0 e (omega arith), only_all test b (λ i d h. f (suc i) d (omega arith)))

pub only_none : (test : Entry → Bool) (b : Bucket) → ((i : ℕ) (d : Entry) → i < length b → test (get_or b i d) ≡ false) → only test b ≡ []
unfolding only
only_none test [] f = refl
only_none test (e ∷ b) f = rw (f 0 e (omega arith), only_none test b (λ i d h. f (suc i) d (omega arith)))

-- where all pass a test, and what passes it and is kept passes another, all kept pass the other
pub only_passes : (test kept then : Entry → Bool) → ((e : Entry) → test e ≡ true → kept e ≡ true → then e ≡ true) → (b : Bucket) → all test b ≡ true → all then (only kept b) ≡ true
unfolding all only
only_passes test kept then f [] h = refl
only_passes test kept then f (e ∷ b) h =
    let w = both (test e) (all test b) h in
    go (kept e) refl w.0 (only_passes test kept then f b w.1)
  where
    go : (s : Bool) → kept e ≡ s → test e ≡ true → all then (only kept b) ≡ true → all then (cond s (e ∷ only kept b) (only kept b)) ≡ true
    go true k t r = rw (f e t k) r
    go false k t r = r

-- ---- rising entries

-- the entries after the first rise
pub rise_tail : (e : Entry) (b : Bucket) → entries_rise (e ∷ b) ≡ true → entries_rise b ≡ true
unfolding entries_rise
rise_tail e b = sorted_tail (Element.key e.key) (map (λ (x : Entry). Element.key x.key) b)

-- the first is below the second
rise_head : (e x : Entry) (b : Bucket) → entries_rise (e ∷ x ∷ b) ≡ true → lt (key e.key) (key x.key) ≡ true
unfolding entries_rise
rise_head e x b = sorted_head (Element.key e.key) (Element.key x.key) (map (λ (y : Entry). Element.key y.key) b)

-- of entries that rise the first is below each later one
pub rise_first : (e : Entry) (b : Bucket) → entries_rise (e ∷ b) ≡ true → (i : ℕ) (d : Entry) → i < length b → lt (key e.key) (key (get_or b i d).key) ≡ true
rise_first e [] h i d l = absurd (omega arith)
rise_first e (x ∷ b) h zero d l = rise_head e x b h
rise_first e (x ∷ b) h (suc i) d l =
    let u = rise_head e x b h in
    let v = rise_first x b (rise_tail e (x ∷ b) h) i d (omega arith) in
    lte_trans_lt (key e.key) (key x.key) (key (get_or b i d).key) (lt_lte (key e.key) (key x.key) u) v

-- of entries that rise each is below each later one
pub rise_at : (b : Bucket) → entries_rise b ≡ true → (i j : ℕ) (d : Entry) → i < j → j < length b → lt (key (get_or b i d).key) (key (get_or b j d).key) ≡ true
rise_at [] h i j d k l = absurd (omega arith)
rise_at (e ∷ b) h zero zero d k l = absurd (omega arith)
rise_at (e ∷ b) h zero (suc j) d k l = rise_first e b h j d (omega arith)
rise_at (e ∷ b) h (suc i) zero d k l = absurd (omega arith)
rise_at (e ∷ b) h (suc i) (suc j) d k l = rise_at b (rise_tail e b h) i j d (omega arith) (omega arith)

-- what isn't below p has nothing after it that is
pub not_below_on : (p a b : Element) → lt a b ≡ true → lt a p ≡ false → lt b p ≡ false
not_below_on p a b h k =
    refuted (lt b p) (λ u. true≢false (sym (lte_trans_lt a b p (lt_lte a b h) u) ∙ k))

module _ (p : Element) where
  -- the entries below p, and then the others, are all
  pub below_from : (b : Bucket) → entries_rise b ≡ true → entries_below p b ++ entries_from p b ≡ b
  unfolding entries_below entries_from only
  below_from [] h = refl
  below_from (e ∷ b) h = go (is_below p e) refl (below_from b (rise_tail e b h))
    where
      go : (t : Bool) → is_below p e ≡ t → only (is_below p) b ++ only (λ (x : Entry). not (is_below p x)) b ≡ b
          → cond t (e ∷ only (is_below p) b) (only (is_below p) b) ++ cond (not t) (e ∷ only (λ (x : Entry). not (is_below p x)) b) (only (λ (x : Entry). not (is_below p x)) b) ≡ e ∷ b
      go true k r = ap (◌∷◌ e) r
      go false k r =
          let f : (i : ℕ) (d : Entry) → i < length b → is_below p (get_or b i d) ≡ false = λ i d l. not_below_on p (key e.key) (key (get_or b i d).key) (rise_first e b h i d l) k in
          let g : (i : ℕ) (d : Entry) → i < length b → not (is_below p (get_or b i d)) ≡ true = λ i d l. rw (f i d l) in
          rw (only_none (is_below p) b f, only_all (λ (x : Entry). not (is_below p x)) b g)

  module _ (b : Bucket) (h : entries_rise b ≡ true) where
    -- so they are the first, as many as there are
    pub below_take : entries_below p b ≡ take (length (entries_below p b)) b
    below_take = sym (take-append_seam (entries_below p b) (entries_from p b)) ∙ ap (take (length (entries_below p b))) (below_from b h)

    pub from_drop : entries_from p b ≡ drop (length (entries_below p b)) b
    from_drop = sym (drop-append_seam (entries_below p b) (entries_from p b)) ∙ ap (drop (length (entries_below p b))) (below_from b h)

  -- there are no more than entries
  pub below_most : (b : Bucket) → length (entries_below p b) ≤ length b
  unfolding entries_below
  below_most b = only_most (is_below p) b

  -- an entry is below p where it stands before that place
  pub below_at : (b : Bucket) → entries_rise b ≡ true → (i : ℕ) (d : Entry) → i < length b → is_below p (get_or b i d) ≡ ltb i (length (entries_below p b))
  unfolding entries_below only
  below_at [] h i d l = absurd (omega arith)
  below_at (e ∷ b) h i d l = go (is_below p e) refl i l (λ j m. below_at b (rise_tail e b h) j d m)
    where
      go : (t : Bool) → is_below p e ≡ t → (i : ℕ) → i < length (e ∷ b) → ((j : ℕ) → j < length b → is_below p (get_or b j d) ≡ ltb j (length (only (is_below p) b)))
          → is_below p (get_or (e ∷ b) i d) ≡ ltb i (length (cond t (e ∷ only (is_below p) b) (only (is_below p) b)))
      go true k zero m r = k ∙ sym (lt-ltb 0 (suc (length (only (is_below p) b))) (omega arith))
      go true k (suc i) m r = r i (omega arith) ∙ suc_ltb i (length (only (is_below p) b))
        where
          suc_ltb : (a c : ℕ) → ltb a c ≡ ltb (suc a) (suc c)
          suc_ltb a c =
              ⊎_elim (λ (w : c ≤ a). le-ltb a c w ∙ sym (le-ltb (suc a) (suc c) (omega arith))) (λ (w : a < c). lt-ltb a c w ∙ sym (lt-ltb (suc a) (suc c) (omega arith))) (le_or_lt c a)
      go false k i m r =
          let f : (j : ℕ) (x : Entry) → j < length b → is_below p (get_or b j x) ≡ false = λ j x w. not_below_on p (key e.key) (key (get_or b j x).key) (rise_first e b h j x w) k in
          rw (only_none (is_below p) b f) (here i m f ∙ sym (le-ltb i 0 (omega arith)))
        where
          here : (i : ℕ) → i < length (e ∷ b) → ((j : ℕ) (x : Entry) → j < length b → is_below p (get_or b j x) ≡ false) → is_below p (get_or (e ∷ b) i d) ≡ false
          here zero w f = k
          here (suc i) w f = f i d (omega arith)
