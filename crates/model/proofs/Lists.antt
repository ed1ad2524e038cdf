-- Facts on lists and numbers that the proofs of several crates cite.
use mathlib.Core.Path.{◌≡◌, refl, sym, ap, ◌∙◌}
use mathlib.Core.Bool.{Bool, true, false, ◌&&◌, and_assoc}
use mathlib.Core.List.{List, [], ◌∷◌, ◌++◌, map, append_assoc, append-nil}
use mathlib.Core.Logic.{◌⊎◌, inl, inr, ⊎_elim}
use Prim.Native.Nat.{ℕ, zero, suc, ◌+◌, ◌-◌, ◌≤◌, ◌<◌, min}
use native.Mathlib.Numerals.{add-one}
use native.Mathlib.Omega.{arith}
use lib.Dec.{leb}
use borrow.Author.Tests.{leb-true, leb-false}
use lib.ListN.{length, take, drop, get_or, length-append, length-drop, take-append-drop, drop_of_length-le}
use lib.Seq.{drop-cons, drop-drop, take_all, take-length, length-take-le, take-append_seam, drop-append_seam, take-append-le, take-append-add}
use borrow.Rule.Slice.PartMut.{put_mid}
use Rattle.model.specs.keys.Key.{Key, max_len}
use Rattle.model.specs.inner.Written.{clipped}
use Rattle.model.specs.tables.Tables.{all}
use Rattle.model.specs.calls.Refusals.{over}
use Rattle.model.specs.inner.Written.{into}
use Rattle.model.proofs.keys.Key.{both}

-- of two numbers one is at most the other
pub le_or_lt : (a b : ℕ) → (a ≤ b) ⊎ (b < a)
le_or_lt a b = go (leb a b) refl
  where
    go : (t : Bool) → leb a b ≡ t → (a ≤ b) ⊎ (b < a)
    go true e = inl (leb-true a b e)
    go false e = inr (leb-false a b e)

-- the code's 2 + i in the form by which lists recurse
pub two_more : (i : ℕ) → 2 + i ≡ suc (suc i)
two_more i = omega arith

-- what is left from a place inside the list begins with what stands there
pub drop_step : (l : List ℕ) (i : ℕ) → i < length l → drop i l ≡ get_or l i 0 ∷ drop (i + 1) l
drop_step l i h = rw (add-one, drop-cons l i 0)

-- what stands at a place inside the list of images is the image of what stands there
pub get_d_map {ℓ ℓ'} : {A : Type ℓ} {B : Type ℓ'} (f : A → B) (l : List A) (i : ℕ) (d : B) (e : A)
    → i < length l → get_or (map f l) i d ≡ f (get_or l i e)
get_d_map f [] i d e h = absurd (omega arith)
get_d_map f (x ∷ l) zero d e h = refl
get_d_map f (x ∷ l) (suc i) d e h = get_d_map f l i d e (omega arith)

-- a part from a place to the end is what is left from there
pub rest : (l : List ℕ) (i : ℕ) → take (length l - i) (drop i l) ≡ drop i l
rest l i = take_all (length l - i) (drop i l) (omega (arith, length-drop i l))

-- a part up to a place inside is that long
pub part_counts : (n : ℕ) (l : List ℕ) → n ≤ length l → n ≡ length (take n l)
part_counts n l h = sym (length-take-le n l h)

-- taking no more than there is
pub take_min : (n : ℕ) (l : List ℕ) → take (min n (length l)) l ≡ take n l
take_min n l =
    ⊎_elim (λ (h : n ≤ length l). let e : min n (length l) ≡ n = omega arith in rw e)
    (λ (h : length l < n). let e : min n (length l) ≡ length l = omega arith in rw (e, take-length, take_all n l (omega arith)))
    (le_or_lt n (length l))

-- what has room is written whole
pub into_over : (w d : List ℕ) → length w ≤ length d → into w d ≡ over w d
unfolding into
into_over w d h = rw (take_all (length d) w h)

-- a part from a place to the end, lent and come back, stands after what is before it
pub lent_on : (i : ℕ) (d w : List ℕ) → put_mid i (length d - i) d w ≡ take i d ++ w
lent_on i d w =
    let h : length (drop i d) ≤ length d - i = omega (arith, length-drop i d) in
    rw (drop_of_length-le (drop i d) h, append-nil)

-- writing keeps the length
pub length_over : (w d : List ℕ) → length w ≤ length d → length (over w d) ≡ length d
unfolding over
length_over w d h = rw (length-append, length-drop) (omega arith)

-- what is written, and then in the rest what follows it, is both written
pub over_append : (a b d : List ℕ) → a ++ over b (drop (length a) d) ≡ over (a ++ b) d
unfolding over
over_append a b d = rw (drop-drop, length-append, append_assoc)

-- what is written is read back
pub take_over : (a d : List ℕ) → take (length a) (over a d) ≡ a
unfolding over
take_over a d = take-append_seam a (drop (length a) d)

-- what is written over as many bytes is all that is left
pub over_all : (w d : List ℕ) → length d ≤ length w → over w d ≡ w
unfolding over
over_all w d h = rw (drop_of_length-le d h) (append-nil w)

drop_over : (a d : List ℕ) → drop (length a) (over a d) ≡ drop (length a) d
unfolding over
drop_over a d = drop-append_seam a (drop (length a) d)

-- what is longer than the room fills it
fills : (a d : List ℕ) → length d ≤ length a → into a d ≡ take (length d) a
unfolding into over
fills a d h =
    let e : length d ≤ length d = omega arith in
    rw (length-take-le (length d) a h, drop_of_length-le d e, append-nil)

-- what is written after a, as far as there is room
after_first : (a b d : List ℕ) → length a ≤ length d → a ++ into b (drop (length a) d) ≡ into (a ++ b) d
unfolding into
after_first a b d h =
    let e : length d ≡ length a + (length d - length a) = omega arith in
    let f : take (length d) (a ++ b) ≡ a ++ take (length d - length a) b =
    rw (← e) at (take-append-add a b (length d - length a))
    in
    rw (f, length-drop) (over_append a (take (length d - length a) b) d)

-- nothing is written where there is no room
into_none : (a : List ℕ) → into a [] ≡ []
unfolding into over
into_none a = refl

-- a is written, and b to what is lent on after it
pub written_on : (n : ℕ) (a b d v w : List ℕ) → n ≡ min (length a) (length d) → v ≡ into a d
    → w ≡ into b (take (length v - n) (drop n v)) → put_mid n (length v - n) v w ≡ into (a ++ b) d
written_on n a b d v w m e g = ⊎_elim room full (le_or_lt (length a) (length d))
  where
    room : length a ≤ length d → put_mid n (length v - n) v w ≡ into (a ++ b) d
    room h =
        let k : n ≡ length a = omega arith in
        rw (lent_on, g, rest, e, into_over a d h, k, take_over, drop_over) (after_first a b d h)

    full : length d < length a → put_mid n (length v - n) v w ≡ into (a ++ b) d
    full h =
        let k : n ≡ length d = omega arith in
        let u : v ≡ take (length d) a = e ∙ fills a d (omega arith) in
        let z : length v ≡ length d = rw u (length-take-le (length d) a (omega arith)) in
        let i : length v ≤ n = omega arith in
        let q : drop n v ≡ [] = drop_of_length-le v i in
        let y : w ≡ [] = g ∙ rw (rest, q) (into_none b) in
        rw (lent_on, y, append-nil, take_all n v (omega arith), u, fills (a ++ b) d (omega (arith, length-append a b)))
        (sym (take-append-le (length d) a b (omega arith)))

-- a key of at most 64 bytes has room in a record
pub clipped_all : (k : Key) → length k ≤ max_len → clipped k ≡ k
unfolding clipped
clipped_all k h = take_all max_len k h

-- ---- a test that all pass

module _ {A : Type 0} (test : A → Bool) where
  -- all pass where each place does; past the end stands d
  pub all_at : (xs : List A) (i : ℕ) (d : A) → test d ≡ true → all test xs ≡ true → test (get_or xs i d) ≡ true
  unfolding all
  all_at [] i d e h = e
  all_at (x ∷ xs) zero d e h = (both (test x) (all test xs) h).0
  all_at (x ∷ xs) (suc i) d e h = all_at xs i d e (both (test x) (all test xs) h).1

  -- each place inside passes where all do
  pub all_inside : (xs : List A) (i : ℕ) (d : A) → i < length xs → all test xs ≡ true → test (get_or xs i d) ≡ true
  unfolding all
  all_inside [] i d l h = absurd (omega arith)
  all_inside (x ∷ xs) zero d l h = (both (test x) (all test xs) h).0
  all_inside (x ∷ xs) (suc i) d l h = all_inside xs i d (omega arith) (both (test x) (all test xs) h).1

  -- all pass where each place inside passes
  pub inside_all : (xs : List A) (d : A) → ((i : ℕ) → i < length xs → test (get_or xs i d) ≡ true) → all test xs ≡ true
  unfolding all
  inside_all [] d f = refl
  inside_all (x ∷ xs) d f = rw (f 0 (omega arith)) (inside_all xs d (λ i l. f (suc i) (omega arith)))

  -- all of two lists pass where all of each do
  pub all_append : (xs ys : List A) → all test (xs ++ ys) ≡ (all test xs && all test ys)
  unfolding all
  all_append [] ys = refl
  all_append (x ∷ xs) ys = ap (◌&&◌ (test x)) (all_append xs ys) ∙ sym (and_assoc (test x) (all test xs) (all test ys))

  -- the first that stand in such a list and those that follow them pass
  pub all_parts : (n : ℕ) (xs : List A) → all test xs ≡ true → (all test (take n xs) ≡ true) × (all test (drop n xs) ≡ true)
  all_parts n xs h =
      both (all test (take n xs)) (all test (drop n xs)) (sym (all_append (take n xs) (drop n xs)) ∙ rw (take-append-drop n xs) h)

-- where what passes one test has images that pass another, all images of a list that passes pass
pub all_map : {A B : Type 0} (test : A → Bool) (f : A → B) (then : B → Bool) → ((x : A) → test x ≡ true → then (f x) ≡ true)
    → (xs : List A) → all test xs ≡ true → all then (map f xs) ≡ true
unfolding all
all_map test f then g [] h = refl
all_map test f then g (x ∷ xs) h = let b = both (test x) (all test xs) h in rw (g x b.0) (all_map test f then g xs b.1)
