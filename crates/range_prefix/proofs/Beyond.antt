-- The range prefix by the common run and what follows it.
use mathlib.Core.Path.{◌≡◌, refl, sym}
use mathlib.Core.Logic.{⊎_elim}
use mathlib.Core.Bool.{Bool, true, false, cond, not, ◌&&◌, not-not}
use mathlib.Core.List.{List, [], ◌∷◌}
use Prim.Native.Nat.{ℕ, suc, ◌+◌, ◌-◌, ◌≤◌, ◌<◌}
use native.Mathlib.Omega.{arith}
use borrow.Author.Tests.{eq-eqb, ne_eqb, not-true, not-false}
use lib.Dec.{eqb}
use lib.ListN.{length, take, drop, get_or, drop_of_length-le}
use Rattle.model.specs.keys.Key.{Key, is_nil, common_run}
use Rattle.model.specs.keys.Order.{key}
use Rattle.model.specs.records.Record.{length_field, key_bytes, element, max_mark}
use Rattle.model.specs.ranges.RangePrefix.{lcpright, lcp, PivotLcp}
use Rattle.model.proofs.Lists.{drop_step, rest, le_or_lt}
use Rattle.model.proofs.keys.CommonRun.{differ_at}

-- the range prefix is the common run and the range prefix of what follows it
after : (l r : Key) → length (common_run l r) + length (lcp (drop (length (common_run l r)) l) (drop (length (common_run l r)) r)) ≡ length (lcp l r)
unfolding common_run lcp
after [] r = omega arith
after (a ∷ l) [] = omega arith
after (a ∷ l) (b ∷ r) = go (eqb a b) refl (after l r)
  where
    go : (t : Bool) → eqb a b ≡ t
        → length (common_run l r) + length (lcp (drop (length (common_run l r)) l) (drop (length (common_run l r)) r)) ≡ length (lcp l r)
        → length (cond t (a ∷ common_run l r) [])
        + length (lcp (drop (length (cond t (a ∷ common_run l r) [])) (a ∷ l)) (drop (length (cond t (a ∷ common_run l r) [])) (b ∷ r)))
        ≡ length (lcp (a ∷ l) (b ∷ r))
    go true e h = rw e (omega arith)
    go false e h = omega arith

module _ (l r : Key) (n : ℕ) (e : n ≡ length (common_run l r)) where
  from : n + length (lcp (drop n l) (drop n r)) ≡ length (lcp l r)
  from = rw e (after l r)

  stops : length (lcp (drop n l) (drop n r)) ≡ 0 → n ≡ length (lcp l r)
  stops h = omega (arith, from)

  pub lcp_ends : length l ≤ n → n ≡ length (lcp l r)
  unfolding lcp
  lcp_ends h = stops (rw (drop_of_length-le l h))

  module _ (h : n < length l) where
    shorter : length r ≤ n → length (lcp (drop n l) (drop n r)) ≡ 0
    unfolding lcp
    shorter k = rw (drop_step l n h, drop_of_length-le r k)

    longer : n + 1 < length r → length (lcp (drop n l) (drop n r)) ≡ 0
    unfolding lcp
    longer k =
        let i : n < length r = omega arith in
        rw (drop_step l n h, drop_step r n i, drop_step r (n + 1) k, ne_eqb (get_or l n 0) (get_or r n 0) (differ_at l r n e h i))

    pub lcp_not_one : (length r ≡ n + 1 → ⊥) → n ≡ length (lcp l r)
    lcp_not_one k = stops (⊎_elim shorter (λ (i : n < length r). longer (omega arith)) (le_or_lt (length r) n))

    module _ (k : length r ≡ n + 1) where
      one : length (lcp (drop n l) (drop n r)) ≡ length (cond (eqb (get_or l n 0 + 1) (get_or r n 0)) (get_or l n 0 ∷ lcpright (drop (n + 1) l)) [])
      unfolding lcp
      one =
          let i : n < length r = omega arith in
          let j : length r ≤ n + 1 = omega arith in
          rw (drop_step l n h, drop_step r n i, drop_of_length-le r j, ne_eqb (get_or l n 0) (get_or r n 0) (differ_at l r n e h i))

      pub lcp_apart : (t : Bool) → t ≡ eqb (get_or l n 0 + 1) (get_or r n 0) → not t ≡ true → n ≡ length (lcp l r)
      lcp_apart t p q = stops (rw (one, ← p, not-true t q))

      pub lcp_goes_on : (t : Bool) (m : ℕ) → t ≡ eqb (get_or l n 0 + 1) (get_or r n 0) → not t ≡ false
          → m ≡ length (lcpright (take (length l - (n + 1)) (drop (n + 1) l))) → n + 1 + m ≡ length (lcp l r)
      lcp_goes_on t m p q g =
          let s : length (lcp (drop n l) (drop n r)) ≡ suc (length (lcpright (drop (n + 1) l))) = rw (one, ← p, not-false t q) in
          let v : m ≡ length (lcpright (drop (n + 1) l)) = rw rest at g in
          omega (arith, from)

-- ---- up to an element

module _ (l r : List ℕ) (t : Bool) (p : t ≡ eqb (length_field r) max_mark) where
  pub up_to_max : (n : ℕ) → t ≡ true → n ≡ length (lcpright l) → n ≡ length (PivotLcp (key l) (element r))
  unfolding PivotLcp element
  up_to_max n h e = rw (← p, h) e

  pub up_to_key : (k : List ℕ) (n : ℕ) → t ≡ false → k ≡ key_bytes r → n ≡ length (lcp l k) → n ≡ length (PivotLcp (key l) (element r))
  unfolding PivotLcp element
  up_to_key k n h q e = rw (← p, h, ← q) e

-- ---- whether there is a prefix

pub no_left : (l r : Key) → length l ≡ 0 → false ≡ not (is_nil (lcp l r))
unfolding lcp
no_left [] r h = refl
no_left (a ∷ l) r h = absurd (omega arith)

pub no_right : (l r : Key) → length r ≡ 0 → false ≡ not (is_nil (lcp l r))
unfolding lcp
no_right [] r h = refl
no_right (a ∷ l) [] h = refl
no_right (a ∷ l) (b ∷ r) h = absurd (omega arith)

-- two keys with a first byte each
module _ (l r : Key) (h : length l ≡ 0 → ⊥) (k : length r ≡ 0 → ⊥) where
  by_first_lem : is_nil (lcp l r) ≡ cond (eqb (get_or l 0 0) (get_or r 0 0)) false (not (eqb (length r) 1 && eqb (get_or l 0 0 + 1) (get_or r 0 0)))
  unfolding lcp
  by_first_lem = go l r h k
    where
      go : (l r : Key) → (length l ≡ 0 → ⊥) → (length r ≡ 0 → ⊥)
          → is_nil (lcp l r) ≡ cond (eqb (get_or l 0 0) (get_or r 0 0)) false (not (eqb (length r) 1 && eqb (get_or l 0 0 + 1) (get_or r 0 0)))
      go [] r h k = absurd (h refl)
      go (a ∷ l) [] h k = absurd (k refl)
      go (a ∷ l) (b ∷ []) h k = turn (eqb a b) (eqb (a + 1) b)
        where
          turn : (s t : Bool) → is_nil (cond s (a ∷ lcp l []) (cond t (a ∷ lcpright l) [])) ≡ cond s false (not t)
          turn true t = refl
          turn false true = refl
          turn false false = refl
      go (a ∷ l) (b ∷ c ∷ r) h k = rw (ne_eqb (length (b ∷ c ∷ r)) 1 (λ e. omega arith)) (turn (eqb a b))
        where
          turn : (s : Bool) → is_nil (cond s (a ∷ lcp l (c ∷ r)) []) ≡ cond s false true
          turn true = refl
          turn false = refl

  pub alike : get_or l 0 0 ≡ get_or r 0 0 → true ≡ not (is_nil (lcp l r))
  alike e = rw (by_first_lem, eq-eqb (get_or l 0 0) (get_or r 0 0) e)

  module _ (d : get_or l 0 0 ≡ get_or r 0 0 → ⊥) where
    pub more_than_one : (length r ≡ 1 → ⊥) → false ≡ not (is_nil (lcp l r))
    more_than_one e = rw (by_first_lem, ne_eqb (get_or l 0 0) (get_or r 0 0) d, ne_eqb (length r) 1 e)

    pub one_next : (t : Bool) → length r ≡ 1 → t ≡ eqb (get_or l 0 0 + 1) (get_or r 0 0) → t ≡ not (is_nil (lcp l r))
    one_next t e f = rw (by_first_lem, ne_eqb (get_or l 0 0) (get_or r 0 0) d, e, ← f) (sym (not-not t))

-- ---- whether what two records stand for has a prefix

-- up to max FF tells
by_ff : (k : Key) → eqb (get_or k 0 0) 255 ≡ not (is_nil (lcpright k))
unfolding lcpright
by_ff [] = refl
by_ff (a ∷ k) = go (eqb a 255)
  where
    go : (t : Bool) → t ≡ not (is_nil (cond t (a ∷ lcpright k) []))
    go true = refl
    go false = refl

module _ (l r : List ℕ) (t : Bool) (p : t ≡ eqb (length_field l) max_mark) where
  pub from_max : t ≡ true → false ≡ not (is_nil (PivotLcp (element l) (element r)))
  unfolding element PivotLcp
  from_max h = rw (← p, h)

  module _ (h : t ≡ false) (k : List ℕ) (e : k ≡ key_bytes l) (u : Bool) (q : u ≡ eqb (length_field r) max_mark) where
    pub between_max : (b : ℕ) → u ≡ true → b ≡ get_or k 0 0 → eqb b 255 ≡ not (is_nil (PivotLcp (element l) (element r)))
    unfolding element PivotLcp
    between_max b g f = rw (← p, ← q, h, g, ← e, f) (by_ff k)

    pub between_keys : (m : List ℕ) (v : Bool) → u ≡ false → m ≡ key_bytes r → v ≡ not (is_nil (lcp k m)) → v ≡ not (is_nil (PivotLcp (element l) (element r)))
    unfolding element PivotLcp
    between_keys m v g f w = rw (← p, ← q, h, g, ← e, ← f) w

-- `has_key_prefix`, by its tests
pub ruleset next_only = (no_left, no_right, alike, more_than_one, one_next)
