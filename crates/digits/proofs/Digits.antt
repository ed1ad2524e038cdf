-- The digits of numbers and keys, and the loops that write them.
use mathlib.Core.Path.{◌≡◌, refl, ◌∙◌}
use mathlib.Core.List.{List, [], ◌∷◌, ◌++◌}
use Prim.Native.Nat.{ℕ, zero, suc, ◌+◌, ◌*◌, ◌/◌, ◌%◌, ◌≤◌, ◌<◌, min}
use native.Mathlib.Omega.{arith}
use lib.ListN.{length, take, drop, get_or, set}
use Rattle.model.specs.keys.Key.{Key}
use Rattle.model.specs.inner.Written.{into}
use Rattle.model.specs.list.ShelfList.{digit, hex}
use Rattle.model.proofs.list.Length.{hex_length}
use Rattle.copies.proofs.Turns.{copy_turn, copy_end}

-- ---- the digits of a key

-- a byte's first digit stands at an even place
first_digit : (k : Key) (j : ℕ) → j < length k → get_or (hex k) (j * 2) 0 ≡ digit (get_or k j 0 / 16)
unfolding hex
first_digit [] j h = absurd (omega arith)
first_digit (b ∷ k) zero h = refl
first_digit (b ∷ k) (suc j) h =
    let e : suc j * 2 ≡ suc (suc (j * 2)) = omega arith in
    rw e (first_digit k j (omega arith))

-- the second digit of a byte stands at the next place
second_digit : (k : Key) (j : ℕ) → j < length k → get_or (hex k) (suc (j * 2)) 0 ≡ digit (get_or k j 0 % 16)
unfolding hex
second_digit [] j h = absurd (omega arith)
second_digit (b ∷ k) zero h = refl
second_digit (b ∷ k) (suc j) h =
    let e : suc j * 2 ≡ suc (suc (j * 2)) = omega arith in
    rw e (second_digit k j (omega arith))

module _ (k : Key) (i b r : ℕ) (e : b ≡ get_or k (i / 2) 0) (h : i < length k * 2) where
  pub even_place : i % 2 ≡ 0 → r ≡ digit (b / 16) → r ≡ get_or (hex k) i 0
  even_place m f =
      let g : i / 2 * 2 ≡ i = omega arith in
      let l : i / 2 < length k = omega arith in
      f ∙ rw (e, ← first_digit k (i / 2) l, g)

  pub odd_place : (i % 2 ≡ 0 → ⊥) → r ≡ digit (b % 16) → r ≡ get_or (hex k) i 0
  odd_place m f =
      let n : i % 2 ≡ 1 = omega arith in
      let g : suc (i / 2 * 2) ≡ i = omega arith in
      let l : i / 2 < length k = omega arith in
      f ∙ rw (e, ← second_digit k (i / 2) l, g)

-- ---- the loops that write them

pub digits_length : (k : Key) → length k * 2 ≡ length (hex k)
digits_length k = omega (arith, hex_length k)

module _ (k : Key) (d₀ d : List ℕ) (i : ℕ) (h : d ≡ take i (hex k) ++ drop i d₀) where
  hex_turn : (v : ℕ) → v ≡ get_or (hex k) i 0 → i < length k * 2 → i < length d₀ → set d i v ≡ take (i + 1) (hex k) ++ drop (i + 1) d₀
  hex_turn v e p q = rw e (copy_turn (hex k) d₀ d i (i + 1) h (omega arith) (omega (arith, hex_length k)) (omega arith))

  hex_end : i ≡ min (length k * 2) (length d₀) → d ≡ into (hex k) d₀
  hex_end e = copy_end (hex k) d₀ d i i h (omega arith) (omega arith) (omega (arith, hex_length k))

  -- a digit a turn, where not all have room
  pub clipped_turn : (v : ℕ) → v ≡ get_or (hex k) i 0 → i < length d → length d ≡ length d₀ → length d₀ < length k * 2
      → set d i v ≡ take (i + 1) (hex k) ++ drop (i + 1) d₀
  clipped_turn v e p q r = hex_turn v e (omega arith) (omega arith)

  pub clipped_end : i ≤ length d₀ → length d ≤ i → length d ≡ length d₀ → length d₀ < length k * 2 → d ≡ into (hex k) d₀
  clipped_end p q e r = hex_end (omega arith)

-- both digits of a byte a turn, where all have room
module _ (k : Key) (d₀ d : List ℕ) (i : ℕ) (r : length k * 2 ≤ length d₀) where
  pub pair_turn : (b v w : ℕ) → d ≡ take (2 * i) (hex k) ++ drop (2 * i) d₀ → b ≡ get_or k i 0 → v ≡ digit (b / 16) → w ≡ digit (b % 16)
      → i < length k → set (set d (2 * i) v) (2 * i + 1) w ≡ take (2 * (i + 1)) (hex k) ++ drop (2 * (i + 1)) d₀
  pair_turn b v w h e f g p =
      let t : 2 * i ≡ i * 2 = omega arith in
      let u : 2 * i + 1 ≡ suc (i * 2) = omega arith in
      let x : 2 * (i + 1) ≡ 2 * i + 1 + 1 = omega arith in
      let f' : v ≡ get_or (hex k) (2 * i) 0 = f ∙ rw (e, t, first_digit k i p) in
      let g' : w ≡ get_or (hex k) (2 * i + 1) 0 = g ∙ rw (e, u, second_digit k i p) in
      let once = hex_turn k d₀ d (2 * i) h v f' (omega arith) (omega arith) in
      rw x (hex_turn k d₀ (set d (2 * i) v) (2 * i + 1) once w g' (omega arith) (omega arith))

  pub pair_end : d ≡ take (2 * i) (hex k) ++ drop (2 * i) d₀ → i ≤ length k → length k ≤ i → d ≡ into (hex k) d₀
  pair_end h p q = hex_end k d₀ d (2 * i) h (omega arith)
