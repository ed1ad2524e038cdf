-- Bytes that make equal words are equal, and those of a zero word are zero.
use mathlib.Core.Path.{◌≡◌, sym, ◌∙◌}
use mathlib.Core.List.{List, [], ◌∷◌}
use Prim.Native.Nat.{ℕ, zero, suc, ◌+◌, ◌*◌, ◌-◌, ◌/◌, ◌≤◌, ◌<◌}
use native.Mathlib.Omega.{arith}
use mir.Syntax.{w8, w32, w64}
use mir.Val.{Fits}
use borrow.Author.Tests.{eq-eqb}
use lib.ListN.{length, take, drop, get_or, length-drop}
use lib.Seq.{drop-drop}
use Rattle.std.specs.Int.{from_le_bytes}
use Rattle.model.specs.keys.Key.{Bytes, common_run}
use Rattle.model.proofs.keys.Key.{bytes_of, bytes_drop}
use Rattle.scan.specs.Word.{word_of}

-- the first byte of some, or 0 of none
pub head_byte : (l : List ℕ) → Bytes l → get_or l 0 0 < 256
head_byte [] p = omega arith
head_byte (x ∷ l) p = p.0

-- ---- lists whose first n bytes make one word

pub common_words : (n : ℕ) (a b : List ℕ) → n ≤ length a → n ≤ length b → Bytes a → Bytes b → word_of n a ≡ word_of n b
    → n + length (common_run (drop n a) (drop n b)) ≡ length (common_run a b)
unfolding word_of common_run
common_words zero a b h k p q e = omega arith
common_words (suc n) [] b h k p q e = absurd (omega arith)
common_words (suc n) (x ∷ a) [] h k p q e = absurd (omega arith)
common_words (suc n) (x ∷ a) (y ∷ b) h k p q e =
    let u = p.0 in
    let v = q.0 in
    let s : x ≡ y = omega arith in
    let t = common_words n a b (omega arith) (omega arith) p.1 q.1 (omega arith) in
    rw (eq-eqb x y s) (omega (arith, t))

-- ---- in the course of a scan, by words of m bytes

pub word_agrees : (m : ℕ) (a b : List ℕ) (i n x y : ℕ) → x ≡ word_of m (drop i a) → y ≡ word_of m (drop i b) → x ≡ y → m ≤ n - i
    → n ≤ length a → n ≤ length b → ((j : ℕ) → Fits w8 (get_or a j 0)) → ((j : ℕ) → Fits w8 (get_or b j 0))
    → i + m + length (common_run (drop (i + m) a) (drop (i + m) b)) ≡ i + length (common_run (drop i a) (drop i b))
word_agrees m a b i n x y u v e l p q s t =
    let w = common_words m (drop i a) (drop i b) (omega (arith, length-drop i a)) (omega (arith, length-drop i b))
    (bytes_drop i a (bytes_of a s)) (bytes_drop i b (bytes_of b t)) (sym u ∙ e ∙ v) in
    omega (arith, rw (drop-drop, drop-drop) at w)

-- the words of a and b before the place i agree, of those that n bytes have whole
pub record Alike (a b : List ℕ) (n i : ℕ) : Type 0 where
  pub inside : i ≤ n / 8 * 8
  pub words : i ≡ i / 8 * 8
  pub same : i + length (common_run (drop i a) (drop i b)) ≡ length (common_run a b)

-- at the start there are none
pub alike_start : (a b : List ℕ) (n : ℕ) → Alike a b n 0
alike_start a b n = record { inside = omega arith; words = omega arith; same = omega arith }

module _ (a b : List ℕ) (n i : ℕ) (c : Alike a b n i) where
  -- one that agrees is passed
  pub alike_on : (x y : ℕ) → x ≡ word_of 8 (drop i a) → y ≡ word_of 8 (drop i b) → x ≡ y → i < n / 8 * 8
      → n ≤ length a → n ≤ length b → ((j : ℕ) → Fits w8 (get_or a j 0)) → ((j : ℕ) → Fits w8 (get_or b j 0)) → Alike a b n (i + 8)
  alike_on x y u v e l p q s t =
      record { inside = omega (arith, c.words); words = omega (arith, c.words); same = word_agrees 8 a b i n x y u v e (omega (arith, c.words)) p q s t ∙ c.same }

  -- and after the last of them they agree that far
  pub alike_end : n / 8 * 8 ≤ i → n / 8 * 8 + length (common_run (drop (n / 8 * 8) a) (drop (n / 8 * 8) b)) ≡ length (common_run a b)
  alike_end l = let e : i ≡ n / 8 * 8 = omega (arith, c.inside) in rw e at c.same

-- the word of that number is passed
pub alike_number : (a b : List ℕ) (n i : ℕ) → Alike a b n (8 * i) → (x y : ℕ) → x ≡ word_of 8 (drop (8 * i) a) → y ≡ word_of 8 (drop (8 * i) b) → x ≡ y → i < n / 8
    → n ≤ length a → n ≤ length b → ((j : ℕ) → Fits w8 (get_or a j 0)) → ((j : ℕ) → Fits w8 (get_or b j 0)) → Alike a b n (8 * (i + 1))
alike_number a b n i c x y u v e l p q s t =
    let f : 8 * (i + 1) ≡ 8 * i + 8 = omega arith in
    rw f (alike_on a b n (8 * i) c x y u v e (omega arith) p q s t)

-- ---- the word of four and of eight bytes, as the library reads it

half_first : (l : List ℕ) → 4 ≤ length l → from_le_bytes w32 (take 4 l) ≡ word_of 4 l
unfolding word_of
half_first [] p = absurd (omega arith)
half_first (a ∷ []) p = absurd (omega arith)
half_first (a ∷ b ∷ []) p = absurd (omega arith)
half_first (a ∷ b ∷ c ∷ []) p = absurd (omega arith)
half_first (a ∷ b ∷ c ∷ d ∷ l) p = omega arith

word_first : (l : List ℕ) → 8 ≤ length l → from_le_bytes w64 (take 8 l) ≡ word_of 8 l
unfolding word_of
word_first [] p = absurd (omega arith)
word_first (a ∷ []) p = absurd (omega arith)
word_first (a ∷ b ∷ []) p = absurd (omega arith)
word_first (a ∷ b ∷ c ∷ []) p = absurd (omega arith)
word_first (a ∷ b ∷ c ∷ d ∷ []) p = absurd (omega arith)
word_first (a ∷ b ∷ c ∷ d ∷ e ∷ []) p = absurd (omega arith)
word_first (a ∷ b ∷ c ∷ d ∷ e ∷ f ∷ []) p = absurd (omega arith)
word_first (a ∷ b ∷ c ∷ d ∷ e ∷ f ∷ g ∷ []) p = absurd (omega arith)
word_first (a ∷ b ∷ c ∷ d ∷ e ∷ f ∷ g ∷ h ∷ l) p = omega arith

pub half_is : (s : List ℕ) (i : ℕ) (y : List ℕ) → i + 4 ≤ length s → y ≡ take (i + 4 - i) (drop i s) → from_le_bytes w32 y ≡ word_of 4 (drop i s)
half_is s i y h e =
    let n : i + 4 - i ≡ 4 = omega arith in
    rw (e, n) (half_first (drop i s) (omega (arith, length-drop i s)))

pub word_is : (s : List ℕ) (i : ℕ) (y : List ℕ) → i + 8 ≤ length s → y ≡ take (i + 8 - i) (drop i s) → from_le_bytes w64 y ≡ word_of 8 (drop i s)
word_is s i y h e =
    let n : i + 8 - i ≡ 8 = omega arith in
    rw (e, n) (word_first (drop i s) (omega (arith, length-drop i s)))
