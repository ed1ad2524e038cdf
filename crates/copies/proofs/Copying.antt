-- Copying by bytes and by blocks: the first i bytes of s stand over d₀.
use mathlib.Core.Path.{◌≡◌, ap, ◌∙◌}
use mathlib.Core.List.{List, ◌++◌, append_assoc}
use Prim.Native.Nat.{ℕ, ◌+◌, ◌-◌, ◌≤◌, ◌<◌, min}
use native.Mathlib.Omega.{arith}
use borrow.Rule.Slice.PartMut.{put_mid}
use lib.ListN.{length, take, drop, length-append, length-drop}
use lib.Seq.{length-take-le, take-take, take-add, take-append-le, drop-append-add, drop-drop}
use Rattle.model.specs.calls.Refusals.{over}
use Rattle.model.specs.inner.Written.{into}
use Rattle.model.proofs.Lists.{rest, lent_on, take_min}

-- all bytes that have room are there
pub all_copied : (s d₀ d : List ℕ) (n : ℕ) → n ≡ min (length s) (length d₀) → d ≡ over (take n s) d₀ → d ≡ into s d₀
unfolding into
all_copied s d₀ d n e h =
    let f : n ≡ min (length d₀) (length s) = omega arith in
    rw (← take_min (length d₀) s, ← f) h

-- a block of them put in its place
pub block_put : (n : ℕ) (s d v : List ℕ) → n ≤ length s → v ≡ take n s → v ++ drop n d ≡ over (take n s) d
unfolding over
block_put n s d v h e = rw (length-take-le n s h, e)

-- ---- blocks of u bytes

-- the first i of the n bytes to copy
pub record Copied (s : List ℕ) (n : ℕ) (d₀ d : List ℕ) (i : ℕ) : Type 0 where
  pub within : i ≤ n
  pub long : length d ≡ length d₀
  pub bytes : d ≡ take i s ++ drop i d₀

module _ (u : ℕ) (s : List ℕ) (n : ℕ) (d₀ d : List ℕ) (i : ℕ) (r : n ≤ length s) (t : n ≤ length d₀) (w : Copied s n d₀ d i) where
  -- a block put at a place up to which, or just before which, bytes are copied
  module _ (at : ℕ) (h : at ≤ i) (k : i ≤ at + u) (m : at + u ≤ n) (v : List ℕ)
      (g : v ≡ over (take u (take (length s - at) (drop at s))) (take (length d - at) (drop at d))) where
    copied_length : length (take i s) ≡ i
    copied_length = length-take-le i s (omega (arith, w.within))

    before : take at d ≡ take at s
    before = rw (w.bytes, take-append-le at (take i s) (drop i d₀) (omega (arith, copied_length)), take-take at i s h)

    beyond : drop (at + u) d ≡ drop (at + u) d₀
    beyond =
        let x : at + u ≡ length (take i s) + (at + u - i) = omega (arith, copied_length) in
        let y : i + (at + u - i) ≡ at + u = omega arith in
        rw w.bytes (ap (λ (j : ℕ). drop j (take i s ++ drop i d₀)) x ∙ drop-append-add (take i s) (drop i d₀) (at + u - i) ∙ drop-drop (at + u - i) i d₀ ∙ ap (λ (j : ℕ). drop j d₀) y)

    put_at : put_mid at (length d - at) d v ≡ take (at + u) s ++ drop (at + u) d₀
    unfolding over
    put_at =
        let l : length (take u (drop at s)) ≡ u = length-take-le u (drop at s) (omega (arith, length-drop at s)) in
        let z : v ≡ take u (drop at s) ++ drop u (drop at d) = rw (rest s at, rest d at, l) at g in
        rw (lent_on, z, drop-drop, before, beyond, take-add, append_assoc)

  -- one block more
  pub copy_on : i < n - u + 1 → u ≤ n → (v : List ℕ) → v ≡ over (take u (take (length s - i) (drop i s))) (take (length d - i) (drop i d))
      → Copied s n d₀ (put_mid i (length d - i) d v) (i + u)
  copy_on h o v g =
      let p = put_at i (omega arith) (omega arith) (omega arith) v g in
      record {
        within = omega arith;
        long = rw (p, length-append, length-take-le (i + u) s (omega arith), length-drop) (omega arith);
        bytes = p;
      }

  -- with the last one all is copied
  pub copy_last : u ≤ n → n - u ≤ i → (v : List ℕ)
      → v ≡ over (take u (take (length s - (n - u)) (drop (n - u) s))) (take (length d - (n - u)) (drop (n - u) d))
      → put_mid (n - u) (length d - (n - u)) d v ≡ over (take n s) d₀
  unfolding over
  copy_last o h v g =
      let j : n - u + u ≡ n = omega arith in
      let p = put_at (n - u) h (omega (arith, w.within)) (omega arith) v g in
      rw (length-take-le n s r) (rw j at p)
