-- What the tests of the code say of the causes, and of arguments that have none of 1, 2 and 7.
use mathlib.Core.Path.{◌≡◌, refl, sym, ◌∙◌}
use mathlib.Core.Bool.{Bool, true, false, not, ◌||◌, true≢false}
use mathlib.Core.List.{List}
use Prim.Native.Nat.{ℕ, ◌≤◌, ◌<◌}
use borrow.Author.Tests.{lt-ltb, le-ltb, ltb-false, not-false}
use lib.Dec.{ltb}
use lib.ListN.{length}
use Rattle.model.specs.keys.Key.{max_len, too_long, IsPrefix}
use Rattle.model.specs.keys.Order.{key, lt, passes}
use Rattle.model.specs.records.Record.{reading, element_reading, element}
use Rattle.model.specs.calls.KeyCalls.{not_element}
use Rattle.pivot_pair.specs.Range.{Prefixed}

-- what a call answers of a cause, its test says
pub known : (t b v : Bool) → t ≡ b → t ≡ v → b ≡ v
known t b v e h = sym e ∙ h

-- a disjunction that fails, fails on both sides
fails : (a b : Bool) → (a || b) ≡ false → (a ≡ false) × (b ≡ false)
fails true b h = absurd (true≢false h)
fails false b h = (refl, h)

module _ (l r p q : List ℕ) where
  -- cause 2: of the left bound, the right one, and the two prefixes
  abbrev wrong : Bool
  wrong = too_long l || not_element r || too_long p || too_long q

  -- the left bound has it
  pub left_wrong : max_len < length l → true ≡ wrong
  left_wrong h = rw (lt-ltb max_len (length l) h)

  module _ (t : Bool) (e : t ≡ element_reading (reading r)) (h : length l ≤ max_len) where
    -- the right one has it
    pub right_wrong : not t ≡ true → true ≡ wrong
    right_wrong f = rw (le-ltb max_len (length l) h, ← e, f)

    -- the prefix has it
    pub prefix_wrong : not t ≡ false → max_len < length p → true ≡ wrong
    prefix_wrong f g = rw (le-ltb max_len (length l) h, ← e, f, lt-ltb max_len (length p) g)

    -- only the new prefix may have it
    pub new_decides : not t ≡ false → length p ≤ max_len → ltb 64 (length q) ≡ wrong
    new_decides f g = rw (le-ltb max_len (length l) h, ← e, f, le-ltb max_len (length p) g)

  -- without the causes 2 and 7 the keys are short, and the left one begins with the prefix
  pub prefixed : (t b : Bool) → t ≡ wrong → t ≡ false → b ≡ IsPrefix p l → not b ≡ false → Prefixed l r p q
  prefixed t b e h f g =
      let a = fails (too_long l || not_element r || too_long p) (too_long q) (sym e ∙ h) in
      let o = fails (too_long l || not_element r) (too_long p) a.0 in
      let w = fails (too_long l) (not_element r) o.0 in
      record {
        left = ltb-false max_len (length l) w.0;
        right = not-false (element_reading (reading r)) w.1;
        new = ltb-false max_len (length q) a.1;
        begins = sym f ∙ not-false b g;
      }

-- cause 9: the right bound is not above the left one
pub above : (l r : List ℕ) (t v : Bool) → t ≡ passes false (key l) (element r) → t ≡ v → not (lt (key l) (element r)) ≡ v
above l r true v e h = rw (← e) h
above l r false v e h = rw (← e) h
