-- A walk of a tag through tables, one after the other: how it starts, and what a step makes of it.
use Rattle.std.specs.Prelude.{Bool, ◌&&◌, ◌||◌, List, ℕ, ◌+◌, ltb, length, take}
use Rattle.std.proofs.Math.Option.{Option, none}
use Rattle.model.specs.keys.Key.{Key, max_len}
use Rattle.model.specs.keys.Order.{key, same}
use Rattle.model.specs.records.Record.{padded}
use Rattle.model.specs.tables.Tables.{PivotTable, EdgeTable}
use Rattle.model.specs.translation.PrefixSet.{PrefixSet, RevPrefixSet, Begins, ApplyPrefixSet, ComposePrefixSet}
use Rattle.model.specs.translation.PairState.{PairState, not_pair, pair_of, state_of}
use Rattle.model.specs.translation.Translation.{Translate, TranslateKey}

-- "A walk holds the tag, the current key, the composed prefix pair and the count of its steps"
pub record Walk : Type 0 where
  pub tag : Key
  pub current : Key
  pub composed : Option PrefixSet
  pub count : ℕ

-- 16 is "a step of a walk whose count is eight or more"
abbrev pub max_steps : ℕ
max_steps = 8

-- "It starts from a tag as its own current key, with an absent pair and count 0"
unfoldable pub StartWalk : Key → Walk
StartWalk t = record { tag = t; current = t; composed = none; count = 0 }

-- 7 is "a walk handed in whose pair doesn't take its tag to its current key"; this is the other case
unfoldable pub takes_tag : Walk → Bool
takes_tag w = Begins w.composed w.tag && same (key (ApplyPrefixSet w.composed w.tag)) (key w.current)

-- "Each step takes one table and its edges, translates the current key and goes on"; "The new pair is the slot's .. composed with the walk's pair reversed"
unfoldable pub StepWalk : PivotTable → EdgeTable → Walk → Walk
StepWalk pt et w =
    record {
      tag = w.tag;
      current = TranslateKey pt et w.current;
      composed = ComposePrefixSet (Translate pt et w.current) (RevPrefixSet w.composed);
      count = w.count + 1;
    }

-- ---- by value: "lengths and bytes in it are read and answered as a pair's are"

-- tag and current key have a length and 64 bytes each
pub record WalkState : Type 0 where
  pub tag_length : ℕ
  pub tag_bytes : List ℕ
  pub key_length : ℕ
  pub current_bytes : List ℕ
  pub pair_state : PairState
  pub count : ℕ

-- a length over 64 in it is 2
unfoldable pub wrong_walk : WalkState → Bool
wrong_walk s = ltb max_len s.tag_length || ltb max_len s.key_length || not_pair s.pair_state

-- what an argument's state stands for: bytes past a length are not looked at
unfoldable pub walk_of : WalkState → Walk
walk_of s =
    record {
      tag = take s.tag_length s.tag_bytes;
      current = take s.key_length s.current_bytes;
      composed = pair_of s.pair_state;
      count = s.count;
    }

-- the one state that a result has: bytes past lengths are zero
unfoldable pub walk_state : Walk → WalkState
walk_state w =
    record {
      tag_length = length w.tag;
      tag_bytes = padded w.tag;
      key_length = length w.current;
      current_bytes = padded w.current;
      pair_state = state_of w.composed;
      count = w.count;
    }
