-- The pair that Translate answers: its prefixes have at most 64 bytes, and applying it is TranslateKey, answer and bytes.
use Rattle.std.specs.Prelude.{Ok, Err}
use mathlib.Core.Path.{◌≡◌, refl, sym, ap, ◌∙◌}
use mathlib.Core.Bool.{true, false}
use mathlib.Core.List.{List}
use mathlib.Core.Option.{none}
use Prim.Native.Nat.{ℕ, ◌≤◌}
use borrow.Author.Tests.{leb-true, le-leb}
use lib.ListN.{length}
use Rattle.model.specs.declared.Refusal.{Refusal}
use Rattle.model.specs.keys.Key.{Key, Bytes, max_len, IsPrefix}
use Rattle.model.specs.records.Record.{Edge, edge, no_edge, elements, edges}
use Rattle.model.specs.tables.Tables.{pivot_at, edge_at, short_element, short_edge, Route, CutoffForRight}
use Rattle.model.specs.translation.PrefixSet.{Begins, ApplyPrefixSet, long_pair}
use Rattle.model.specs.translation.PairState.{state_of, pair_of}
use Rattle.model.specs.translation.Translation.{edge_pair, Translate, TranslateKey}
use Rattle.model.specs.calls.Refusals.{outcome, first, over}
use Rattle.model.specs.calls.KeyCalls.{size_causes}
use Rattle.model.specs.calls.PairCalls.{there_number, apply_causes, apply_answer, apply_leaves}
use Rattle.model.specs.calls.TranslationCalls.{translate_causes, translate_answer, translate_pair, translate_key_causes, translate_key_answer, translate_key_leaves}
use Rattle.model.proofs.tables.SlotPrefix.{range_prefix_short}
use Rattle.model.proofs.calls.Refusals.{passed, after}
use Rattle.model.proofs.calls.TableCalls.{not_too_long}
use Rattle.model.proofs.calls.CutCalls.{cut_key, cut_left_key, cut_left_short, cut_old_edge, cut_edge_short, cut_begins}
use Rattle.model.proofs.calls.PairCalls.{only_state_sizes}
use Rattle.model.proofs.translation.PairState.{state_pair}

-- what the pair of an edge is by the prefix and the edge
pair_begins : (p : Key) (e : Edge) (k : Key) → IsPrefix p k ≡ true → Begins (edge_pair p e) k ≡ true
unfolding edge_pair Begins
pair_begins p (edge q) k h = h
pair_begins p no_edge k h = refl

pair_short : (p : Key) (e : Edge) → length p ≤ max_len → short_edge e ≡ true → long_pair (edge_pair p e) ≡ false
unfolding edge_pair long_pair
pair_short p (edge q) h j = rw (not_too_long p h) (not_too_long q (leb-true (length q) max_len j))
pair_short p no_edge h j = refl

module _ (p e : List ℕ) (k : Key) (h : first (translate_causes p e k) ≡ none) where
  -- the left pivot of the key's slot has at most 64 bytes
  left_short : short_element (pivot_at (elements p) (Route (elements p) k)) ≡ true
  unfolding CutoffForRight
  left_short = rw (cut_left_key false p e k h) (le-leb _ max_len (cut_left_short false p e k h))

  -- both prefixes of the pair have at most 64 bytes
  pub translate_short : long_pair (Translate (elements p) (edges e) k) ≡ false
  unfolding Translate CutoffForRight
  translate_short = pair_short _ _ (range_prefix_short _ _ left_short) (rw (cut_old_edge false p e k h) (cut_edge_short false p e k h))

  -- its old prefix begins the key
  pub translated_begins : Bytes k → Begins (Translate (elements p) (edges e) k) k ≡ true
  unfolding Translate CutoffForRight
  translated_begins b = pair_begins _ _ k (cut_begins false p e k h refl b)

  -- it is the pair beside the answer
  translate_is : translate_pair p e k ≡ state_of (Translate (elements p) (edges e) k)
  translate_is = sym (passed (λ (_ : Refusal). state_of none) _ _ (translate_causes p e k) h refl)

  -- without an edge it is absent
  pub translate_absent : edge_at (edges e) (Route (elements p) k) ≡ no_edge → translate_answer p e k ≡ Ok 0
  unfolding Translate edge_pair there_number
  translate_absent f = sym (passed Err _ (Ok 0) (translate_causes p e k) h (rw f))

  -- with one it is there
  pub translate_there : (q : Key) → edge_at (edges e) (Route (elements p) k) ≡ edge q → translate_answer p e k ≡ Ok 1
  unfolding Translate edge_pair there_number
  translate_there q f = sym (passed Err _ (Ok 1) (translate_causes p e k) h (rw f))

  module _ (b : Bytes k) (d : List ℕ) where
    translated : ApplyPrefixSet (pair_of (translate_pair p e k)) k ≡ TranslateKey (elements p) (edges e) k
    unfolding TranslateKey
    translated = rw (translate_is, state_pair (Translate (elements p) (edges e) k))

    alike : {A : Type 0} (f : Refusal → A) (v : A) → outcome f (apply_causes (translate_pair p e k) k d) v ≡ outcome f (translate_key_causes p e k d) v
    unfolding TranslateKey
    alike f v =
        rw translate_is (only_state_sizes f v (Translate (elements p) (edges e) k) k d translate_short (cut_key false p e k h) (translated_begins b))
        ∙ after f v _ (translate_causes p e k) (size_causes (TranslateKey (elements p) (edges e) k) d) h refl

    -- applying it answers what TranslateKey answers
    pub translate_apply_answer : apply_answer (translate_pair p e k) k d ≡ translate_key_answer p e k d
    translate_apply_answer = alike Err (Ok _) ∙ ap (λ (x : Key). outcome Err (translate_key_causes p e k d) (Ok (length x))) translated

    -- applying the pair of the key's slot leaves what TranslateKey leaves
    pub translate_apply_leaves : apply_leaves (translate_pair p e k) k d ≡ translate_key_leaves p e k d
    translate_apply_leaves = alike (λ (_ : Refusal). d) (over _ d) ∙ ap (λ (x : Key). outcome (λ (_ : Refusal). d) (translate_key_causes p e k d) (over x d)) translated
