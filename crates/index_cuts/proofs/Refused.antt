-- The slot of a cut, and where there is none.
use Rattle.std.specs.Prelude.{Result, Ok, Err}
use mathlib.Core.Path.{◌≡◌, refl, sym, ap, ◌∙◌}
use mathlib.Core.Bool.{Bool, true, false, not, true≢false}
use mathlib.Core.List.{List, []}
use mathlib.Core.Option.{Option, none, some}
use Prim.Native.Nat.{ℕ}
use native.Mathlib.Omega.{arith}
use borrow.Author.Tests.{not-false}
use Rattle.model.specs.declared.Refusal.{Refusal}
use Rattle.model.specs.declared.Refusal.TheVariants.{OutOfRange}
use Rattle.model.specs.keys.Key.{too_long}
use Rattle.model.specs.records.Record.{elements}
use Rattle.model.specs.cuts.Sides.{inside, cutoff}
use Rattle.model.specs.calls.Refusals.{outcome, paired, first, answer}
use Rattle.model.specs.calls.TableCalls.{pivot_causes, key_causes, slot_causes, cutoff_for_left_answer, cutoff_for_right_answer}
use Rattle.model.specs.calls.BucketCalls.{bucket_causes}
use Rattle.model.specs.calls.IndexCalls.{entries_causes, given_causes, cut_index_causes}
use Rattle.model.proofs.keys.Order.{refuted}
use Rattle.model.proofs.calls.Refusals.{after, passed, refused_by, refused_first, none_here, none_after, paired_none, accepted}
use Rattle.model.proofs.calls.IndexCauses.{entries_pivots, entries_outside, given_entries}

-- the slot by the side
module _ (left : Bool) (p k : List ℕ) (s : Result ℕ Refusal) where
  pub slot_left : left ≡ true → s ≡ cutoff_for_left_answer p k → s ≡ answer (slot_causes p k (inside left (elements p) k)) (cutoff left (elements p) k)
  slot_left h e = rw h e

  pub slot_right : left ≡ false → s ≡ cutoff_for_right_answer p k → s ≡ answer (slot_causes p k (inside left (elements p) k)) (cutoff left (elements p) k)
  slot_right h e = rw h e

-- a cause of the pivots or of the bucket comes before the others
early : (wrong outside : Bool) (p l x : List ℕ) (r : Refusal) → first (paired (pivot_causes false wrong p) (bucket_causes false l)) ≡ some r → first (given_causes wrong outside p l x) ≡ some r
unfolding given_causes entries_causes
early wrong outside p l x r h =
    sym (refused_first some none (some r) (entries_causes wrong outside p l) _ r (sym (refused_first some none (some r) (paired (pivot_causes false wrong p) (bucket_causes false l)) _ r h refl)) refl)

module _ (left : Bool) (p k : List ℕ) (s : Result ℕ Refusal) (e : s ≡ answer (slot_causes p k (inside left (elements p) k)) (cutoff left (elements p) k)) where
  -- a key that has one is inside
  pub slot_inside : (c : ℕ) → s ≡ Ok c → inside left (elements p) k ≡ true
  slot_inside c h =
      not-false _ (none_here _ OutOfRange [] (none_after (key_causes p k) _ (accepted _ _ s e c h)))

  -- where there is none, pivots and key have a cause or the key is outside
  module _ (r : Refusal) (h : s ≡ Err r) where
    slot_fails : first (slot_causes p k (inside left (elements p) k)) ≡ none → ⊥
    slot_fails g =
        let m = cutoff left (elements p) k in
        let t = passed Err (Ok m) (Ok m) _ g refl in
        let z : ◌≡◌ {A = ℕ} 0 1 = cc in absurd (omega arith)

    outside : first (key_causes p k) ≡ none → inside left (elements p) k ≡ false
    outside g = refuted (inside left (elements p) k) (λ i. slot_fails (sym (after some none none (key_causes p k) _ g (unfold outcome in (rw i)))))

    module _ (l x : List ℕ) where
      -- so the check of all refuses
      given_fails : first (given_causes (too_long k) (not (inside left (elements p) k)) p l x) ≡ none → ⊥
      given_fails g =
          let t = given_entries _ _ p l x g in
          true≢false (sym (ap not (outside (entries_pivots _ _ p l t))) ∙ entries_outside _ _ p l t)

      -- and with the same cause where it is told that the key is outside: is it inside, then a cause of pivots or key comes before 5
      same_first : first (given_causes (too_long k) true p l x) ≡ first (given_causes (too_long k) (not (inside left (elements p) k)) p l x)
      same_first = go (first (paired (key_causes p k) (bucket_causes false l))) refl
        where
          go : (o : Option Refusal) → first (paired (key_causes p k) (bucket_causes false l)) ≡ o
              → first (given_causes (too_long k) true p l x) ≡ first (given_causes (too_long k) (not (inside left (elements p) k)) p l x)
          go none g = rw (outside (paired_none (key_causes p k) (bucket_causes false l) g).0)
          go (some q) g = early _ _ p l x q g ∙ sym (early _ _ p l x q g)

      module _ (db dx : List ℕ) where
        pub no_slot_answer : (a : Result ℕ Refusal) (m n : ℕ) → a ≡ answer (given_causes (too_long k) true p l x) m → a ≡ answer (cut_index_causes left p l x k db dx) n
        no_slot_answer a m n q = go (first (given_causes (too_long k) (not (inside left (elements p) k)) p l x)) refl
          where
            go : (o : Option Refusal) → first (given_causes (too_long k) (not (inside left (elements p) k)) p l x) ≡ o → a ≡ answer (cut_index_causes left p l x k db dx) n
            go none g = absurd (given_fails g)
            go (some t) g =
                refused_first Err _ a _ _ t g (q ∙ sym (refused_by Err _ (Err t) _ t (same_first ∙ g) refl))

        pub no_slot_kept : (d v : List ℕ) → d ≡ outcome (λ (_ : Refusal). d) (cut_index_causes left p l x k db dx) v
        no_slot_kept d v = go (first (given_causes (too_long k) (not (inside left (elements p) k)) p l x)) refl
          where
            go : (o : Option Refusal) → first (given_causes (too_long k) (not (inside left (elements p) k)) p l x) ≡ o → d ≡ outcome (λ (_ : Refusal). d) (cut_index_causes left p l x k db dx) v
            go none g = absurd (given_fails g)
            go (some t) g = refused_first (λ (_ : Refusal). d) v d _ _ t g refl
