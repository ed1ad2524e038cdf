-- When a call refuses: which cause applies, and which stand before it.
use mathlib.Core.Path.{◌≡◌, refl, sym, ap, ◌∙◌}
use mathlib.Core.Bool.{Bool, true, false, not, ◌&&◌, ◌||◌, true≢false}
use mathlib.Core.List.{List, [], ◌∷◌, ◌++◌}
use mathlib.Core.Option.{Option, none, some}
use Prim.Native.Nat.{ℕ, ◌/◌, ◌%◌, ◌<◌}
use native.Mathlib.Omega.{arith}
use borrow.Author.Tests.{leb-true, leb-false, lt-ltb}
use lib.Dec.{eqb, leb}
use lib.ListN.{length, take, drop, take-append-drop}
use Rattle.model.specs.declared.Refusal.{Refusal}
use Rattle.model.specs.keys.Key.{Key, max_len, too_long}
use Rattle.model.specs.keys.Order.{key}
use Rattle.model.specs.records.Record.{record_size, records, elements}
use Rattle.model.specs.tables.Tables.{min_pivots, max_pivots, WFPivots}
use Rattle.model.specs.calls.Refusals.{Cause, ◌⇒◌, number, outcome, first}
use Rattle.model.specs.calls.TableCalls.{not_pivot_count, not_edge_count, edges_read, pivot_causes, table_causes}
use Rattle.model.proofs.keys.Key.{both}
use Rattle.model.proofs.keys.Order.{refuted}
use Rattle.model.proofs.calls.Refusals.{refused_by, refused_first, not_fails}
use Rattle.model.proofs.calls.TableCalls.{length_elements, causes_wf}
use Rattle.contracts.specs.Refuses.{RefusesAt, Refuses}
use Rattle.contracts.specs.BoundedPivots.{ElementIsKey}

-- ---- one cause

-- a cause that applies ends the list
ends : {A : Type 0} (f : Refusal → A) (v : A) (cs : List Cause) (b : Bool) (r : Refusal) (ds : List Cause) → b ≡ true
    → outcome f (cs ++ (b ⇒ r) ∷ ds) v ≡ outcome f cs (f r)
unfolding outcome
ends f v [] b r ds h = rw h
ends f v ((true ⇒ s) ∷ cs) b r ds h = refl
ends f v ((false ⇒ s) ∷ cs) b r ds h = ends f v cs b r ds h

-- a call with a cause that applies answers it, or one before it
pub refuses_at : {A : Type 0} (f : Refusal → A) (v : A) (cs : List Cause) (n : ℕ) (b : Bool) (r : Refusal) (ds : List Cause) → drop n cs ≡ (b ⇒ r) ∷ ds → b ≡ true
    → RefusesAt f cs n r (outcome f cs v)
refuses_at f v cs n b r ds e h =
    ap (λ (xs : List Cause). outcome f xs v) (sym (take-append-drop n cs) ∙ ap (◌++◌ (take n cs)) e) ∙ ends f v (take n cs) b r ds h

-- also where the cause is known to apply only if none before it does
pub refuses_unless : {A : Type 0} (f : Refusal → A) (v : A) (cs : List Cause) (n : ℕ) (b : Bool) (r : Refusal) (ds : List Cause) → drop n cs ≡ (b ⇒ r) ∷ ds
    → (first (take n cs) ≡ none → b ≡ true) → RefusesAt f cs n r (outcome f cs v)
refuses_unless f v cs n b r ds e h = go (first (take n cs)) refl
  where
    go : (o : Option Refusal) → first (take n cs) ≡ o → RefusesAt f cs n r (outcome f cs v)
    go none g = refuses_at f v cs n b r ds e (h g)
    go (some s) g =
        ap (λ (xs : List Cause). outcome f xs v) (sym (take-append-drop n cs))
        ∙ sym (refused_first f v (f s) (take n cs) (drop n cs) s g refl) ∙ refused_by f (f r) (f s) (take n cs) s g refl

-- `ElementIsKey(e)`, of a key: it has more than 64 bytes
pub not_key_long : (k : Key) → ElementIsKey (key k) ≡ false → too_long k ≡ true
not_key_long k h = lt-ltb max_len (length k) (leb-false (length k) max_len h)

-- `|pt| < 0x4000_0000_0000_0000`: the limit is 64
pub too_many : (p : List ℕ) → max_pivots < length (elements p) → not_pivot_count p ≡ true
unfolding not_pivot_count
too_many p h =
    let n = length p / record_size in
    let t = eqb (length p % record_size) 0 && leb min_pivots n in
    not_fails (t && leb n max_pivots) (refuted (t && leb n max_pivots) (λ b. omega (arith, length_elements p, leb-true n max_pivots (both t (leb n max_pivots) b).1)))

-- ---- several causes

-- their numbers are at most n
abbrev pub numbers_up_to : ℕ → List Cause → Bool
numbers_up_to n [] = true
numbers_up_to n ((b ⇒ r) ∷ cs) = leb (number r) n && numbers_up_to n cs

-- one of them applies, and the first that does has a number of at most n
abbrev pub Refused : ℕ → List Cause → Type 0
Refused n cs = Refuses some n (first cs)

-- where a clause fails that holds if none applies, one does
pub clause_refused : (n : ℕ) (cs : List Cause) (t : Bool) → numbers_up_to n cs ≡ true → (first cs ≡ none → t ≡ true) → t ≡ false → Refused n cs
unfolding outcome
clause_refused n [] t w c h = absurd (true≢false (sym (c refl) ∙ h))
clause_refused n ((true ⇒ r) ∷ cs) t w c h = record { refusal = r; answered = refl; up_to = leb-true (number r) n (both (leb (number r) n) (numbers_up_to n cs) w).0 }
clause_refused n ((false ⇒ r) ∷ cs) t w c h = clause_refused n cs t (both (leb (number r) n) (numbers_up_to n cs) w).1 c h

-- also where others follow
pub more_refused : (n : ℕ) (cs ds : List Cause) → Refused n cs → Refused n (cs ++ ds)
more_refused n cs ds w =
    record { refusal = w.refusal; answered = sym (refused_first some none (some w.refusal) cs ds w.refusal w.answered refl); up_to = w.up_to }

-- a call with these causes answers that refusal
pub call_refuses : {A : Type 0} (f : Refusal → A) (v : A) (n : ℕ) (cs : List Cause) → Refused n cs → Refuses f n (outcome f cs v)
call_refuses f v n cs w =
    record { refusal = w.refusal; answered = sym (refused_by f v (f w.refusal) cs w.refusal w.answered refl); up_to = w.up_to }

-- `WFPivots(pt)`
pub pivots_refused : (shape wrong : Bool) (p : List ℕ) → WFPivots (elements p) ≡ false → Refused 3 (pivot_causes shape wrong p)
unfolding pivot_causes
pivots_refused shape wrong p = clause_refused 3 (pivot_causes shape wrong p) (WFPivots (elements p)) refl (causes_wf shape wrong p)

-- `WFPivots(pt)`, where edges are lent too
pub table_pivots_refused : (shape wrong : Bool) (p e : List ℕ) → WFPivots (elements p) ≡ false → Refused 3 (table_causes shape wrong p e)
unfolding table_causes
table_pivots_refused shape wrong p e h = more_refused 3 (pivot_causes (shape || not_edge_count p e) (wrong || not (edges_read (records e))) p) _ (pivots_refused _ _ p h)
