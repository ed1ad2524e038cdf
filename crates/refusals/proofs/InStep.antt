-- The causes of two arguments, each listed by its numbers, in one list by their numbers: its answer is the earlier of the two answers.
use Rattle.std.specs.Prelude.{Result, Ok, Err}
use mathlib.Core.Path.{◌≡◌, refl, sym, ◌∙◌}
use mathlib.Core.Bool.{Bool, true, false, cond, ◌&&◌, ◌||◌}
use mathlib.Core.List.{List, [], ◌∷◌}
use Prim.Native.Nat.{ℕ, suc, ◌≤◌, ◌<◌}
use native.Mathlib.Omega.{arith}
use borrow.Author.Tests.{lt-ltb, le-ltb, leb-true, eqb-true}
use lib.Dec.{eqb, leb}
use Rattle.model.specs.declared.Refusal.{Refusal}
use Rattle.model.specs.calls.Refusals.{number, Cause, ◌⇒◌, outcome, paired, answer}
use Rattle.model.proofs.keys.Key.{both}
use Rattle.refusals.specs.Earlier.{earlier}

-- ---- what the code compares

module _ (a b : Result ℕ Refusal) where
  -- the second is no refusal: the first is answered
  pub none_second : (n : ℕ) → b ≡ Ok n → a ≡ earlier a b
  unfolding earlier
  none_second n e = rw e (go a)
    where
      go : (x : Result ℕ Refusal) → x ≡ earlier x (Ok n)
      go (Ok m) = refl
      go (Err r) = refl

  -- the first alone is none: the second
  pub none_first : (m : ℕ) (s : Refusal) → a ≡ Ok m → b ≡ Err s → Err s ≡ earlier a b
  unfolding earlier
  none_first m s e f = rw (e, f)

  module _ (r s : Refusal) (e : a ≡ Err r) (f : b ≡ Err s) (m n : ℕ) (g : m ≡ number s) (h : n ≡ number r) where
    -- of two refusals the second where its number is smaller
    pub second_less : m < n → Err s ≡ earlier a b
    unfolding earlier
    second_less i = rw (e, f, lt-ltb (number s) (number r) (omega arith))

    -- else the first
    pub first_least : n ≤ m → Err r ≡ earlier a b
    unfolding earlier
    first_least i = rw (e, f, le-ltb (number s) (number r) (omega arith))

-- ---- causes in step

-- the numbers are at least n
unfoldable pub rising : ℕ → List Cause → Bool
rising n [] = true
rising n ((b ⇒ r) ∷ cs) = leb n (number r) && rising n cs

-- place by place the two lists have the same number, and what follows it in the first list has greater ones, in the second none smaller
unfoldable pub in_step : List Cause → List Cause → Bool
in_step [] ds = true
in_step (c ∷ cs) [] = true
in_step ((a ⇒ r) ∷ cs) ((b ⇒ s) ∷ ds) = eqb (number r) (number s) && rising (suc (number r)) cs && rising (number r) ds && in_step cs ds

-- a refusal whose number is not above those of a list comes before the list's
first_before : (r : Refusal) (ds : List Cause) (n : ℕ) → rising (number r) ds ≡ true → earlier (Err r) (answer ds n) ≡ Err r
unfolding earlier outcome rising
first_before r [] n h = refl
first_before r ((true ⇒ s) ∷ ds) n h = rw (le-ltb (number s) (number r) (leb-true (number r) (number s) (both (leb (number r) (number s)) (rising (number r) ds) h).0))
first_before r ((false ⇒ s) ∷ ds) n h = first_before r ds n (both (leb (number r) (number s)) (rising (number r) ds) h).1

-- a refusal whose number is below those of a list comes before the list's, also where the list is the first of the two
second_before : (s : Refusal) (cs : List Cause) (m : ℕ) → rising (suc (number s)) cs ≡ true → earlier (answer cs m) (Err s) ≡ Err s
unfolding earlier outcome rising
second_before s [] m h = refl
second_before s ((true ⇒ r) ∷ cs) m h =
    let l = leb-true (suc (number s)) (number r) (both (leb (suc (number s)) (number r)) (rising (suc (number s)) cs) h).0 in
    rw (lt-ltb (number s) (number r) (omega arith))
second_before s ((false ⇒ r) ∷ cs) m h = second_before s cs m (both (leb (suc (number s)) (number r)) (rising (suc (number s)) cs) h).1

-- the value is the first one's
value_first : (m n : ℕ) (ds : List Cause) → earlier (Ok m) (answer ds n) ≡ answer ds m
unfolding earlier outcome
value_first m n [] = refl
value_first m n ((true ⇒ r) ∷ ds) = refl
value_first m n ((false ⇒ r) ∷ ds) = value_first m n ds

-- the answer of both lists is the earlier of the two answers
paired_earlier : (cs ds : List Cause) (m n : ℕ) → in_step cs ds ≡ true → earlier (answer cs m) (answer ds n) ≡ answer (paired cs ds) m
unfolding earlier outcome in_step paired
paired_earlier [] ds m n h = value_first m n ds
paired_earlier (c ∷ cs) [] m n h = sym (none_second (answer (c ∷ cs) m) (Ok n) n refl)
paired_earlier ((a ⇒ r) ∷ cs) ((b ⇒ s) ∷ ds) m n h = go a b (paired_earlier cs ds m n w.1)
  where
    w : ((eqb (number r) (number s) && rising (suc (number r)) cs && rising (number r) ds) ≡ true) × (in_step cs ds ≡ true)
    w = both (eqb (number r) (number s) && rising (suc (number r)) cs && rising (number r) ds) (in_step cs ds) h

    v : ((eqb (number r) (number s) && rising (suc (number r)) cs) ≡ true) × (rising (number r) ds ≡ true)
    v = both (eqb (number r) (number s) && rising (suc (number r)) cs) (rising (number r) ds) w.0

    u : (eqb (number r) (number s) ≡ true) × (rising (suc (number r)) cs ≡ true)
    u = both (eqb (number r) (number s)) (rising (suc (number r)) cs) v.0

    same : number r ≡ number s
    same = eqb-true (number r) (number s) u.0

    go : (a b : Bool) → earlier (answer cs m) (answer ds n) ≡ answer (paired cs ds) m
        → earlier (cond a (Err r) (answer cs m)) (cond b (Err s) (answer ds n)) ≡ cond a (Err r) (cond b (Err s) (answer (paired cs ds) m))
    go true true e = let q = same in rw (le-ltb (number s) (number r) (omega arith))
    go true false e = first_before r ds n v.1
    go false true e = second_before s cs m (rw (← same) u.1)
    go false false e = e

-- as a call that answers it tells
pub told_earlier : (cs ds : List Cause) (m n : ℕ) (x a b : Result ℕ Refusal) → in_step cs ds ≡ true → a ≡ answer cs m → b ≡ answer ds n → x ≡ earlier a b
    → x ≡ answer (paired cs ds) m
told_earlier cs ds m n x a b h f g e = e ∙ rw (f, g) (paired_earlier cs ds m n h)

-- a cause of one argument or of a third, and beside it the same of a second, is that of any of them
pub either_of : {A : Type 0} (f : Refusal → A) (v : A) (x y z : Bool) (r : Refusal) (cs ds : List Cause) → outcome f cs v ≡ outcome f ds v
    → outcome f ((x || z ⇒ r) ∷ (y ⇒ r) ∷ cs) v ≡ outcome f ((x || y || z ⇒ r) ∷ ds) v
unfolding outcome
either_of f v true y z r cs ds e = refl
either_of f v false true true r cs ds e = refl
either_of f v false true false r cs ds e = refl
either_of f v false false true r cs ds e = refl
either_of f v false false false r cs ds e = e
