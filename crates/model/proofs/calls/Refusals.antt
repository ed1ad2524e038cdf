-- How a call's outcome is found in its ordered list of causes: a cause that applies ends the list, one that does not is passed.
use mathlib.Core.Path.{◌≡◌, refl, sym, ap, ◌∙◌}
use mathlib.Core.Bool.{Bool, true, false, cond, not, ◌&&◌, ◌||◌, or-true, true≢false}
use mathlib.Core.List.{List, [], ◌∷◌, ◌++◌, append-nil}
use mathlib.Core.Option.{Option, none, some, some-injective}
use Prim.Native.Nat.{ℕ}
use native.Mathlib.Omega.{arith}
use lib.Dec.{eqb}
use borrow.Author.Tests.{lt-ltb, le-ltb, eq-eqb, ne_eqb}
use Rattle.model.specs.declared.Refusal.{Refusal}
use Rattle.std.specs.Prelude.{Result, Ok, Err, IsErr, IsErrAnd}
use Rattle.std.specs.Result.{result_from_control_flow}
use Rattle.std.specs.declared.ops.ControlFlow.TheVariants.{Continue, Break}
use Rattle.model.specs.calls.Refusals.{number, Cause, ◌⇒◌, outcome, paired, first, answer}
use Rattle.model.proofs.keys.Key.{both}

module _ {A : Type 0} (f : Refusal → A) (v x : A) where
  -- a cause that applies makes the outcome
  pub here : (b : Bool) (r : Refusal) (cs : List Cause) → b ≡ true → x ≡ f r → x ≡ outcome f ((b ⇒ r) ∷ cs) v
  unfolding outcome
  here b r cs h e = rw h e

  -- one that does not apply is passed
  pub later : (b : Bool) (r : Refusal) (cs : List Cause) → b ≡ false → x ≡ outcome f cs v → x ≡ outcome f ((b ⇒ r) ∷ cs) v
  unfolding outcome
  later b r cs h e = rw h e

  -- with no cause left it is the value
  pub done : x ≡ v → x ≡ outcome f [] v
  unfolding outcome
  done e = e

-- with no cause left an answer is that value
pub value_done : {A : Type 0} (f : Refusal → Result A Refusal) (m n : A) → m ≡ n → Ok m ≡ outcome f [] (Ok n)
value_done f m n e = done f _ _ (ap Ok e)

-- what the first cause that applies makes of w
abbrev by_first : {A : Type 0} → (Refusal → A) → Option Refusal → A → A
by_first f none w = w
by_first f (some r) w = f r

-- the causes of a list come before those that follow it
in_turn_lem : {A : Type 0} (f : Refusal → A) (v : A) (cs ds : List Cause) → outcome f (cs ++ ds) v ≡ by_first f (first cs) (outcome f ds v)
unfolding outcome
in_turn_lem f v [] ds = refl
in_turn_lem f v ((b ⇒ r) ∷ cs) ds = go b (in_turn_lem f v cs ds)
  where
    go : (b : Bool) → outcome f (cs ++ ds) v ≡ by_first f (first cs) (outcome f ds v)
        → cond b (f r) (outcome f (cs ++ ds) v) ≡ by_first f (cond b (some r) (first cs)) (outcome f ds v)
    go true e = refl
    go false e = e

whole : {A : Type 0} (f : Refusal → A) (v : A) (cs : List Cause) → outcome f cs v ≡ by_first f (first cs) v
unfolding outcome
whole f v cs = rw append-nil at (in_turn_lem f v cs [])

module _ {A : Type 0} (f : Refusal → A) (v x : A) (cs : List Cause) where
  -- the first cause that applies makes the outcome
  pub refused_by : (r : Refusal) → first cs ≡ some r → x ≡ f r → x ≡ outcome f cs v
  refused_by r h e = rw (whole f v cs, h) e

  -- also where other causes follow
  pub refused_first : (ds : List Cause) (r : Refusal) → first cs ≡ some r → x ≡ f r → x ≡ outcome f (cs ++ ds) v
  refused_first ds r h e = rw (in_turn_lem f v cs ds, h) e

  -- causes none of which applies are passed together
  pub after : (ds : List Cause) → first cs ≡ none → x ≡ outcome f ds v → x ≡ outcome f (cs ++ ds) v
  after ds h e = rw (in_turn_lem f v cs ds, h) e

  -- a whole list none of whose causes applies leaves the value
  pub passed : first cs ≡ none → x ≡ v → x ≡ outcome f cs v
  passed h e = rw (whole f v cs, h) e

-- what follows two lists with the same first cause has the same outcome
pub followed : {A : Type 0} (f : Refusal → A) (v : A) (cs cs' ds : List Cause) → first cs ≡ first cs'
    → outcome f (cs ++ ds) v ≡ outcome f (cs' ++ ds) v
followed f v cs cs' ds h = rw (in_turn_lem f v cs ds, in_turn_lem f v cs' ds, h)

-- lists with the same outcome have it behind any list
pub following : {A : Type 0} (f : Refusal → A) (v : A) (cs ds ds' : List Cause) → outcome f ds v ≡ outcome f ds' v
    → outcome f (cs ++ ds) v ≡ outcome f (cs ++ ds') v
following f v cs ds ds' h = rw (in_turn_lem f v cs ds, in_turn_lem f v cs ds', h)

-- where the outcome is no refusal, no cause applies
pub unrefused : {A : Type 0} (f : Refusal → A) (v : A) (cs : List Cause) → ((r : Refusal) → outcome f cs v ≡ f r → ⊥) → first cs ≡ none
unrefused f v cs h = go (first cs) refl
  where
    go : (o : Option Refusal) → first cs ≡ o → o ≡ none
    go none e = refl
    go (some r) e = absurd (h r (sym (refused_by f v (f r) cs r e refl)))

-- where no cause applies, the first does not
pub none_here : (b : Bool) (r : Refusal) (cs : List Cause) → first ((b ⇒ r) ∷ cs) ≡ none → b ≡ false
unfolding outcome
none_here true r cs h = let z : ◌≡◌ {A = ℕ} 0 1 = cc in absurd (omega arith)
none_here false r cs h = refl

-- nor any after it
pub none_later : (b : Bool) (r : Refusal) (cs : List Cause) → first ((b ⇒ r) ∷ cs) ≡ none → first cs ≡ none
unfolding outcome
none_later true r cs h = let z : ◌≡◌ {A = ℕ} 0 1 = cc in absurd (omega arith)
none_later false r cs h = h

-- where none of two lists applies, none of either does
module _ (cs ds : List Cause) (h : first (cs ++ ds) ≡ none) where
  neither : (first cs ≡ none) × (first ds ≡ none)
  neither = go (first cs) refl
    where
      go : (o : Option Refusal) → first cs ≡ o → (first cs ≡ none) × (first ds ≡ none)
      go none e = (e, after some none (first ds) cs ds e refl ∙ h)
      go (some r) e =
          let p = refused_first some none (some r) cs ds r e refl in
          let z : ◌≡◌ {A = ℕ} 0 1 = cc in absurd (omega arith)

  pub none_before : first cs ≡ none
  none_before = neither.0

  pub none_after : first ds ≡ none
  none_after = neither.1

-- of two lists in one none applies where none of either does
pub none_paired : (cs ds : List Cause) → first cs ≡ none → first ds ≡ none → first (paired cs ds) ≡ none
unfolding outcome paired
none_paired [] ds g h = h
none_paired (c ∷ cs) [] g h = g
none_paired ((a ⇒ r) ∷ cs) ((b ⇒ s) ∷ ds) g h =
    rw (none_here a r cs g, none_here b s ds h) (none_paired cs ds (none_later a r cs g) (none_later b s ds h))

-- where none of two lists paired applies, none of either does
pub paired_none : (cs ds : List Cause) → first (paired cs ds) ≡ none → (first cs ≡ none) × (first ds ≡ none)
unfolding outcome paired
paired_none [] ds h = (refl, h)
paired_none (c ∷ cs) [] h = (h, refl)
paired_none ((a ⇒ r) ∷ cs) ((b ⇒ s) ∷ ds) h =
    let k = none_later a r ((b ⇒ s) ∷ paired cs ds) h in
    let w = paired_none cs ds (none_later b s (paired cs ds) k) in
    (rw (none_here a r ((b ⇒ s) ∷ paired cs ds) h) w.0, rw (none_here b s (paired cs ds) k) w.1)

-- r is none of the causes
abbrev pub lacks : Refusal → List Cause → Bool
lacks r [] = true
lacks r ((b ⇒ s) ∷ cs) = not (eqb (number s) (number r)) && lacks r cs

-- a first cause that a list lacks is the first of those that follow the list
pub lacking : (r : Refusal) (cs ds : List Cause) → lacks r cs ≡ true → first (cs ++ ds) ≡ some r → (first cs ≡ none) × (first ds ≡ some r)
unfolding outcome
lacking r [] ds l h = (refl, h)
lacking r ((b ⇒ s) ∷ cs) ds l h = go b h (lacking r cs ds (both (not (eqb (number s) (number r))) (lacks r cs) l).1)
  where
    go : (b : Bool) → cond b (some s) (first (cs ++ ds)) ≡ some r → (first (cs ++ ds) ≡ some r → (first cs ≡ none) × (first ds ≡ some r))
        → (cond b (some s) (first cs) ≡ none) × (first ds ≡ some r)
    go true e f =
        let n = eq-eqb (number s) (number r) (ap number (some-injective s r e)) in
        absurd (true≢false (sym (both (not (eqb (number s) (number r))) (lacks r cs) l).0 ∙ ap not n))
    go false e f = f e

-- ---- what an inner call's answer says of its causes

module _ {V : Type 0} (cs : List Cause) (n : V) (a : Result V Refusal) (e : a ≡ answer cs n) where
  -- a value says that no cause applies
  pub accepted : (m : V) → a ≡ Ok m → first cs ≡ none
  accepted m h = go (first cs) refl
    where
      go : (o : Option Refusal) → first cs ≡ o → first cs ≡ none
      go none f = f
      go (some r) f =
          let p = refused_by Err (Ok n) (Err r) cs r f refl in
          let z : ◌≡◌ {A = ℕ} 0 1 = cc in absurd (omega arith)

  -- a value that is answered is the value of the call
  pub value_is : (m : V) → a ≡ Ok m → m ≡ n
  value_is m h = let p = passed Err (Ok n) (Ok n) cs (accepted m h) refl in cc

  -- a refusal is the first cause that applies
  pub refused : (r : Refusal) → a ≡ Err r → first cs ≡ some r
  refused r h = go (first cs) refl
    where
      go : (o : Option Refusal) → first cs ≡ o → first cs ≡ some r
      go none f =
          let p = passed Err (Ok n) (Ok n) cs f refl in
          let z : ◌≡◌ {A = ℕ} 0 1 = cc in absurd (omega arith)
      go (some s) f =
          let p = refused_by Err (Ok n) (Err s) cs s f refl in
          f ∙ cc

  module _ {A : Type 0} (f : Refusal → A) (v x : A) where
    -- the refusal of an inner call is handed on
    pub handed_on : (r : Refusal) → a ≡ Err r → x ≡ f r → x ≡ outcome f cs v
    handed_on r h q = refused_by f v x cs r (refused r h) q

    -- also where the outer call has more causes
    pub handed_on-first : (ds : List Cause) (r : Refusal) → a ≡ Err r → x ≡ f r → x ≡ outcome f (cs ++ ds) v
    handed_on-first ds r h q = refused_first f v x cs ds r (refused r h) q

    -- an inner call that is accepted leaves the value
    pub call_passed : (m : V) → a ≡ Ok m → x ≡ v → x ≡ outcome f cs v
    call_passed m h q = passed f v x cs (accepted m h) q

    -- an inner call that is accepted leaves the causes that follow
    pub call_passed_first : (ds : List Cause) (m : V) → a ≡ Ok m → x ≡ outcome f ds v → x ≡ outcome f (cs ++ ds) v
    call_passed_first ds m h q = after f v x cs ds (accepted m h) q

-- ---- what a `?` says of the call before it

pub goes_on : {V : Type 0} (a : Result V Refusal) (b : _) (n : V) → a ≡ result_from_control_flow b → b ≡ Continue n → a ≡ Ok n
goes_on a b n e h = rw h at e

pub breaks_off : {V : Type 0} (a : Result V Refusal) (b : _) (k : _) → a ≡ result_from_control_flow b → b ≡ Break k → a ≡ Err k.0
breaks_off a b k e h = rw h at e

-- its exit answers the same refusal
pub exits : {A : Type 0} (x : Result A Refusal) (r : Refusal) → IsErr x × IsErrAnd x (λ (q : Refusal). q ≡ r) → x ≡ Err r
exits (Ok n) r h = absurd h.1
exits (Err q) r h = ap Err h.1

-- ---- whether a cause applies, by the tests of the code

pub or_left : (a b : Bool) → a ≡ true → (a || b) ≡ true
or_left a b h = rw h

pub or_right : (a b : Bool) → b ≡ true → (a || b) ≡ true
or_right a b h = rw h (or-true a)

pub or_neither : (a b : Bool) → a ≡ false → b ≡ false → (a || b) ≡ false
or_neither a b h k = rw (h, k)

pub not_holds : (b : Bool) → b ≡ true → not b ≡ false
not_holds b h = rw h

pub not_fails : (b : Bool) → b ≡ false → not b ≡ true
not_fails b h = rw h

-- `!f(..)` of the code, where the call answers t
pub not_call : (t b : Bool) → t ≡ b → not t ≡ true → not b ≡ true
not_call t b e h = rw e at h

pub not_call_false : (t b : Bool) → t ≡ b → not t ≡ false → not b ≡ false
not_call_false t b e h = rw e at h

pub ruleset tests = (lt-ltb, le-ltb, eq-eqb, ne_eqb, or_left, or_right, or_neither, not_holds, not_fails, not_call, not_call_false)

-- an outcome by tests of the code
pub ruleset answering = (refl, value_done, here, later, done, tests)

-- what a `?` before or at the goal says
pub ruleset trying = (goes_on, breaks_off, exits)

-- an outcome after a call whose answer is handed on or passed
pub ruleset handing_on = (handed_on, handed_on-first, call_passed, call_passed_first, trying, answering)
