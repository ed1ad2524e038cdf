-- What a call answers: its result, or the first cause that applies in the call's ordered list.
use Rattle.std.specs.Prelude.{Bool, true, false, cond, ◌&&◌, List, [], ◌∷◌, ◌++◌, ℕ, leb, length, drop, Result, Ok, Err}
use Rattle.std.proofs.Math.Option.{Option, none, some}
use Rattle.model.specs.declared.Refusal.{Refusal}
use Rattle.model.specs.declared.Refusal.TheVariants.{Shape, Malformed, Unsorted, EmptyPrefix, OutOfRange, NoSuchSlot, NotPrefix, TooLong, NotBelow, NoRoom, AlreadyPivot, TooManyPivots, NotMeeting, EntriesUnsorted, WrongIndex}

infix 5 ◌⇒◌
-- the numbers of the table "Refusals", and 11 to 15: "the key is already a pivot", "the table would pass 64 pivots", "the meeting pivots differ or are max", "entries don't rise strictly", "a given index isn't the one that belongs to table and bucket"
abbrev pub number : Refusal → ℕ
number Shape = 1
number Malformed = 2
number Unsorted = 3
number EmptyPrefix = 4
number OutOfRange = 5
number NoSuchSlot = 6
number NotPrefix = 7
number TooLong = 8
number NotBelow = 9
number NoRoom = 10
number AlreadyPivot = 11
number TooManyPivots = 12
number NotMeeting = 13
number EntriesUnsorted = 14
number WrongIndex = 15

-- the order of all causes: "directly after 5" comes 11, "directly after 11" comes 12, "after 4" 13 and 14, "after 5" 15
abbrev pub turn : Refusal → ℕ
turn Shape = 1
turn Malformed = 2
turn Unsorted = 3
turn EmptyPrefix = 4
turn NotMeeting = 5
turn EntriesUnsorted = 6
turn OutOfRange = 7
turn AlreadyPivot = 8
turn TooManyPivots = 9
turn WrongIndex = 10
turn NoSuchSlot = 11
turn NotPrefix = 12
turn TooLong = 13
turn NotBelow = 14
turn NoRoom = 15

-- a cause: whether it applies, and what is answered then
pub data Cause : Type 0 where
  ◌⇒◌ : Bool → Refusal → Cause

-- "the first in the order so made is answered, in place of the smallest": a call lists its causes in order, and the first that applies makes the outcome
unfoldable pub outcome : {A : Type 0} → (Refusal → A) → List Cause → A → A
outcome refused [] value = value
outcome refused ((applies ⇒ r) ∷ causes) value = cond applies (refused r) (outcome refused causes value)

-- the causes come in that order, from the turn n on
abbrev pub in_turn : ℕ → List Cause → Bool
in_turn n [] = true
in_turn n ((applies ⇒ r) ∷ causes) = leb n (turn r) && in_turn (turn r) causes

-- "The smallest number that applies is answered", of two arguments whose causes are each listed by number: both lists in one, place by place
unfoldable pub paired : List Cause → List Cause → List Cause
paired [] ds = ds
paired (c ∷ cs) [] = c ∷ cs
paired (c ∷ cs) (d ∷ ds) = c ∷ d ∷ paired cs ds

abbrev pub first : List Cause → Option Refusal
first causes = outcome some causes none

-- ---- answers: the call's value, or its refusal

abbrev pub answer : {A : Type 0} → List Cause → A → Result A Refusal
answer causes value = outcome Err causes (Ok value)

-- ---- answers at the boundary: a number, and a value behind a pointer

-- 0 where the call is accepted, else the refusal's number
unfoldable pub answer_number : {A : Type 0} → Result A Refusal → ℕ
answer_number (Ok value) = 0
answer_number (Err r) = number r

-- what stands behind the pointer afterwards: "A refusal leaves that number as it was"
unfoldable pub told : {A : Type 0} → Result A Refusal → A → A
told (Ok value) old = value
told (Err r) old = old

-- "yes" and "no" are 1 and 0
unfoldable pub decided_answer : Result Bool Refusal → Result ℕ Refusal
decided_answer (Ok true) = Ok 1
decided_answer (Ok false) = Ok 0
decided_answer (Err r) = Err r

-- ---- bytes

-- w written at the head of d: "Bytes after what is written don't change"
unfoldable pub over : List ℕ → List ℕ → List ℕ
over w d = w ++ drop (length w) d

-- what a call that writes w leaves in the destination d: "a refusal changes no lent byte"
abbrev pub leaves : List Cause → List ℕ → List ℕ → List ℕ
leaves causes w d = outcome (λ (r : Refusal). d) causes (over w d)

-- "hands back that part of the caller's slice, or an empty part where it would refuse"
abbrev pub part : List Cause → List ℕ → List ℕ
part causes k = outcome (λ (r : Refusal). []) causes k
