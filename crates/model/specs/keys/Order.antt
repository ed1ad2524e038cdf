-- Elements and their order: the Keyspace of the source, whose bodies document 01 gives.
use Rattle.std.specs.Prelude.{Bool, true, false, cond, not, ◌&&◌, List, [], ◌∷◌, ℕ, suc, ◌-◌, ltb, ℤ, pos, negsuc}
use Rattle.std.specs.declared.cmp.Ordering.{Ordering}
use Rattle.std.specs.declared.cmp.Ordering.TheVariants.{Less, Equal, Greater}
use Rattle.model.specs.keys.Key.{Key, Bytes}

-- Keyspace.Element: a key, or Max_Element
pub data Element : Type 0 where
  key : Key → Element
  max : Element

-- ElementIsKey, but for the length
abbrev pub is_key : Element → Bool
is_key (key k) = true
is_key max = false

-- an element made of bytes, as each that is lent is
abbrev pub BytesE : Element → Type 0
BytesE (key k) = Bytes k
BytesE max = Unit {0}

-- SeqComparison.lte: "Order is by the first differing byte, a proper prefix comes first"
unfoldable pub lte_key : Key → Key → Bool
lte_key [] b = true
lte_key (x ∷ a) [] = false
lte_key (x ∷ a) (y ∷ b) = cond (ltb x y) true (cond (ltb y x) false (lte_key a b))

-- Keyspace.lte: "max is above every key"
unfoldable pub lte : Element → Element → Bool
lte (key a) (key b) = lte_key a b
lte (key a) max = true
lte max (key b) = false
lte max max = true

-- Keyspace.lt: the order is total, so a is below b where b is not at most a
abbrev pub lt : Element → Element → Bool
lt a b = not (lte b a)

-- equality of elements, by the order
abbrev pub same : Element → Element → Bool
same a b = lte a b && lte b a

-- KeyspaceImpl.cmp: "Compare answers −1, 0 or 1; max equals max"
unfoldable pub cmp : Element → Element → ℤ
cmp a b = cond (lt a b) (negsuc 0) (cond (lt b a) (pos 1) (pos 0))

-- an order as the code has it, by that number
abbrev pub sign : Ordering → ℤ
sign Less = negsuc 0
sign Equal = pos 0
sign Greater = pos 1

-- p is not above e or, where strict, below it
abbrev pub passes : Bool → Element → Element → Bool
passes strict e p = cond strict (lt p e) (lte p e)

-- one more than the last place that passes the test, or 0 where none does
unfoldable pub last_place {ℓ} : {A : Type ℓ} → (A → Bool) → List A → ℕ
last_place test [] = 0
last_place test (x ∷ xs) = cond (ltb 0 (last_place test xs)) (suc (last_place test xs)) (cond (test x) 1 0)

-- "LargestLte and LargestLt give the last place not above, or below"; asked only where there is one
unfoldable pub LargestLte : List Element → Element → ℕ
LargestLte pt e = last_place (passes false e) pt - 1

unfoldable pub LargestLt : List Element → Element → ℕ
LargestLt pt e = last_place (passes true e) pt - 1
