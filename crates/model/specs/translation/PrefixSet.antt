-- Prefix pairs: the PrefixSet functions of TranslationLib.
use Rattle.std.specs.Prelude.{Bool, true, false, cond, ◌||◌, leb, length}
use Rattle.std.proofs.Math.Option.{Option, none, some}
use Rattle.model.specs.keys.Key.{Key, too_long, IsPrefix, change_prefix}

-- datatype PrefixSet; under Option, none is the absent pair
pub record PrefixSet : Type 0 where
  pub prefix : Key
  pub new_prefix : Key

abbrev pub pair : Key → Key → Option PrefixSet
pair p q = some (record { prefix = p; new_prefix = q })

-- RevPrefixSet
unfoldable pub RevPrefixSet : Option PrefixSet → Option PrefixSet
RevPrefixSet none = none
RevPrefixSet (some a) = pair a.new_prefix a.prefix

-- the keys that a pair changes: those that begin with its old prefix; an absent pair takes any
unfoldable pub Begins : Option PrefixSet → Key → Bool
Begins none k = true
Begins (some a) k = IsPrefix a.prefix k

-- ApplyPrefixSet, for a key that begins with the old prefix
unfoldable pub ApplyPrefixSet : Option PrefixSet → Key → Key
ApplyPrefixSet none k = k
ApplyPrefixSet (some a) k = change_prefix a.prefix a.new_prefix k

-- cause 7 in composing: "neither old prefix begins the other"
unfoldable pub Composable : Option PrefixSet → Option PrefixSet → Bool
Composable none b = true
Composable (some a) none = true
Composable (some a) (some b) = IsPrefix a.prefix b.prefix || IsPrefix b.prefix a.prefix

-- ComposePrefixSet(a, b): "It undoes b and then does a"
unfoldable pub ComposePrefixSet : Option PrefixSet → Option PrefixSet → Option PrefixSet
ComposePrefixSet none b = RevPrefixSet b
ComposePrefixSet (some a) none = some a
ComposePrefixSet (some a) (some b) =
    cond (leb (length a.prefix) (length b.prefix))
    (pair b.new_prefix (ApplyPrefixSet (some a) b.prefix))
    (pair (ApplyPrefixSet (some b) a.prefix) a.new_prefix)

-- 8 in composing: one of the two prefixes passes 64 bytes
unfoldable pub long_pair : Option PrefixSet → Bool
long_pair none = false
long_pair (some a) = too_long a.prefix || too_long a.new_prefix
