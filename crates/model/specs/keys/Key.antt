-- Keys, and prefixes of keys. A key is lent as its bytes.
use Rattle.std.specs.Prelude.{List, [], ◌∷◌, ◌++◌, Bool, true, false, cond, ◌&&◌, ℕ, ◌<◌, eqb, ltb, length, drop}

abbrev pub Key : Type 0
Key = List ℕ

-- KeyType.MaxLen: "a key is 0 to 64 bytes"
abbrev pub max_len : ℕ
max_len = 64

-- "a produced key passes 64 bytes", and "a key or prefix argument over 64 bytes"
abbrev pub too_long : Key → Bool
too_long k = ltb max_len (length k)

-- what is lent in memory is bytes
abbrev pub Bytes : List ℕ → Type 0
Bytes [] = Unit {0}
Bytes (b ∷ k) = (b < 256) × Bytes k

abbrev pub is_nil {ℓ} : {A : Type ℓ} → List A → Bool
is_nil [] = true
is_nil (b ∷ k) = false

-- "IsPrefix says that the first bytes agree"
unfoldable pub IsPrefix : Key → Key → Bool
IsPrefix [] k = true
IsPrefix (a ∷ p) [] = false
IsPrefix (a ∷ p) (b ∷ k) = eqb a b && IsPrefix p k

-- "Changing prefix p to q in k gives q followed by k without its first |p| bytes"
unfoldable pub change_prefix : Key → Key → Key → Key
change_prefix p q k = q ++ drop (length p) k

-- "the common run" of two keys
unfoldable pub common_run : Key → Key → Key
common_run [] k = []
common_run (a ∷ l) [] = []
common_run (a ∷ l) (b ∷ k) = cond (eqb a b) (a ∷ common_run l k) []
