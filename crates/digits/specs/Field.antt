-- A field of a line of text.
use Rattle.std.specs.Prelude.{List, [], ◌∷◌, ◌++◌, ℕ}

-- a text and the byte that ends it
unfoldable pub field : List ℕ → ℕ → List ℕ
field t end = t ++ end ∷ []
