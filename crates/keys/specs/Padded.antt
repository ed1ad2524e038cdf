-- For the contracts of leaves: the order of two records by their bytes, and the records for which it is that of elements.
use Rattle.std.specs.Prelude.{◌≡◌, true, cond, ◌||◌, List, ℕ, ltb, ℤ, pos, negsuc, length, take, drop}
use Rattle.model.specs.keys.Key.{max_len}
use Rattle.model.specs.keys.Order.{Element, key, lt}
use Rattle.model.specs.records.Record.{record_size, length_field, reading, element_reading}
use Rattle.scan.specs.Word.{whole}

-- one record of 66 bytes that is read as an element
abbrev pub Padded : List ℕ → Type 0
Padded r = (length r ≡ record_size) × (element_reading (reading r) ≡ true)

-- -1, 0 or 1 as one number is below, equal to or above another
abbrev pub ordered : ℕ → ℕ → ℤ
ordered x y = cond (ltb x y) (negsuc 0) (cond (ltb y x) (pos 1) (pos 0))

-- -1 or 1 as one element is below or above another, and where they are equal what is given
abbrev pub decided : Element → Element → ℤ → ℤ
decided x y z = cond (lt x y) (negsuc 0) (cond (lt y x) (pos 1) z)

-- the whole words of eight bytes after both length fields
abbrev pub words : List ℕ → List ℕ → List ℕ → Element
words a b r = key (take (whole (drop 2 a) (drop 2 b)) (drop 2 r))

-- the order of two records by their bytes, whatever these are: where a length field is over 64 by the fields, else by the
-- whole words after the fields, and where these agree by the fields
unfoldable pub padded_order : List ℕ → List ℕ → ℤ
padded_order a b =
    cond (ltb max_len (length_field a) || ltb max_len (length_field b)) (ordered (length_field a) (length_field b))
    (decided (words a b a) (words a b b) (ordered (length_field a) (length_field b)))
