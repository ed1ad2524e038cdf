-- The text of a table, by what its check found.
use Rattle.std.specs.Prelude.{List, ◌++◌, ℕ, ◌-◌, Result, Ok, Err}
use Rattle.model.specs.declared.Refusal.{Refusal}
use Rattle.model.specs.list.ShelfList.{header, refused_text}
use Rattle.list_lines.specs.Lines.{lines_to}

-- the count of pivots that a check found, and the text that it calls for
abbrev pub count_of : Result ℕ Refusal → ℕ
count_of (Ok n) = n
count_of (Err r) = 0

unfoldable pub found_text : Result ℕ Refusal → List ℕ → List ℕ → List ℕ
found_text (Ok n) p e = header ++ lines_to p e (n - 1)
found_text (Err r) p e = refused_text r
