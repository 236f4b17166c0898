-- The sum of a tree that is a list of lists of whole numbers.
use Rattle.std.specs.Prelude.{ℕ, List, [], unwrap_or}
use Rattle.std.specs.List.{sum_by}
use Rattle.serde_json.specs.Data.{Data}
use Rattle.json_trees.specs.Trees.{list_in, whole_in}

-- what is no list has no member, and what is no whole number counts as 0
abbrev pub members : Data → List Data
members d = unwrap_or (list_in d) []

abbrev pub number_in : Data → ℕ
number_in d = unwrap_or (whole_in d) 0

unfoldable pub row_in : Data → ℕ
row_in d = sum_by number_in (members d)

unfoldable pub total_in : Data → ℕ
total_in d = sum_by row_in (members d)
