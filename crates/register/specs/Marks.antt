-- What a journal doesn't hold yet of a register.
--     Marked      which of its records are to be written
--     no_marks, all_marks, run_marks      none; all, of a register that was made; that of the run alone, of one that was installed
--     with_path, with_domain      once a node at a path is made, changed or removed; once a domain is made there
--     ArePaths      each path that is marked is one
use Rattle.std.specs.Prelude.{◌≡◌, ℕ, List, Bool, true, false, Some, if◌then◌else◌}
use Rattle.std.specs.FinMap.{FinMap, empty, get, insert, remove}
use Rattle.containers.specs.TextMaps.Keyed.{text_order}
use Rattle.object_ids.specs.Paths.{path_of}

-- whether the record of the run is to be written, whether that of the next domain's number is, and whether those of all nodes are; and the paths
-- whose node was made, changed or removed since the last cut, each with `true`
pub record Marked : Type 0 where
  pub run : Bool
  pub next : Bool
  pub all : Bool
  pub paths : FinMap text_order Bool

abbrev pub no_marks : Marked
no_marks = record { run = false; next = false; all = false; paths = empty }

abbrev pub all_marks : Marked
all_marks = record { run = true; next = true; all = true; paths = empty }

abbrev pub run_marks : Marked
run_marks = record { run = true; next = false; all = false; paths = empty }

abbrev pub with_path : Marked → List ℕ → Marked
with_path m path = record m { paths = insert m.paths path true }

-- a domain takes the next number
abbrev pub with_domain : Marked → List ℕ → Marked
with_domain m path = record (with_path m path) { next = true }

-- for private clauses: a mark is taken back that is a new one
abbrev pub taken_back : Marked → List ℕ → Bool → Marked
taken_back m path fresh = if fresh then record m { paths = remove m.paths path } else m

-- each path that is marked is one, and stands there with `true`
abbrev pub ArePaths : FinMap text_order Bool → Type 0
ArePaths paths = (path : List ℕ) (mark : Bool) → get paths path ≡ Some mark → (mark ≡ true) × (path_of path ≡ Some path)
