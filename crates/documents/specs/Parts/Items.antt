-- Objects and lists in a document.
use Rattle.std.specs.Prelude.{ℕ, ◌+◌, List, [], ◌∷◌, Option, Some, None, Result, Ok, Err, length, nat_le, if◌then◌else◌}
use Rattle.std.specs.Option.{ok_or}
use Rattle.serde_json.specs.Data.{Data, Members}
use Rattle.serde_json.specs.Find.{as_object}
use Rattle.json_trees.specs.Faults.{◌>>=◌}
use Rattle.json_trees.specs.Trees.{list_in}
use Rattle.documents.specs.Parts.Faults.{Fault, fault}
use Rattle.documents.specs.declared.parts.faults.DocCause.TheVariants.{NotADocument, Limit}

-- the members of an object
abbrev pub members_at : List ℕ → Data → Result Members Fault
members_at path d = ok_or (as_object d) (fault path NotADocument)

-- the items of a list of at most so many
abbrev pub items_at : ℕ → List ℕ → Option (List Data) → Result (List Data) Fault
items_at most path None = Err (fault path NotADocument)
items_at most path (Some ds) = if nat_le (length ds) most then Ok ds else Err (fault path Limit)

-- the members of a list, from the `i`-th on, one after another
abbrev pub each_item : {M : Type 0} → (ℕ → M → Data → Result M Fault) → M → ℕ → List Data → Result M Fault
each_item step m i [] = Ok m
each_item {M} step m i (d ∷ ds) = step i m d >>= λ (more : M). each_item step more (i + 1) ds

-- the members of a list of at most so many; an absent list has none
abbrev pub listed_at : {M : Type 0} → ℕ → List ℕ → (ℕ → M → Data → Result M Fault) → M → Option Data → Result M Fault
listed_at most path step m None = Ok m
listed_at most path step m (Some d) = items_at most path (list_in d) >>= λ (ds : List Data). each_item step m 0 ds
