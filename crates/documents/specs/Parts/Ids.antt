-- The ids of a document: the keys of its three collections.
use Rattle.std.specs.Prelude.{ℕ, List, Bool, ◌||◌, is_some, option_and_then, codes}
use Rattle.serde_json.specs.Data.{Data}
use Rattle.serde_json.specs.Find.{get}

-- whether a collection of the document has an object of this id
abbrev pub has_id : List ℕ → List ℕ → Data → Bool
has_id collection id document = is_some (option_and_then (get id) (get collection document))

-- whether any of them has
abbrev pub is_id : List ℕ → Data → Bool
is_id id document = has_id (codes "datasets") id document || has_id (codes "datatypes") id document || has_id (codes "groups") id document
