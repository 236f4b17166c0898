-- A walk over the nodes right below a path.
use Rattle.std.specs.Prelude.{◌≡◌, ◌⊎◌, ℕ, List, [], ◌∷◌, Option, Some, None, IsSome}
use Rattle.std.specs.FinMap.{FinMap, get}
use Rattle.std.specs.declared.cmp.Ordering.TheVariants.{Less}
use Rattle.containers.specs.TextMaps.Keyed.{text_order}
use Rattle.containers.specs.TextMaps.Nexts.{left}
use Rattle.object_ids.specs.Paths.{path_of}
use Rattle.domains.specs.declared.classes.Node.{Node}
use Rattle.domains.specs.Children.{children_in}

-- each key is the text of a path
abbrev pub AreCanonical : FinMap text_order Node → Type 0
AreCanonical nodes = (path : List ℕ) → IsSome (get nodes path) → path_of path ≡ Some path

-- a path is the folder's, or stands behind it
abbrev pub IsFrom : List ℕ → List ℕ → Type 0
IsFrom folder path = (folder ≡ path) ⊎ (text_order folder path ≡ Less)

-- the first child behind a path, and behind it the walk goes on
abbrev pub IsChildStep : List ℕ → List (List ℕ × Node) → List ℕ → Option (List ℕ × Node) → Type 0
IsChildStep folder nodes after None = children_in folder (left text_order (Some after) nodes) ≡ []
IsChildStep folder nodes after (Some e) = children_in folder (left text_order (Some after) nodes) ≡ e ∷ children_in folder (left text_order (Some e.0) nodes)
