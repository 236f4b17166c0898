-- The nodes right below a path.
use Rattle.std.specs.Prelude.{ℕ, List, Bool, not, ◌&&◌}
use Rattle.std.specs.FinMap.{entries}
use Rattle.std.specs.List.{filter, list_any}
use Rattle.std.specs.Str.{bytes_eq}
use Rattle.object_ids.specs.Paths.{parent_of}
use Rattle.domains.specs.declared.classes.Node.{Node}
use Rattle.domains.specs.Contents.{Contents}

-- whether the path's parent is the folder; `/` is its own parent, and no child of itself
abbrev pub is_child : List ℕ → List ℕ → Bool
is_child folder path = bytes_eq (parent_of path) folder && not (bytes_eq path folder)

-- those of some nodes that stand right below a path
abbrev pub children_in : List ℕ → List (List ℕ × Node) → List (List ℕ × Node)
children_in folder nodes = filter (λ e. is_child folder e.0) nodes

-- in the order of the paths' bytes
abbrev pub children_of : Contents → List ℕ → List (List ℕ × Node)
children_of c folder = children_in folder (entries c.nodes)

abbrev pub has_children : Contents → List ℕ → Bool
has_children c folder = list_any (λ e. is_child folder e.0) (entries c.nodes)
