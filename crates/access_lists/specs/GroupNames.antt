-- The groups of a caller.
--     names_of      their names
--     shared_names      their names, where some may stand on the heap with several owners
use Rattle.std.specs.Prelude.{ℕ, List, [], map, Option, Some, None}
use Rattle.std.specs.Arc.{arc_value}
use Rattle.std.specs.declared.alloc.Global.{Global}
use Rattle.std.specs.declared.sync.Arc.{Arc}
use Rattle.std.specs.declared.vec.Vec.{Vec}
use Rattle.access_lists.specs.declared.group.Group.{Group}

abbrev pub names_of : List Group → List (List ℕ)
names_of groups = map (λ group. group.name) groups

abbrev pub shared_names : Option (Arc (Vec Group Global) Global) → List (List ℕ)
shared_names None = []
shared_names (Some groups) = names_of (arc_value groups).items
