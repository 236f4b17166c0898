-- The objects of a domain.
use Rattle.std.specs.Prelude.{Bool, ◌==◌, ◌&&◌, ◌||◌, Option, Some, None, if◌then◌else◌}
use Rattle.std.specs.FinMap.{contains_key, get}
use Rattle.object_ids.specs.IdOrder.{id_eq}
use Rattle.object_ids.specs.IdValues.{Id}
use Rattle.object_acts.specs.Objects.{empty_group, Objects}
use Rattle.object_acts.specs.declared.objects.Object.{Object}
use Rattle.documents.specs.declared.domains.home.Home.{Home}

-- a root that isn't held is the empty group
abbrev pub object_or_root : Home → Id → Option Object → Option Object
object_or_root h id None = if id_eq id h.root then Some empty_group else None
object_or_root h id (Some o) = Some o

-- what a domain has at an id: an object of another domain is none of it
abbrev pub object_at : Objects → Home → Id → Option Object
object_at m h id = if id.domain == h.number then object_or_root h id (get m id) else None

-- the domain has an object at an id
abbrev pub is_there : Objects → Home → Id → Bool
is_there m h id = (id.domain == h.number) && (contains_key m id || id_eq id h.root)
