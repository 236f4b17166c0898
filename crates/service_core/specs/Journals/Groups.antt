-- The first groups of a world.
--     roots_of c      the roots of the domains of a catalogue, in the order of their paths
--     groups_on m ids      the objects with an empty group at each of these ids
--     HasFirstGroups c m      an empty group stands at the root of each domain, and nothing else
use Rattle.std.specs.Prelude.{◌≡◌, ℕ, List, [], ◌∷◌, Option, Some, None, IsSome}
use Rattle.std.specs.FinMap.{entries, get, insert}
use Rattle.std.specs.List.{filter_map}
use Rattle.object_ids.specs.IdValues.{Id}
use Rattle.object_ids.specs.declared.ids.Kind.TheVariants.{Group}
use Rattle.domains.specs.Changes.{domain_count}
use Rattle.domains.specs.Contents.{Contents, IsDomainAt}
use Rattle.domains.specs.declared.classes.Node.{Node}
use Rattle.domains.specs.declared.classes.NodeClass.{NodeClass}
use Rattle.domains.specs.declared.classes.NodeClass.TheVariants.{Folder, Domain}
use Rattle.object_acts.specs.Objects.{empty_group, Objects}
use Rattle.register.specs.Decided.{AreGivenOut}
use Rattle.service_core.specs.Steps.{IsGiven, World}
use Rattle.service_core.specs.Worlds.{with_object}

-- the roots of the domains are the first ids of run 0: their serials are below the number of domains
abbrev pub AreFirstRoots : Contents → Type 0
AreFirstRoots c = AreGivenOut c 0 (domain_count c)

abbrev pub root_in : NodeClass → Option Id
root_in Folder = None
root_in (Domain number root) = Some root

abbrev pub roots_in : {K : Type 0} → List (K × Node) → List Id
roots_in nodes = filter_map (λ e. root_in e.1.class) nodes

abbrev pub roots_of : Contents → List Id
roots_of c = roots_in (entries c.nodes)

abbrev pub groups_on : Objects → List Id → Objects
groups_on objects [] = objects
groups_on objects (id ∷ ids) = groups_on (insert objects id empty_group) ids

abbrev pub with_groups : World → List Id → World
with_groups w ids = record { register = w.register; objects = groups_on w.objects ids }

-- an id that was given to a group, and has no object
pub record MayHaveGroup (w : World) (id : Id) : Type 0 where
  pub given : IsGiven w.register id
  pub group : id.kind ≡ Group
  pub free : get w.objects id ≡ None

-- each of the ids in turn is such
abbrev pub MayHaveGroups : World → List Id → Type 0
MayHaveGroups w [] = Unit {0}
MayHaveGroups w (id ∷ ids) = MayHaveGroup w id × MayHaveGroups (with_object w id empty_group) ids

-- an empty group stands at the root of each domain, and no other object is there
pub record HasFirstGroups (c : Contents) (objects : Objects) : Type 0 where
  pub at_roots : (path : List ℕ) (number : ℕ) (root : Id) → IsDomainAt c path number root → get objects root ≡ Some empty_group
  pub at_roots_only : (id : Id) → IsSome (get objects id) → (path : List ℕ) × (number : ℕ) × IsDomainAt c path number id
