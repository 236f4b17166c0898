-- The catalogue that configured folders and domains make, path by path.
--     Settings      what is configured at some paths
--     rank_of domains path      how many domains stand before a path
--     MakeTree folders domains      a catalogue can have these folders and domains
--     HasConfigured folders domains c      the nodes of the catalogue c are the configured ones
--     HasFirstRoots c      the roots of its domains were given out in run 0
--     HasFirstSerials c      and their serials are below the number of domains
use Rattle.std.specs.Prelude.{◌≡◌, ◌≢◌, ◌⊎◌, ◌<◌, ◌≤◌, ℕ, ◌+◌, List, length, filter, Some, None, IsSome, codes}
use Rattle.std.specs.Ordering.{is_lt}
use Rattle.std.specs.FinMap.{FinMap, empty, get, keys, len, remove}
use Rattle.object_ids.specs.IdValues.{Id}
use Rattle.object_ids.specs.Paths.{parent_of, root_path}
use Rattle.object_ids.specs.declared.ids.Kind.TheVariants.{Group}
use Rattle.containers.specs.TextMaps.Keyed.{text_order}
use Rattle.domains.specs.Changes.{domain_count}
use Rattle.domains.specs.Contents.{Contents, IsDomainAt}
use Rattle.domains.specs.declared.classes.Node.{Node}
use Rattle.domains.specs.declared.classes.NodeClass.TheVariants.{Folder, Domain}
use Rattle.configuration.specs.declared.setting.Setting.{Setting}

abbrev pub Settings : Type 0
Settings = FinMap text_order Setting

-- how many of the configured domains stand before a path, in byte order of paths
abbrev pub rank_of : Settings → List ℕ → ℕ
rank_of domains path = length (filter (λ other. is_lt (text_order other path)) (keys domains))

-- the domain with this rank: its number is one more, and its root is the group of that number with run 0 and the rank as its serial
abbrev pub ranked_domain : ℕ → Setting → Node
ranked_domain rank setting = record {
  class = Domain (rank + 1) (record { kind = Group; domain = rank + 1; run = 0; serial = rank });
  owner = setting.owner;
  list = setting.list;
}

-- a folder is configured at the path, or it is `/`
abbrev pub IsFolderPath : Settings → List ℕ → Type 0
IsFolderPath folders path = (path ≡ root_path) ⊎ IsSome (get folders path)

pub record MakeTree (folders domains : Settings) : Type 0 where
  pub root : get domains root_path ≡ None
  pub once : (path : List ℕ) → IsSome (get domains path) → get folders path ≡ None
  pub folder_parents : (path : List ℕ) → path ≢ root_path → IsSome (get folders path) → IsFolderPath folders (parent_of path)
  pub domain_parents : (path : List ℕ) → IsSome (get domains path) → IsFolderPath folders (parent_of path)
  pub few : len (remove folders root_path) + len domains ≤ 65535

pub record HasConfigured (folders domains : Settings) (c : Contents) : Type 0 where
  pub folder : (path : List ℕ) (setting : Setting) → get folders path ≡ Some setting
      → get c.nodes path ≡ Some (record { class = Folder; owner = setting.owner; list = setting.list })
  pub domain : (path : List ℕ) (setting : Setting) → get domains path ≡ Some setting
      → get c.nodes path ≡ Some (ranked_domain (rank_of domains path) setting)
  pub default_root : get folders root_path ≡ None
      → get c.nodes root_path ≡ Some (record { class = Folder; owner = codes "default"; list = empty })
  pub nothing_else : (path : List ℕ) → path ≢ root_path → get folders path ≡ None → get domains path ≡ None
      → get c.nodes path ≡ None
  pub next : c.next ≡ len domains + 1

-- the root of each domain was given out in run 0
abbrev pub HasFirstRoots : Contents → Type 0
HasFirstRoots c = (path : List ℕ) (number : ℕ) (root : Id) → IsDomainAt c path number root → root.run ≡ 0

-- and they have the first serials of it: there are as many as domains
abbrev pub HasFirstSerials : Contents → Type 0
HasFirstSerials c = (path : List ℕ) (number : ℕ) (root : Id) → IsDomainAt c path number root → root.serial < domain_count c
