-- Folders and domains as they are configured: an owner, and an access list.
use Rattle.std.specs.Prelude.{ℕ, List, [], ◌∷◌, Bool, false, ◌&&◌, ◌||◌, ◌==◌, nat_le, length, is_some, Option, Some, option_map, option_and_then, codes}
use Rattle.std.specs.Option.{unwrap_or}
use Rattle.std.specs.List.{list_all, list_any}
use Rattle.std.specs.Str.{bytes_eq}
use Rattle.std.specs.FinMap.{FinMap, len}
use Rattle.toml.specs.Data.{Data, Members, as_str, as_bool, as_table, get_member}
use Rattle.object_ids.specs.Names.{is_name}
use Rattle.object_ids.specs.Paths.{path_of}
use Rattle.containers.specs.TextMaps.Keyed.{text_order, map_of}
use Rattle.access_lists.specs.declared.rights.Rights.{Rights}
use Rattle.access_lists.specs.declared.list.TheConstants.{MAX_ENTRIES}
use Rattle.configuration.specs.Tables.{both, all_of, pairs_of, has_only, table_at}
use Rattle.configuration.specs.People.{is_user}
use Rattle.configuration.specs.declared.limits.TheConstants.{MAX_NAME_LEN}
use Rattle.configuration.specs.declared.setting.Setting.{Setting}
use Rattle.containers.specs.Options.{only_if}

-- a user, or nobody in particular
abbrev pub is_owner : List ℕ → Bool
is_owner name = bytes_eq name (codes "default") || is_user name

abbrev pub owner_of : Data → Option (List ℕ)
owner_of value = option_and_then (λ name. only_if (is_owner name) (Some name)) (as_str value)

abbrev pub is_right_key : List ℕ → Bool
is_right_key key = list_any (bytes_eq key) (codes "create" ∷ codes "read" ∷ codes "update" ∷ codes "delete" ∷ codes "readACL" ∷ codes "updateACL" ∷ [])

-- a key that names a right, and a truth value
abbrev pub is_right_pair : List ℕ × Data → Bool
is_right_pair e = is_right_key e.0 && is_some (as_bool e.1)

-- the truth value at a key; false where there is none
abbrev pub flag_at : List ℕ → Members → Bool
flag_at key table = unwrap_or (option_and_then as_bool (get_member key table)) false

abbrev pub rights_in : Members → Rights
rights_in table = record {
  create = flag_at (codes "create") table;
  read = flag_at (codes "read") table;
  update = flag_at (codes "update") table;
  delete = flag_at (codes "delete") table;
  read_acl = flag_at (codes "readACL") table;
  update_acl = flag_at (codes "updateACL") table;
}

abbrev pub rights_of : Data → Option Rights
rights_of value = option_and_then (λ table. only_if (list_all is_right_pair (pairs_of table)) (Some (rights_in table))) (as_table value)

-- an entry of an access list: a name and its rights
abbrev pub entry_of : List ℕ × Data → Option (List ℕ × Rights)
entry_of e = only_if (is_name MAX_NAME_LEN e.0) (option_map (λ rights. (e.0, rights)) (rights_of e.1))

-- an access list of at most 1,024 entries
abbrev pub list_in : Members → Option (FinMap text_order Rights)
list_in table = only_if (nat_le (length (pairs_of table)) MAX_ENTRIES) (option_map map_of (all_of entry_of (pairs_of table)))

abbrev pub is_setting_key : List ℕ → Bool
is_setting_key key = bytes_eq key (codes "owner") || bytes_eq key (codes "acls")

abbrev pub setting_in : Members → Option Setting
setting_in table =
    only_if (has_only is_setting_key table)
    (option_map (λ p. record { owner = p.0; list = p.1 })
    (both (option_and_then owner_of (get_member (codes "owner") table)) (option_and_then list_in (table_at (codes "acls") table))))

-- a path and what is configured there
abbrev pub setting_of : List ℕ × Data → Option (List ℕ × Setting)
setting_of e = both (path_of e.0) (option_and_then setting_in (as_table e.1))

-- the map of these settings, where no path is named twice
abbrev pub distinct_settings : List (List ℕ × Setting) → Option (FinMap text_order Setting)
distinct_settings settings = only_if (len (map_of settings) == length settings) (Some (map_of settings))

-- the settings of a table
abbrev pub settings_in : Members → Option (FinMap text_order Setting)
settings_in table = option_and_then distinct_settings (all_of setting_of (pairs_of table))
