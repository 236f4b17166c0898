-- Users, groups and tokens.
use Rattle.std.specs.Prelude.{ℕ, List, [], Bool, not, ◌&&◌, nat_eq, nat_lt, nat_le, length, map, filter, Option, Some, option_map, option_and_then, codes}
use Rattle.std.specs.Option.{unwrap_or}
use Rattle.std.specs.List.{list_all, list_any, starts_with}
use Rattle.std.specs.Str.{bytes_eq}
use Rattle.std.specs.FinMap.{FinMap, get}
use Rattle.toml.specs.Data.{Data, Members, as_str, as_array}
use Rattle.object_ids.specs.Names.{is_name}
use Rattle.containers.specs.TextMaps.Keyed.{text_order, map_of}
use Rattle.access_lists.specs.declared.people.Caller.{Caller}
use Rattle.configuration.specs.Tables.{all_of, pairs_of, elements_of}
use Rattle.configuration.specs.declared.limits.TheConstants.{MAX_NAME_LEN, MAX_GROUP_LEN, MAX_TOKEN_LEN}
use Rattle.containers.specs.Options.{only_if}

-- a name that can't be taken for the entry `default` or a group's
abbrev pub is_user : List ℕ → Bool
is_user name = is_name MAX_NAME_LEN name && not (bytes_eq name (codes "default")) && not (starts_with nat_eq name (codes "g:"))

abbrev pub user_of : Data → Option (List ℕ)
user_of value = option_and_then (λ name. only_if (is_user name) (Some name)) (as_str value)

-- a group and the users that it lists
pub record Group : Type 0 where
  pub name : List ℕ
  pub users : List (List ℕ)

abbrev pub users_of : Data → Option (List (List ℕ))
users_of value = option_and_then (λ users. all_of user_of (elements_of users)) (as_array value)

abbrev pub group_of : List ℕ × Data → Option Group
group_of e = only_if (is_name MAX_GROUP_LEN e.0) (option_map (λ users. record { name = e.0; users = users }) (users_of e.1))

-- the groups of a table, in byte order of their names
abbrev pub groups_in : Members → Option (List Group)
groups_in table = all_of group_of (pairs_of table)

-- the names of all groups that list a user
abbrev pub groups_with : List Group → List ℕ → List (List ℕ)
groups_with groups user = map (λ group. group.name) (filter (λ group. list_any (bytes_eq user) group.users) groups)

abbrev pub is_visible : ℕ → Bool
is_visible byte = nat_le 33 byte && nat_le byte 126

-- 1 to 255 visible bytes of ASCII
abbrev pub is_token : List ℕ → Bool
is_token token = nat_lt 0 (length token) && nat_le (length token) MAX_TOKEN_LEN && list_all is_visible token

-- a token and its caller, where `groups_for` gives the groups of a user
abbrev pub token_of : (List ℕ → List (List ℕ)) → List ℕ × Data → Option (List ℕ × Caller)
token_of groups_for e = only_if (is_token e.0) (option_map (λ user. (e.0, record { user = Some user; groups = groups_for user })) (user_of e.1))

-- the callers of a table of tokens
abbrev pub callers_in : (List ℕ → List (List ℕ)) → Members → Option (FinMap text_order Caller)
callers_in groups_for table = option_map map_of (all_of (token_of groups_for) (pairs_of table))

-- the names that a map from users has for one of them
abbrev pub names_at : FinMap text_order (List (List ℕ)) → List ℕ → List (List ℕ)
names_at memberships user = unwrap_or (get memberships user) []
