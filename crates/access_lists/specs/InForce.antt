-- Which right an access list gives a caller.
--     Entries      an access list: a finite map from names to entries
--     most_entries      the most entries of a list
--     own_entry      the entry of the caller's user name
--     group_entries      the entries of the caller's groups
--     default_entry      the entry for everybody else
--     union_holds      whether one of some entries has the right; None where there is no entry
--     joined      the union with one entry more
--     has      the right that is in force
use Rattle.std.specs.Prelude.{ℕ, List, [], ◌∷◌, Bool, false, ◌||◌, Option, Some, None, codes, filter_map, option_map, option_and_then}
use Rattle.std.specs.Option.{unwrap_or}
use Rattle.std.specs.List.{list_any}
use Rattle.std.specs.FinMap.{FinMap, get}
use Rattle.containers.specs.TextMaps.Keyed.{text_order}
use Rattle.access_lists.specs.declared.people.Caller.{Caller}
use Rattle.access_lists.specs.declared.right.Right.{Right}
use Rattle.access_lists.specs.declared.rights.Rights.{Rights}
use Rattle.access_lists.specs.GroupKeys.{group_key}
use Rattle.access_lists.specs.RightWords.{holds}

abbrev pub Entries : Type 0
Entries = FinMap text_order Rights

abbrev pub most_entries : ℕ
most_entries = 1024

-- a caller who showed no token
abbrev pub anonymous_caller : Caller
anonymous_caller = record { user = None; groups = [] }

abbrev pub own_entry : Entries → Option (List ℕ) → Option Rights
own_entry list user = option_and_then (get list) user

abbrev pub group_entries : Entries → List (List ℕ) → List Rights
group_entries list groups = filter_map (λ group. get list (group_key group)) groups

abbrev pub default_entry : Entries → Option Rights
default_entry list = get list (codes "default")

abbrev pub union_holds : Right → List Rights → Option Bool
union_holds right [] = None
union_holds right (entry ∷ entries) = Some (list_any (holds right) (entry ∷ entries))

-- what some entries give, and one entry more, which comes first
abbrev pub joined : Option Bool → Option Bool → Option Bool
joined None given = given
joined (Some more) None = Some more
joined (Some more) (Some given) = Some (given || more)

-- The first of these decides: the caller's own entry, the union of the entries of the caller's groups, the default
-- entry. Where there is none of them, the caller has no right.
abbrev pub has : Entries → Caller → Right → Bool
has list caller right =
    unwrap_or (option_map (holds right) (own_entry list caller.user))
    (unwrap_or (union_holds right (group_entries list caller.groups))
    (unwrap_or (option_map (holds right) (default_entry list)) false))
