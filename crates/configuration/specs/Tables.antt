-- Words on values that may be absent, and on the tables of a TOML document.
use Rattle.std.specs.Prelude.{ℕ, List, [], ◌∷◌, Bool, Option, Some, None, option_map}
use Rattle.std.specs.List.{list_all}
use Rattle.toml.specs.Data.{Data, Items, no_items, item, Members, no_members, member, as_table, get_member}

-- two values, where both are there
abbrev pub both : {A B : Type 0} → Option A → Option B → Option (A × B)
both (Some a) (Some b) = Some (a, b)
both _ _ = None

-- what `read` makes of each element, where it makes something of every one
abbrev pub all_of : {A B : Type 0} → (A → Option B) → List A → Option (List B)
all_of read [] = Some []
all_of read (x ∷ xs) = option_map (λ p. p.0 ∷ p.1) (both (read x) (all_of read xs))

-- the keys of a table and their values, in byte order of the keys
abbrev pub pairs_of : Members → List (List ℕ × Data)
pairs_of no_members = []
pairs_of (member key value rest) = (key, value) ∷ pairs_of rest

-- the elements of an array
abbrev pub elements_of : Items → List Data
elements_of no_items = []
elements_of (item value rest) = value ∷ elements_of rest

-- whether each key of a table passes a test
abbrev pub has_only : (List ℕ → Bool) → Members → Bool
has_only test table = list_all (λ e. test e.0) (pairs_of table)

-- a table that may be absent, and is empty then
abbrev pub optional_table : Option Data → Option Members
optional_table None = Some no_members
optional_table (Some value) = as_table value

-- the table at a key
abbrev pub table_at : List ℕ → Members → Option Members
table_at key table = optional_table (get_member key table)
