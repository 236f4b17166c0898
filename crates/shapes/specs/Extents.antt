-- Dims and limits as trees.
use Rattle.std.specs.Prelude.{◌≡◌, ℕ, ◌≤◌, ◌⊎◌, List, [], ◌∷◌, Option, Some, None, option_map, option_and_then, nat_le, if◌then◌else◌, codes}
use Rattle.serde_json.specs.Data.{Data, Items, number, unsigned, string, array}
use Rattle.json_trees.specs.Trees.{list_of, list_in, whole_in, is_text, all_in}
use Rattle.std.specs.List.{AllZip}
use Rattle.shapes.specs.declared.TheConstants.{MAX_EXTENT}

-- a whole number from 0 to the largest extent
abbrev pub IsExtent : Data → ℕ → Type 0
IsExtent d n = (d ≡ number (unsigned n)) × (n ≤ MAX_EXTENT)

-- a limit: such a number, or the word for none, which is 0
abbrev pub IsLimit : Data → ℕ → Type 0
IsLimit d n = IsExtent d n ⊎ ((d ≡ string (codes "H5S_UNLIMITED")) × (n ≡ 0))

-- a list, each item as R says
abbrev pub SpellsList : (Data → ℕ → Type 0) → Data → List ℕ → Type 0
SpellsList R d ns = (items : Items) × (d ≡ array items) × AllZip R (list_of items) ns

-- dims: a list, or one number for one axis
abbrev pub SpellsDims : Data → List ℕ → Type 0
SpellsDims d ns = SpellsList IsExtent d ns ⊎ ((n : ℕ) × IsExtent d n × (ns ≡ n ∷ []))

-- what a tree is read as

abbrev pub small : ℕ → Option ℕ
small n = if nat_le n MAX_EXTENT then Some n else None

abbrev pub extent_in : Data → Option ℕ
extent_in d = option_and_then small (whole_in d)

abbrev pub limit_in : Data → Option ℕ
limit_in d = if is_text (codes "H5S_UNLIMITED") d then Some 0 else extent_in d

-- a list of extents, and a list of limits
abbrev pub extents_in : Data → Option (List ℕ)
extents_in d = option_and_then (all_in extent_in) (list_in d)

abbrev pub limits_in : Data → Option (List ℕ)
limits_in d = option_and_then (all_in limit_in) (list_in d)

abbrev pub one_extent : Data → Option (List ℕ)
one_extent d = option_map (λ n. n ∷ []) (extent_in d)

abbrev pub dims_from : Option (List Data) → Data → Option (List ℕ)
dims_from (Some ds) d = all_in extent_in ds
dims_from None d = one_extent d

abbrev pub dims_in : Data → Option (List ℕ)
dims_in d = dims_from (list_in d) d
