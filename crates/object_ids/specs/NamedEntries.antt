-- Names beside their values.
use Rattle.std.specs.Prelude.{◌≡◌, ℕ, List, map, Some}
use Rattle.std.specs.FinMap.{FinMap, get}
use Rattle.object_ids.specs.declared.name_map.Named.{Named}
use Rattle.containers.specs.TextMaps.Keyed.{text_order}

-- each name stands at its own text
abbrev pub AreNamed : {X : Type 0} → FinMap text_order (Named X) → Type 0
AreNamed {X} m = (k : List ℕ) (n : Named X) → get m k ≡ Some n → n.name ≡ k

-- the names of some entries, each with its value
abbrev pub named_entries : {K X : Type 0} → List (K × Named X) → List (List ℕ × X)
named_entries es = map (λ e. (e.1.name, e.1.value)) es
