-- Maps keyed by bytes.
--     text_order      texts in the order of their bytes
--     keyed bytes es      the entries es, each at the bytes of its key
--     with_values h m      the map m with h v for each value v
--     with_entries, map_of      a map with further entries, and the map of some entries
use Rattle.std.specs.Prelude.{ℕ, List, map, [], ◌∷◌}
use Rattle.std.specs.FinMap.{FinMap, entries, from_entries, empty, insert}
use Rattle.std.specs.Ordering.{nat_cmp}
use Rattle.std.specs.Cmp.Lexicographic.{slice_cmp}
use Rattle.std.specs.declared.cmp.Ordering.{Ordering}

abbrev pub text_order : List ℕ → List ℕ → Ordering
text_order = slice_cmp nat_cmp

abbrev pub keyed : {K X : Type 0} → (K → List ℕ) → List (K × X) → List (List ℕ × X)
keyed bytes es = map (λ e. (bytes e.0, e.1)) es

abbrev pub with_values : {K X Y : Type 0} {R : K → K → Ordering} → (X → Y) → FinMap R X → FinMap R Y
with_values h m = from_entries (map (λ e. (e.0, h e.1)) (entries m))

-- a map with further entries, of which a later one takes the place of an earlier one with the same key
abbrev pub with_entries : {V : Type 0} → FinMap text_order V → List (List ℕ × V) → FinMap text_order V
with_entries entries [] = entries
with_entries entries (e ∷ es) = with_entries (insert entries e.0 e.1) es

-- the map with these entries
abbrev pub map_of : {V : Type 0} → List (List ℕ × V) → FinMap text_order V
map_of es = with_entries empty es
