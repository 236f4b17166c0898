-- Maps from coordinates to bytes, seen as functions.
use Rattle.std.specs.Prelude.{ℕ, List, Bool, cond, Option, is_some}
use Rattle.std.specs.Option.{option_map_or}
use Rattle.std.specs.Str.{bytes_eq}
use Rattle.std.specs.Map.{lookup}
use Rattle.std.specs.BTreeMap.{BTreeMap}
use Rattle.std.specs.declared.vec.Vec.{Vec}
use Rattle.std.specs.declared.alloc.Global.{Global}

-- the function with `v` at `at`
abbrev pub put : {A : Type 0} → (List ℕ → A) → List ℕ → A → List ℕ → A
put f at v q = cond (bytes_eq at q) v (f q)

-- what stands in a map at a key
abbrev pub find_in : {X : Type 0} → BTreeMap (List ℕ) X → List ℕ → Option X
find_in m q = lookup (bytes_eq q) m.entries

-- the map has the key
abbrev pub has : {X : Type 0} → BTreeMap (List ℕ) X → List ℕ → Bool
has m q = is_some (find_in m q)

-- the bytes at a key, or these where the map has none
abbrev pub value_in : BTreeMap (List ℕ) (Vec ℕ Global) → List ℕ → List ℕ → List ℕ
value_in m blank q = option_map_or (λ v. v.items) (find_in m q) blank
