-- A map whose values are taken out in the order of its keys, and one into which they are put.
use Rattle.std.specs.Prelude.{◌≡◌, ℕ, List, [], ◌∷◌, Option, Some, None}
use Rattle.std.specs.FinMap.{FinMap, insert, values}
use Rattle.containers.specs.TextMaps.Keyed.{text_order}

-- a list gave its first member, where it has one
abbrev pub Gives : {X : Type 0} → List X → Option X → List X → Type 0
Gives old None new = (old ≡ []) × (new ≡ [])
Gives old (Some x) new = old ≡ x ∷ new

abbrev pub Takes : {X : Type 0} → FinMap text_order X → Option X → FinMap text_order X → Type 0
Takes old first new = Gives (values old) first (values new)

-- what stands at a key is put there, seen as something else
abbrev pub put_at : {X Y : Type 0} → (X → Y) → List ℕ → Option X → FinMap text_order Y → FinMap text_order Y
put_at h key None m = m
put_at h key (Some x) m = insert m key (h x)
