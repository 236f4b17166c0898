-- A table of names, each with what it stands for.
use Rattle.std.specs.Prelude.{ℕ, List, [], ◌∷◌, Option, Some, None, if◌then◌else◌}
use Rattle.std.specs.Str.{bytes_eq}

-- what the first entry of this name stands for
abbrev pub look_up : {A : Type 0} → List ℕ → List (List ℕ × A) → Option A
look_up name [] = None
look_up name (entry ∷ rest) = if bytes_eq name entry.0 then Some entry.1 else look_up name rest
