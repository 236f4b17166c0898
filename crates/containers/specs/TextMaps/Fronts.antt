-- Records in the order of their keys, both of them bytes: what some first ones say, and the least key with a property.
use Rattle.std.specs.Prelude.{◌≢◌, ℕ, List}
use Rattle.std.specs.FinMap.{FinMap, from_entries}
use Rattle.std.specs.declared.cmp.Ordering.TheVariants.{Less}
use Rattle.containers.specs.TextMaps.Keyed.{text_order}

-- what some first records say
abbrev pub held_by : List (List ℕ × List ℕ) → FinMap text_order (List ℕ)
held_by front = from_entries {R = text_order} front

-- a key has a property, and no lesser key has it
pub record IsLeast (P : List ℕ → Type 0) (key : List ℕ) : Type 0 where
  pub has : P key
  pub least : (q : List ℕ) → P q → text_order q key ≢ Less
