-- The objects of all lanes, as one map.
use Rattle.std.specs.Prelude.{◌≡◌, ℕ, suc, List, [], ◌∷◌, None, map}
use Rattle.std.specs.FinMap.{empty, entries, get, insert}
use Rattle.object_ids.specs.IdValues.{Id}
use Rattle.object_ids.specs.Ids.{lane_of}
use Rattle.object_acts.specs.declared.objects.Object.{Object}
use Rattle.chunk_owner.specs.Lanes.{Lane}
use Rattle.object_acts.specs.Objects.{Objects}

-- a map with more entries put in
abbrev pub merged : List (Id × Object) → Objects → Objects
merged [] n = n
merged (e ∷ es) n = insert (merged es n) e.0 e.1

-- the maps as one; the first that has an id decides
abbrev pub joined : List Objects → Objects
joined [] = empty
joined (m ∷ ms) = merged (entries m) (joined ms)

-- the objects of some lanes
abbrev pub whole : List Lane → Objects
whole lanes = joined (map (λ l. l.objects) lanes)

-- this lane of so many, with objects of the lane alone
pub record IsLane (many number : ℕ) (l : Lane) : Type 0 where
  pub lane : l.lane ≡ number
  pub lanes : l.lanes ≡ many
  pub own : (id : Id) → (lane_of many id ≡ number → ⊥) → get l.objects id ≡ None

-- the lanes from a number on, in order, of so many
abbrev pub AreLanes : ℕ → ℕ → List Lane → Type 0
AreLanes lanes lane [] = Unit {0}
AreLanes lanes lane (l ∷ ls) = IsLane lanes lane l × AreLanes lanes (suc lane) ls
