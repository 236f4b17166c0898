-- When a value can be put at a name that is to be new.
use Rattle.std.specs.Prelude.{◌≡◌, ℕ, List, Option, Some, None, Result, Ok, Err, nat_lt, if◌then◌else◌}
use Rattle.std.specs.FinMap.{FinMap, contains_key, len}
use Rattle.containers.specs.TextMaps.Keyed.{text_order}
use Rattle.object_ids.specs.declared.puts.PutFault.{PutFault}
use Rattle.object_ids.specs.declared.puts.PutFault.TheVariants.{Taken, Limit, NoMemory}

-- why not, in a map of at most `most` names; none where it can
abbrev pub put_fault : {X : Type 0} → ℕ → FinMap text_order X → List ℕ → Option PutFault
put_fault most m name = if contains_key m name then Some Taken else (if nat_lt (len m) most then None else Some Limit)

-- a call tells this fault exactly where there is one, and else it succeeds or memory ran out
abbrev pub Blames : {T : Type 0} → Result T PutFault → Option PutFault → Type 0
Blames (Ok x) fault = fault ≡ None
Blames (Err NoMemory) fault = fault ≡ None
Blames (Err Taken) fault = fault ≡ Some Taken
Blames (Err Limit) fault = fault ≡ Some Limit
