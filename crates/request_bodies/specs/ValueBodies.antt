-- What is asked of a body that brings elements, or asks for some.
use Rattle.std.specs.Prelude.{◌≡◌, ◌||◌, ℕ, List, Bool, Option, Some, None, Result, Ok, Err, codes, if◌then◌else◌}
use Rattle.std.specs.Str.{bytes_eq}
use Rattle.serde_json.specs.Data.{Data, Members, object}
use Rattle.serde_json.specs.Find.{get}
use Rattle.json_trees.specs.Trees.{tree_in}
use Rattle.object_ops.specs.declared.refusals.Refusal.{Refusal}
use Rattle.request_bodies.specs.Refusing.{Tells}
use Rattle.request_bodies.specs.declared.faults.BodyFault.{BodyFault}
use Rattle.request_bodies.specs.declared.value_bodies.ValueBody.{ValueBody}

-- what stands at the five keys of a tree
abbrev pub asked_of : Data → ValueBody
asked_of d = record { value = get (codes "value") d; points = get (codes "points") d; start = get (codes "start") d; stop = get (codes "stop") d; step = get (codes "step") d }

abbrev pub no_keys : ValueBody
no_keys = record { value = None; points = None; start = None; stop = None; step = None }

-- one of the five keys
abbrev pub is_asked : List ℕ → Bool
is_asked key = bytes_eq key (codes "value") || bytes_eq key (codes "points") || bytes_eq key (codes "start") || bytes_eq key (codes "stop") || bytes_eq key (codes "step")

abbrev pub with_value : Data → ValueBody → ValueBody
with_value d b = record { value = Some d; points = b.points; start = b.start; stop = b.stop; step = b.step }

abbrev pub with_points : Data → ValueBody → ValueBody
with_points d b = record { value = b.value; points = Some d; start = b.start; stop = b.stop; step = b.step }

abbrev pub with_start : Data → ValueBody → ValueBody
with_start d b = record { value = b.value; points = b.points; start = Some d; stop = b.stop; step = b.step }

abbrev pub with_stop : Data → ValueBody → ValueBody
with_stop d b = record { value = b.value; points = b.points; start = b.start; stop = Some d; step = b.step }

abbrev pub with_step : Data → ValueBody → ValueBody
with_step d b = record { value = b.value; points = b.points; start = b.start; stop = b.stop; step = Some d }

-- with a tree at its key, where that is one of the five
abbrev pub with_key : List ℕ → Data → ValueBody → ValueBody
with_key key d b =
    if bytes_eq key (codes "value") then with_value d b
    else (if bytes_eq key (codes "points") then with_points d b
    else (if bytes_eq key (codes "start") then with_start d b
    else (if bytes_eq key (codes "stop") then with_stop d b
    else (if bytes_eq key (codes "step") then with_step d b else b))))

-- `serde_json` reads an object with these members from bytes
abbrev pub IsObjectIn : List ℕ → Members → Type 0
IsObjectIn bytes all = tree_in bytes ≡ Some (object all)

-- a call gives what stands at the five keys of the body, or it tells why the body is none
abbrev pub TellsAsked : Result ValueBody BodyFault → Result Data Refusal → Type 0
TellsAsked (Ok asked) r = (d : Data) × (r ≡ Ok d) × (asked ≡ asked_of d)
TellsAsked (Err fault) r = Tells fault r
