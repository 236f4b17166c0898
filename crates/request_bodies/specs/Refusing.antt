-- The refusal of a body, and what a call answers beside it.
use Rattle.std.specs.Prelude.{◌≡◌, Option, Some, None, Result, Ok, Err}
use Rattle.json_trees.specs.Faults.{Gives as GivesTold}
use Rattle.json_trees.specs.declared.kept.fault.ReadFault.{ReadFault}
use Rattle.json_trees.specs.declared.kept.fault.ReadFault.TheVariants as read
use Rattle.object_ops.specs.declared.refusals.Refusal.{Refusal}
use Rattle.object_ops.specs.declared.refusals.Refusal.TheVariants.{BadJson}
use Rattle.request_bodies.specs.declared.faults.BodyFault.{BodyFault}
use Rattle.request_bodies.specs.declared.faults.BodyFault.TheVariants.{Refused, NoMemory}

-- a fault is the refusal, or memory ran out
abbrev pub Tells : {A : Type 0} → BodyFault → Result A Refusal → Type 0
Tells NoMemory r = Unit {0}
Tells (Refused refusal) r = r ≡ Err refusal

-- a call gives what the tests find, seen through `see`, or memory ran out
abbrev pub Gives : {A T : Type 0} → (T → A) → Result T BodyFault → Result A Refusal → Type 0
Gives see given found = GivesTold Tells see given found

-- the same, where what is given is seen as it is
abbrev pub Answers : {A : Type 0} → Result A BodyFault → Result A Refusal → Type 0
Answers given found = GivesTold Tells (λ x. x) given found

-- a value, or a refusal where there is none
abbrev pub or_refuse : {A : Type 0} → Refusal → Option A → Result A Refusal
or_refuse refusal None = Err refusal
or_refuse refusal (Some x) = Ok x

-- why bytes are read as no object
abbrev pub read_fault : ReadFault → BodyFault
read_fault read.NoMemory = NoMemory
read_fault read.NotJson = Refused BadJson
