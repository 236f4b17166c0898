-- What holds of every step.
use Rattle.std.specs.Prelude.{◌≡◌, ◌<◌, ◌⊎◌, ◌↔◌, true, Option, Some}
use Rattle.std.specs.FinMap.{get}
use Rattle.object_ids.specs.IdValues.{Id}
use Rattle.object_ops.specs.declared.ops.Op.{Op}
use Rattle.object_ops.specs.declared.ops.Op.TheVariants.{MakeObject}
use Rattle.object_ops.specs.declared.ops.Make.{Make}
use Rattle.object_ops.specs.declared.ops.LinkPlace.{LinkPlace}
use Rattle.object_ops.specs.declared.grants.Grant.{Grant}
use Rattle.object_ops.specs.declared.grants.Step.{Step}
use Rattle.object_ops.specs.declared.grants.Step.TheVariants.{Link}
use Rattle.object_ops.specs.declared.replies.Reply.{Reply}
use Rattle.object_ops.specs.declared.replies.Reply.TheVariants.{Refused}
use Rattle.object_ops.specs.declared.refusals.Refusal.{Refusal}
use Rattle.object_ops.specs.declared.refusals.Refusal.TheVariants.{NoObject, Gone}
use Rattle.object_ops.specs.Parts.{id_of}
use Rattle.object_acts.specs.declared.objects.Object.{Object}
use Rattle.object_acts.specs.Acts.{reads_object}
use Rattle.chunk_owner.specs.Lanes.{shown}
use Rattle.chunk_owner.specs.Acts.{missing, reading, changing, touched, acted}
use Rattle.object_acts.specs.Objects.{Objects}

-- an id of the domain, from an earlier run, or from this one and below the next serial
abbrev pub WasGiven : Grant → Id → Type 0
WasGiven g id = (id.domain ≡ g.number) × ((id.run < g.run) ⊎ ((id.run ≡ g.run) × (id.serial < g.serial)))

-- an id without an object is gone exactly where it was given
abbrev pub GoneWhereGiven : Type 0
GoneWhereGiven = (g : Grant) (id : Id) → (missing g id ≡ Gone id) ↔ WasGiven g id

-- and it is said to have no object elsewhere
abbrev pub NoObjectElsewhere : Type 0
NoObjectElsewhere = (g : Grant) (id : Id) → (WasGiven g id → ⊥) → missing g id ≡ NoObject id

-- an id of another domain is answered so whatever stands there, and that stays
abbrev pub OthersAreHidden : Type 0
OthersAreHidden = (g : Grant) (id : Id) (o : Option Object) (f : Object → Reply) (h : Object → Reply × Object) → (id.domain ≡ g.number → ⊥)
    → (reading g id f o ≡ (Refused (NoObject id), o)) × (changing g id h o ≡ (Refused (NoObject id), o))

-- a step leaves each object but the one that it touches
abbrev pub OthersStay : Type 0
OthersStay = (g : Grant) (op : Op) (s : Step) (objects : Objects) (id : Id) → (touched g op s ≡ Some id → ⊥) → get (acted g op s objects).1 id ≡ get objects id

-- a refused step leaves all objects as requests see them
abbrev pub RefusalsLeaveAll : Type 0
RefusalsLeaveAll = (g : Grant) (op : Op) (s : Step) (objects : Objects) (refusal : Refusal)
    → (acted g op s (shown objects)).0 ≡ Refused refusal → (acted g op s (shown objects)).1 ≡ shown objects

-- what reads an object leaves all objects, whatever it answers
abbrev pub ReadsLeaveAll : Type 0
ReadsLeaveAll = (g : Grant) (op : Op) (s : Step) (objects : Objects) → reads_object op ≡ true → (acted g op s objects).1 ≡ objects

-- an operation on one object of another domain is answered that there is none, and all objects stay
abbrev pub OthersAreLeft : Type 0
OthersAreLeft = (g : Grant) (op : Op) (s : Step) (objects : Objects) (id : Id) → id_of op ≡ Some id → (id.domain ≡ g.number → ⊥)
    → acted g op s objects ≡ (Refused (NoObject id), objects)

-- so is a link to a new object, in a group of another domain
abbrev pub OthersAreUnlinked : Type 0
OthersAreUnlinked = (g : Grant) (make : Make) (place : LinkPlace) (fresh : Id) (objects : Objects) → g.fresh ≡ Some fresh → (place.group.domain ≡ g.number → ⊥)
    → acted g (MakeObject make (Some place)) Link objects ≡ (Refused (NoObject place.group), objects)
