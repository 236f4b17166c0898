-- What a request leaves that isn't served.
use Rattle.std.specs.Prelude.{◌≡◌, ◌+◌, ◌⊎◌, true, Bool, false}
use Rattle.access_lists.specs.declared.people.Caller.{Caller}
use Rattle.access_lists.specs.declared.right.Right.{Right}
use Rattle.object_ops.specs.declared.ops.Request.{Request}
use Rattle.object_ops.specs.declared.ops.Op.{Op}
use Rattle.object_ops.specs.declared.ops.Op.TheVariants.{MakeObject}
use Rattle.object_ops.specs.declared.refusals.Refusal.{Refusal}
use Rattle.object_ops.specs.declared.replies.Reply.TheVariants as reply
use Rattle.chunk_owner.specs.Lanes.{AreShown}
use Rattle.register.specs.Decided.{RegisterState, passed}
use Rattle.service_core.specs.declared.answers.What.TheVariants.{Replied, Denied}
use Rattle.service_core.specs.Marking.{changes_node}
use Rattle.service_core.specs.Steps.{World, step}

abbrev pub makes_object : Op → Bool
makes_object (MakeObject make place) = true
makes_object op = false

-- one place more was given, and for a new object a serial may be taken; tickets tell nothing of a world
pub record KeepsAll (op : Op) (old new : RegisterState) : Type 0 where
  pub catalogue : new.catalogue ≡ old.catalogue
  pub run : new.run ≡ old.run
  pub places : new.places ≡ old.places + 1
  pub serial : (new.serial ≡ old.serial) ⊎ ((makes_object op ≡ true) × (new.serial ≡ old.serial + 1))

-- a denied request leaves the world but for the place
abbrev pub DenialsKeep : Type 0
DenialsKeep = (w : World) (caller : Caller) (request : Request) (right : Right) → (step w caller request).0 ≡ Denied right
    → (step w caller request).1 ≡ record { register = passed w.register; objects = w.objects }

-- a refused request leaves all objects, and the catalogue
abbrev pub RefusalsKeep : Type 0
RefusalsKeep = (w : World) (caller : Caller) (request : Request) (refusal : Refusal) → AreShown w.objects
    → (step w caller request).0 ≡ Replied (reply.Refused refusal)
    → KeepsAll request.op w.register (step w caller request).1.register × ((step w caller request).1.objects ≡ w.objects)

-- what neither makes, changes nor removes a node leaves the catalogue, whatever it is answered
abbrev pub OthersKeepTheCatalogue : Type 0
OthersKeepTheCatalogue = (w : World) (caller : Caller) (request : Request)
    → changes_node request.op ≡ false
    → (step w caller request).1.register.catalogue ≡ w.register.catalogue
