-- Objects that are whole.
use Rattle.std.proofs.Common.{◌≡◌, Option, Some, None, refl}
use Rattle.std.specs.FinMap.{get}
use Rattle.object_ids.specs.IdValues.{Id}
use Rattle.object_acts.specs.Objects.{Objects}
use Rattle.object_acts.specs.declared.objects.Object.{Object}
use Rattle.chunk_owner.specs.Installs.Records.{IsWholeObject}
use Rattle.chunk_owner.specs.Lanes.{AreWholeObjects}
use Rattle.service_core.specs.Described.Told.{AreWhole}

pub whole_of : (m : Objects) → AreWholeObjects m → AreWhole m
whole_of m each = record { ids = λ id o there. (each id o there).0; parts = λ id. part id (get m id) refl } where
  part : (id : Id) (o : Option Object) → get m id ≡ o → IsWholeObject o
  part id None there = tt
  part id (Some o) there = (each id o there).1
