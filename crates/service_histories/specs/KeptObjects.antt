-- What is kept of the objects of a lane.
--     StandsAsLeft c kept left id     what stands at an id is what the lane left there
--     KeptObjectsStand                so it does in each world that is kept
use Rattle.std.specs.Prelude.{◌≡◌, ℕ, ◌<◌, List, Some, take}
use Rattle.std.specs.FinMap.{get}
use Rattle.domains.specs.Contents.{Contents, IsDomainAt}
use Rattle.object_acts.specs.Objects.{Objects}
use Rattle.object_acts.specs.declared.objects.Object.{Object}
use Rattle.object_ids.specs.IdValues.{Id}
use Rattle.lane_histories.specs.Histories.{History, objects_after}
use Rattle.lane_histories.specs.Kept.{IsKept, ToldWorld}
use Rattle.lane_histories.specs.Services.{World}
use Rattle.lane_histories.specs.declared.items.Reach.{Reach}
use Rattle.service_histories.specs.ArrayServices.{array_service}

-- the same where the id's domain stands in the catalogue; and no other object anywhere
pub record StandsAsLeft (c : Contents) (kept left : Objects) (id : Id) : Type 0 where
  pub of_domain : (path : List ℕ) (root : Id) → IsDomainAt c path id.domain root → get kept id ≡ get left id
  pub no_other : (o : Object) → get kept id ≡ Some o → get left id ≡ Some o

abbrev pub KeptObjectsStand : ℕ → Type 0
KeptObjectsStand lanes =
    (start : World (array_service lanes)) (h : History (array_service lanes)) (w : ToldWorld (array_service lanes)) (reach : Reach)
    → (kept : IsKept (array_service lanes) start h w reach) → (l : ℕ) → l < lanes → (id : Id)
    → StandsAsLeft w.catalogue.contents (w.objects l) (objects_after (array_service lanes) (start.objects l) (take (kept.k l) (h.lane l))) id
