-- What a crash leaves of a journal, at any moment of any events.
--     ImagesOpen lanes     it is a journal of a world: no key is at fault
use Rattle.std.specs.Prelude.{ℕ, ◌<◌, List}
use Rattle.flush_journal.specs.Records.{Held, IsRecordMap}
use Rattle.service_core.specs.Records.{IsWorldFault}
use Rattle.lane_histories.specs.Core.{Core, Event, IsOpened, Runs}
use Rattle.lane_histories.specs.Desks.{IsImage}
use Rattle.lane_histories.specs.Services.{World}
use Rattle.service_histories.specs.ArrayServices.{array_service}
use Rattle.service_histories.specs.JournalParts.{array_contents}
use Rattle.service_histories.specs.Readies.{IsGivenIn}

-- as long as the objects of the opening were given; no body is empty, as none is of what a journal holds
abbrev pub ImagesOpen : ℕ → Type 0
ImagesOpen lanes =
    (start : World (array_service lanes)) (opened core : Core (array_service lanes) (array_contents lanes)) (events : List (Event (array_service lanes)))
    → 0 < lanes → ((l : ℕ) → IsGivenIn lanes start.register (start.objects l)) → IsOpened start opened → Runs events opened core
    → (x : Held) → IsImage x core.desk → IsRecordMap x → (key : List ℕ) → IsWorldFault lanes x key → ⊥
