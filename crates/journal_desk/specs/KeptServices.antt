-- A service whose world a journal keeps, by the bodies that it holds.
--     KeptService     the service, what bodies tell of it, how its lanes mark what changed, and what cuts write of that
--     contents k      the bodies, as the contents of a journal
use Rattle.std.specs.Prelude.{ℕ, List}
use Rattle.flush_journal.specs.Records.{Held, Record}
use Rattle.lane_histories.specs.Histories.{LaneList}
use Rattle.lane_histories.specs.JournalContents.{JournalContents}
use Rattle.lane_histories.specs.Services.{Service}
use Rattle.lane_histories.specs.Since.{Marking}

abbrev pub contents_by : (s : Service) → (Held → s.Catalogue → Type 0) → (Held → ℕ → s.Objects → Type 0) → JournalContents s
contents_by s catalogue lane = record { Content = Held; TellsCatalogue = catalogue; TellsLane = lane }

pub record KeptService : Type 1 where
  pub service : Service
  pub TellsCatalogue : Held → service.Catalogue → Type 0
  pub TellsLane : Held → ℕ → service.Objects → Type 0
  pub marking : Marking service (contents_by service TellsCatalogue TellsLane)
  -- of a lane that was so at its last cut, did these items, and is so after this cut, these are records of what the items changed alone; and so
  -- of a register that is cut
  pub ChangedInLane : ℕ → LaneList service → marking.Marked → marking.Marked → List Record → Type 0
  pub ChangedInRegister : service.Register → List Record → Type 0

abbrev pub contents : (k : KeptService) → JournalContents k.service
contents k = contents_by k.service k.TellsCatalogue k.TellsLane
