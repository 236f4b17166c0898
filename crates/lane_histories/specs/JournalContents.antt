-- What a journal's content tells of the catalogue and of each lane, and what a cut does to it.
--     JournalContents    contents, and what they tell
--     TellsAll j x w     the content tells this world
--     CutsLane ..        with what was cut of a lane it tells the lane as it stands
--     TellsCuts ..       it tells each lane, and the catalogue, as they were at their last cuts
use Rattle.std.specs.Prelude.{◌≡◌, ◌≢◌, ℕ, ◌<◌, Bool, false}
use Rattle.lane_histories.specs.Services.{Service, World}
use Rattle.lane_histories.specs.Histories.{History, register_at}
use Rattle.lane_histories.specs.Kept.{ToldWorld}
use Rattle.lane_histories.specs.Cuts.{objects_at_cut, register_cut}

pub record JournalContents (s : Service) : Type 1 where
  pub Content : Type 0
  pub TellsCatalogue : Content → s.Catalogue → Type 0
  pub TellsLane : Content → ℕ → s.Objects → Type 0

pub record TellsAll {s : Service} (j : JournalContents s) (x : j.Content) (w : ToldWorld s) : Type 0 where
  pub catalogue : j.TellsCatalogue x w.catalogue
  pub lanes : (l : ℕ) → l < s.lanes → j.TellsLane x l (w.objects l)

-- ---- from a content to one with the records of a cut

abbrev pub KeepsCatalogue : {s : Service} (j : JournalContents s) → j.Content → j.Content → Type 0
KeepsCatalogue {s} j old new = (catalogue : s.Catalogue) → j.TellsCatalogue old catalogue → j.TellsCatalogue new catalogue

abbrev pub KeepsLane : {s : Service} (j : JournalContents s) → ℕ → j.Content → j.Content → Type 0
KeepsLane {s} j l old new = (o : s.Objects) → j.TellsLane old l o → j.TellsLane new l o

-- the lane is told as it stands, and all else as before
pub record CutsLane {s : Service} (j : JournalContents s) (l : ℕ) (o : s.Objects) (old new : j.Content) : Type 0 where
  pub own : j.TellsLane new l o
  pub others : (m : ℕ) → m ≢ l → KeepsLane j m old new
  pub catalogue : KeepsCatalogue j old new

-- memory was wanting: all else is told as before; of the lane some may have been cut, and then it is torn
pub record TearsLane {s : Service} (j : JournalContents s) (l : ℕ) (torn : Bool) (old new : j.Content) : Type 0 where
  pub own : torn ≡ false → KeepsLane j l old new
  pub others : (m : ℕ) → m ≢ l → KeepsLane j m old new
  pub catalogue : KeepsCatalogue j old new

pub record CutsCatalogue {s : Service} (j : JournalContents s) (catalogue : s.Catalogue) (old new : j.Content) : Type 0 where
  pub own : j.TellsCatalogue new catalogue
  pub lanes : (l : ℕ) → KeepsLane j l old new

abbrev pub TearsCatalogue : {s : Service} (j : JournalContents s) → j.Content → j.Content → Type 0
TearsCatalogue j old new = (l : ℕ) → KeepsLane j l old new

-- ---- all that was cut

pub record TellsCuts (s : Service) (j : JournalContents s) (start : World s) (h : History s) (x : j.Content) : Type 0 where
  pub lanes : (l : ℕ) → l < s.lanes → j.TellsLane x l (objects_at_cut s (start.objects l) (h.lane l))
  pub catalogue : j.TellsCatalogue x (s.catalogue (register_at s (register_cut h.register) start.register h.register))
