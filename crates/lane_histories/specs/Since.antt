-- What a lane knows by itself of what a journal holds.
--     Marking                  a lane's objects with marks on what a journal may not hold yet
--     IsSince m l last marked  every content that says the lane as it was at its last cut says it now, but for what is marked
--     CutsTell m               so a cut, which writes what is marked, makes a content tell the lane as it stands
--     SaysCuts m .. x was      a content says each lane, and tells the catalogue, as they were at their last cuts
use Rattle.std.specs.Prelude.{◌≡◌, ℕ, ◌<◌}
use Rattle.lane_histories.specs.Services.{Service, World}
use Rattle.lane_histories.specs.Histories.{History, register_at}
use Rattle.lane_histories.specs.Legal.{IsLegal}
use Rattle.lane_histories.specs.Cuts.{GoesOn, objects_at_cut, register_cut}
use Rattle.lane_histories.specs.JournalContents.{JournalContents, TellsCuts}

pub record Marking (s : Service) (j : JournalContents s) : Type 1 where
  -- the objects, with marks, and with whatever else a lane knows of its records
  pub Marked : Type 0
  pub objects : Marked → s.Objects
  -- a content says the objects, but for what is marked; and nothing is marked
  pub Says : j.Content → ℕ → Marked → Type 0
  pub IsStill : Marked → Type 0

-- where nothing is marked, what is said is told
abbrev pub SaysAll : {s : Service} {j : JournalContents s} → Marking s j → Type 0
SaysAll {s} {j} m = (x : j.Content) (l : ℕ) (marked : m.Marked) → m.IsStill marked → m.Says x l marked → j.TellsLane x l (m.objects marked)

module _ {s : Service} {j : JournalContents s} (marking : Marking s j) where
  -- the lane was so at its last cut. A content may tell the same objects by other records, of which the lane knows nothing, so its
  -- objects alone don't do here
  abbrev pub IsSince : ℕ → marking.Marked → marking.Marked → Type 0
  IsSince l last m = (x : j.Content) → marking.Says x l last → marking.Says x l m

  -- what was changed is marked
  abbrev pub Marks : ℕ → marking.Marked → marking.Marked → Type 0
  Marks l old new = (x : j.Content) → marking.Says x l old → marking.Says x l new

  -- a cut in a lane, with what was cut before and after
  pub record CutsMarked (l : ℕ) (old new : marking.Marked) (before after : j.Content) : Type 0 where
    pub still : marking.IsStill new
    pub objects : marking.objects new ≡ marking.objects old
    pub says : marking.Says before l old → marking.Says after l new

  -- what was cut tells the lane as it stands, and the lane is since this cut
  pub record IsCutTold (l : ℕ) (old new : marking.Marked) (after : j.Content) : Type 0 where
    pub told : j.TellsLane after l (marking.objects old)
    pub says : marking.Says after l new
    pub since : IsSince l new new

  -- a content says a lane of which nothing is marked as another one did
  abbrev pub KeepsSaid : ℕ → j.Content → j.Content → Type 0
  KeepsSaid l old new = (marked : marking.Marked) → marking.IsStill marked → marking.Says old l marked → marking.Says new l marked

  -- the lanes as they were at their last cuts that found memory, when nothing was marked; the catalogue as it was at its own
  pub record SaysCuts (start : World s) (h : History s) (x : j.Content) (was : ℕ → marking.Marked) : Type 0 where
    pub says : (l : ℕ) → l < s.lanes → marking.Says x l (was l)
    pub still : (l : ℕ) → l < s.lanes → marking.IsStill (was l)
    pub objects : (l : ℕ) → l < s.lanes → marking.objects (was l) ≡ objects_at_cut s (start.objects l) (h.lane l)
    pub catalogue : j.TellsCatalogue x (s.catalogue (register_at s (register_cut h.register) start.register h.register))

-- a lane is since itself
abbrev pub LanesAreSinceThemselves : {s : Service} {j : JournalContents s} → Marking s j → Type 0
LanesAreSinceThemselves m = (l : ℕ) (marked : m.Marked) → IsSince m l marked marked

-- a change that is marked leaves what the lane is since
abbrev pub TurnsStaySince : {s : Service} {j : JournalContents s} → Marking s j → Type 0
TurnsStaySince m = (l : ℕ) (last old new : m.Marked) → IsSince m l last old → Marks m l old new → IsSince m l last new

-- where what was cut says the lane as it was at its last cut, it tells it as it stands after this one
abbrev pub CutsTell : {s : Service} {j : JournalContents s} → Marking s j → Type 0
CutsTell {s} {j} m =
    SaysAll m → (l : ℕ) (last old new : m.Marked) (before after : j.Content)
    → IsSince m l last old → m.Says before l last → CutsMarked m l old new before after → IsCutTold m l old new after

-- what says all cuts tells them
abbrev pub SaidCutsTell : {s : Service} {j : JournalContents s} → Marking s j → Type 0
SaidCutsTell {s} {j} m =
    SaysAll m → (start : World s) (h : History s) (x : j.Content) (was : ℕ → m.Marked)
    → SaysCuts m start h x was → TellsCuts s j start h x

-- it says them still as requests and turns come, and no cut
abbrev pub CutsStaySaid : {s : Service} {j : JournalContents s} → Marking s j → Type 0
CutsStaySaid {s} {j} m =
    (start : World s) (h g : History s) (x : j.Content) (was : ℕ → m.Marked) → IsLegal s start h → GoesOn h g
    → SaysCuts m start h x was → SaysCuts m start g x was
