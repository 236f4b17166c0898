-- A register, its lanes and a journal's desk, event by event.
--     Core                            the lists so far, the register, each lane, and the desk
--     Event                           what may happen next
--     Happens event old new           it is enabled, and leaves this
--     Runs events old new             one event after another
--     IsOpened start core             as it is at the opening
use Rattle.std.specs.Prelude.{◌≡◌, ℕ, ◌<◌, Bool, true, false, List, [], ◌∷◌, ◌++◌, Some, None}
use Rattle.lane_histories.specs.Services.{Service, World}
use Rattle.lane_histories.specs.Histories.{RegisterItem, Entered, DrawnCut, RegisterCut, Part, part_of, cut_of, Outcome, LaneItem, Passed, WasCut, LaneList, RegisterList, Reach, Keeping, History, places, drawn, objects_left, changed_at}
use Rattle.lane_histories.specs.Legal.{IsNext, IsReached, IsLegalOutcome}
use Rattle.lane_histories.specs.Cuts.{IsCutTo, NoCutIsOut, last_cut}
use Rattle.lane_histories.specs.JournalContents.{CutsCatalogue, CutsLane, JournalContents, TearsCatalogue, TearsLane, TellsAll}
use Rattle.lane_histories.specs.Desks.{Desk, answer_of, appended, nowhere}

-- ---- states

-- the register's list and each lane's; the register; each lane's objects, and whether what was cut of it is of no worth, since
-- memory ran out half way; the desk, and the list of its keepings
pub record Core (s : Service) (j : JournalContents s) : Type 0 where
  pub list : RegisterList s
  pub items : ℕ → LaneList s
  pub register : s.Register
  pub objects : ℕ → s.Objects
  pub torn : ℕ → Bool
  pub desk : Desk s j
  pub keepings : List Keeping
  pub crashed : Bool

abbrev pub history : {s : Service} {j : JournalContents s} → Core s j → History s
history core = record { register = core.list; lane = core.items; keepings = core.keepings }

-- nothing is pending, and no cut is under way
pub record IsIdle {s : Service} {j : JournalContents s} (core : Core s j) : Type 0 where
  pub settled : core.desk.pending ≡ None
  pub cuts : NoCutIsOut s (history core)

-- ---- events

pub data Event (s : Service) : Type 0 where
  -- a pass asked, and got this verdict
  asks : ℕ → s.Asked → s.Verdict → Event s
  draws_cut : Event s
  -- whether it found memory
  cuts_register : Bool → Event s
  -- the lane's next ticket, for a part of an entry, with what came of it; or for a cut, with whether it found memory
  takes_turn : ℕ → Outcome s.Reply → Event s
  cuts_lane : ℕ → Bool → Event s
  -- whether it was answered Ok; the disk's counts of faults before and after, and the moment
  appends : Bool → ℕ → ℕ → ℕ → Event s
  settles : Bool → ℕ → ℕ → ℕ → Event s
  crashes : Event s

-- ---- what an event leaves

abbrev pub with_item : {s : Service} {j : JournalContents s} → Core s j → RegisterItem s.Asked s.Verdict → s.Register → Core s j
with_item core item register = record core { list = core.list ++ item ∷ []; register = register }

abbrev pub entry : {s : Service} {j : JournalContents s} → Core s j → ℕ → s.Asked → s.Verdict → RegisterItem s.Asked s.Verdict
entry core by asked verdict = Entered (record { place = places core.list; by = by; asked = asked; verdict = verdict })

abbrev pub with_lane : {s : Service} {j : JournalContents s} → Core s j → ℕ → LaneItem s.Task s.Reply → s.Objects → Bool → Core s j
with_lane core l item objects torn = record core {
  items = changed_at l (core.items l ++ item ∷ []) core.items;
  objects = changed_at l objects core.objects;
  torn = changed_at l torn core.torn;
}

abbrev pub with_built : {s : Service} {j : JournalContents s} → Core s j → j.Content → Core s j
with_built core built = record core { desk = record core.desk { built = built } }

abbrev pub with_desk : {s : Service} {j : JournalContents s} → Core s j → Bool → j.Content × Reach → ℕ → ℕ → ℕ → ℕ → ℕ → Core s j
with_desk core ok batch before after moment end owed = let desk = appended ok batch core.desk in record core {
  desk = desk;
  keepings =
      core.keepings
      ++ record {
        cut = batch.1;
        own = desk.own;
        answer = answer_of ok;
        faults_before = before;
        faults_after = after;
        moment = moment;
        end = end;
        owed = owed;
      }
      ∷ [];
}

-- ---- turns of lanes

pub record TakesTurn {s : Service} {j : JournalContents s} (l : ℕ) (y : Outcome s.Reply) (old new : Core s j) : Type 0 where
  pub place : ℕ
  pub part : Part
  pub task : s.Task
  pub next : IsNext s (history old) l (part_of place part task)
  pub reached : IsReached s (history old) place part y
  pub legal : IsLegalOutcome s (old.objects l) part task y
  pub new_is : new ≡ with_lane old l (Passed place part task y) (objects_left s task y (old.objects l)) (old.torn l)

pub record CutsLaneWell {s : Service} {j : JournalContents s} (l : ℕ) (old new : Core s j) : Type 0 where
  pub number : ℕ
  pub c : ℕ
  pub next : IsNext s (history old) l (cut_of number c)
  pub built : j.Content
  pub cuts : CutsLane j l (old.objects l) old.desk.built built
  pub new_is : new ≡ with_built (with_lane old l (WasCut number c true) (old.objects l) false) built

pub record CutsLaneShort {s : Service} {j : JournalContents s} (l : ℕ) (old new : Core s j) : Type 0 where
  pub number : ℕ
  pub c : ℕ
  pub next : IsNext s (history old) l (cut_of number c)
  pub built : j.Content
  pub torn : Bool
  pub tears : TearsLane j l torn old.desk.built built
  -- what was of no worth before stays so
  pub stays : torn ≡ false → old.torn l ≡ false
  pub new_is : new ≡ with_built (with_lane old l (WasCut number c false) (old.objects l) torn) built

abbrev pub CutsInLane : {s : Service} {j : JournalContents s} → ℕ → Bool → Core s j → Core s j → Type 0
CutsInLane l true old new = CutsLaneWell l old new
CutsInLane l false old new = CutsLaneShort l old new

-- ---- cuts of the register

abbrev pub CutsRegister : {s : Service} {j : JournalContents s} → Bool → Core s j → Core s j → Type 0
CutsRegister {s} {j} true old new =
    (built : j.Content) × CutsCatalogue j (s.catalogue old.register) old.desk.built built
    × (new ≡ with_built (with_item old (RegisterCut (places old.list) true) (s.recorded true old.register)) built)
CutsRegister {s} {j} false old new =
    (built : j.Content) × TearsCatalogue j old.desk.built built
    × (new ≡ with_built (with_item old (RegisterCut (places old.list) false) (s.recorded false old.register)) built)

-- ---- turns of the desk

-- the batch is all that was cut; it reaches as far as the last whole cut and the last register cut
pub record Appends {s : Service} {j : JournalContents s} (ok : Bool) (before after moment : ℕ) (old new : Core s j) : Type 0 where
  pub idle : IsIdle old
  pub reach : Reach
  pub cut : IsCutTo s (history old) reach.c
  pub register : last_cut None old.list ≡ Some reach.p
  -- no lane's part is of no worth
  pub whole : (l : ℕ) → l < s.lanes → old.torn l ≡ false
  -- no content tells its bytes
  pub end : ℕ
  pub owed : ℕ
  pub new_is : new ≡ with_desk old ok (old.desk.built, reach) before after moment end owed

pub record Settles {s : Service} {j : JournalContents s} (ok : Bool) (before after moment : ℕ) (old new : Core s j) : Type 0 where
  pub batch : j.Content × Reach
  pub pending : old.desk.pending ≡ Some batch
  pub end : ℕ
  pub owed : ℕ
  pub new_is : new ≡ with_desk old ok batch before after moment end owed

-- ---- any event

-- it may come now, and leaves this
abbrev pub Leads : {s : Service} {j : JournalContents s} → Event s → Core s j → Core s j → Type 0
Leads {s} (asks by asked verdict) old new =
    s.MayAnswer old.register asked verdict × (new ≡ with_item old (entry old by asked verdict) (s.decided old.register asked verdict))
Leads {s} draws_cut old new = IsIdle old × (new ≡ with_item old (DrawnCut (drawn old.list) (places old.list)) (s.drawn old.register))
Leads (cuts_register found) old new = IsIdle old × CutsRegister found old new
Leads (takes_turn l outcome) old new = TakesTurn l outcome old new
Leads (cuts_lane l found) old new = CutsInLane l found old new
Leads (appends ok before after moment) old new = Appends ok before after moment old new
Leads (settles ok before after moment) old new = Settles ok before after moment old new
Leads crashes old new = new ≡ record old { crashed = true }

-- nothing happens after a crash
abbrev pub Happens : {s : Service} {j : JournalContents s} → Event s → Core s j → Core s j → Type 0
Happens event old new = (old.crashed ≡ false) × Leads event old new

abbrev pub Runs : {s : Service} {j : JournalContents s} → List (Event s) → Core s j → Core s j → Type 0
Runs [] old new = old ≡ new
Runs {s} {j} (e ∷ es) old new = (mid : Core s j) × Happens e old mid × Runs es mid new

-- ---- the opening

-- no list has an item, and the disk holds the world
pub record IsOpened {s : Service} {j : JournalContents s} (start : World s) (core : Core s j) : Type 0 where
  pub list : core.list ≡ []
  pub register : core.register ≡ start.register
  pub items : (l : ℕ) → core.items l ≡ []
  pub objects : (l : ℕ) → core.objects l ≡ start.objects l
  pub torn : (l : ℕ) → core.torn l ≡ false
  pub keepings : core.keepings ≡ []
  pub own : core.desk.own ≡ nowhere
  pub pending : core.desk.pending ≡ None
  pub built : core.desk.built ≡ core.desk.held
  pub held : TellsAll j core.desk.held (record { catalogue = s.catalogue start.register; objects = start.objects })
