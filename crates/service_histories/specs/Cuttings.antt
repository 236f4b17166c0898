-- What cuts of an owner and of the register do to what is held.
--     OwnersMark           a change that leaves what is said of each id is marked
--     IsOwnerSince         each change of an owner since it was so is marked
--     MarksOnly task ..    a turn that is done marks what it changes, and nothing else
--     AreMarkedBy items .. all that is marked was so by these items of the lane
--     IsOwnerMarked ..     each change by these items since an owner was so is marked, and nothing else
--     WritesMarked ..      a cut writes only what such an owner has marked
--     OwnerCutsTell        a cut of an owner makes what was cut tell its lane as it stands, and leaves all else
--     RegisterCutsTell     so does one of the register
--     SaidCutsAreTold      what says each owner as it was at its last cut tells all cuts
use Rattle.std.specs.Prelude.{◌≡◌, ◌≢◌, ℕ, List, [], ◌∷◌, ◌++◌}
use Rattle.std.specs.FinMap.{get}
use Rattle.std.specs.List.{AllByRecursion}
use Rattle.flush_journal.specs.Cuts.Cuts.{IsCut}
use Rattle.flush_journal.specs.Records.{Held, Record, put_all}
use Rattle.object_ids.specs.IdValues.{Id}
use Rattle.object_ids.specs.Ids.{InRange}
use Rattle.chunk_owner.specs.Lanes.{IsSameLane, Lane}
use Rattle.chunk_owner.specs.Marks.{IsStepMark}
use Rattle.chunk_owner.specs.Slots.Marking.{AddsMarks, IsToForget}
use Rattle.chunk_owner.specs.Slots.Slots.{AreStill, IsMarked, Says, StillSays}
use Rattle.object_ops.specs.declared.replies.Reply.{Reply}
use Rattle.register.specs.Decided.{RegisterState}
use Rattle.register.specs.Installed.Registers.{DescribesRegister}
use Rattle.register.specs.Kept.{IsRegisterMarked, RegisterSays, all_kept}
use Rattle.register.specs.Marks.{no_marks}
use Rattle.lane_histories.specs.Histories.{History, LaneList, objects_step}
use Rattle.lane_histories.specs.declared.items.LaneItem.{LaneItem}
use Rattle.lane_histories.specs.declared.items.LaneItem.TheVariants.{Passed, WasCut}
use Rattle.lane_histories.specs.declared.items.Outcome.{Outcome}
use Rattle.lane_histories.specs.declared.items.Outcome.TheVariants.{Done, Short, Skipped}
use Rattle.lane_histories.specs.Services.{World}
use Rattle.lane_histories.specs.JournalContents.{CutsCatalogue, CutsLane, TellsCuts}
use Rattle.lane_histories.specs.Since.{IsSince, KeepsSaid, Marks, SaysCuts}
use Rattle.service_histories.specs.ArrayServices.{KeptPart, array_service, kept_part}
use Rattle.service_histories.specs.JournalParts.{IsKeptPart, TellsRegister, array_contents, kept_register}
use Rattle.service_histories.specs.Markings.{IsOwner, IsStillOwner, SaysOwner, array_marking}
use Rattle.service_histories.specs.declared.tasks.Task.{Task}
use Rattle.service_histories.specs.declared.tasks.Task.TheVariants.{DropsDomain, TakesStep}

-- ---- owners

abbrev pub OwnersMark : ℕ → Type 0
OwnersMark lanes =
    (l : ℕ) (old new : Lane) → IsSameLane old new → StillSays old.slots new.slots → Marks (array_marking lanes) l old new

-- it is the owner of this lane, of so many, as it was when nothing of it was marked; each change since is marked
pub record IsOwnerSince (lanes l : ℕ) (was now : Lane) : Type 0 where
  pub lane_is : now.lane ≡ l
  pub lanes_are : now.lanes ≡ lanes
  pub same : IsSameLane was now
  pub still : AreStill was.slots
  pub since : IsSince (array_marking lanes) l was now

-- what the turn changes alone is marked beside what was; and nothing, where it found no memory or was skipped
abbrev pub MarksOnly : Task → Outcome Reply → Lane → Lane → Type 0
MarksOnly (TakesStep g op step) (Done reply) old new = AddsMarks (IsStepMark g op step old.slots) old.slots new.slots
MarksOnly (DropsDomain number) (Done reply) old new = AddsMarks (IsToForget number (get old.slots)) old.slots new.slots
MarksOnly task Short old new = AddsMarks (λ key. ⊥) old.slots new.slots
MarksOnly task Skipped old new = AddsMarks (λ key. ⊥) old.slots new.slots

-- nor by a cut
abbrev pub MarksNoMore : LaneItem Task Reply → Lane → Lane → Type 0
MarksNoMore (Passed place part task y) old new = MarksOnly task y old new
MarksNoMore (WasCut number c found) old new = AddsMarks (λ key. ⊥) old.slots new.slots

-- the lane was so, and these items left it with these objects and marks, one after another
pub data AreMarkedBy (lanes : ℕ) (was : Lane) : LaneList (array_service lanes) → Lane → Type 0 where
  no_item : AreMarkedBy lanes was [] was
  then_item : (items : LaneList (array_service lanes)) (i : LaneItem Task Reply) (old new : Lane) → AreMarkedBy lanes was items old
      → new.objects ≡ objects_step (array_service lanes) old.objects i → MarksNoMore i old new
      → AreMarkedBy lanes was (items ++ i ∷ []) new

pub record IsOwnerMarked (lanes l : ℕ) (items : LaneList (array_service lanes)) (was now : Lane) : Type 0 where
  pub owner : IsOwnerSince lanes l was now
  pub alone : AreMarkedBy lanes was items now

-- a cut of an owner that found memory
pub record CutsOwner (old new : Lane) (base : Held) (first last : List Record) : Type 0 where
  pub cut : IsCut (IsMarked old.slots) base first last
      (λ held. (id : Id) → InRange id → Says (get old.slots id) id base → Says (get new.slots id) id held)
  pub owner : IsOwner old
  pub still : IsStillOwner new
  pub objects : new.objects ≡ old.objects
  pub same : IsSameLane old new

-- these records are of keys that the owner had marked by these items since it was so, when it was cut and came to be so
pub record WritesMarked (lanes l : ℕ) (items : LaneList (array_service lanes)) (was new : Lane) (added : List Record) : Type 0 where
  pub old : Lane
  pub since : IsOwnerMarked lanes l items was old
  pub objects : new.objects ≡ old.objects
  pub changed : AllByRecursion (λ r. IsMarked old.slots r.0) added

-- with its records, what was cut tells the lane, the owner is since this cut, and each other owner is said as before
pub record IsOwnerCut (lanes l : ℕ) (old new : Lane) (base held : Held) : Type 0 where
  pub cuts : CutsLane (array_contents lanes) l old.objects base held
  pub says : SaysOwner lanes l held new
  pub others : (m : ℕ) → m ≢ l → KeepsSaid (array_marking lanes) m base held

abbrev pub OwnerCutsTell : ℕ → Type 0
OwnerCutsTell lanes =
    (l : ℕ) (was old new : Lane) (base : Held) (first last : List Record)
    → (cuts : CutsOwner old new base first last) → SaysOwner lanes l base was → IsSince (array_marking lanes) l was old
    → IsOwnerCut lanes l old new base (put_all cuts.cut.added base)

-- ---- the register

-- at its last cut the register kept this; each change since is marked
abbrev pub IsRegisterSince : KeptPart → RegisterState → Type 0
IsRegisterSince c d = (held : Held) → RegisterSays (kept_register c) held → RegisterSays d held

-- a cut of the register that found memory
pub record CutsRegister (old new : RegisterState) (base : Held) (first last : List Record) : Type 0 where
  pub cut : IsCut (IsRegisterMarked old) base first last (λ held. RegisterSays old base → RegisterSays new held)
  pub sound : IsKeptPart (kept_part old)
  pub still : new ≡ all_kept old

pub record IsRegisterCut (lanes : ℕ) (old new : RegisterState) (base held : Held) : Type 0 where
  pub cuts : CutsCatalogue (array_contents lanes) (kept_part old) base held
  pub since : IsRegisterSince (kept_part old) new
  pub owners : (m : ℕ) → KeepsSaid (array_marking lanes) m base held

abbrev pub RegisterCutsTell : ℕ → Type 0
RegisterCutsTell lanes =
    (c : KeptPart) (old new : RegisterState) (base : Held) (first last : List Record)
    → (cuts : CutsRegister old new base first last) → TellsRegister base c → IsRegisterSince c old
    → IsRegisterCut lanes old new base (put_all cuts.cut.added base)

-- where nothing of a register is marked, and what holds its records describes it, it does so of what a journal keeps of it
abbrev pub KeptRegistersAreParts : Type 0
KeptRegistersAreParts =
    (d : RegisterState) → d.marks ≡ no_marks → ((held : Held) → RegisterSays d held → DescribesRegister held d.run d.catalogue)
    → IsKeptPart (kept_part d)

-- ---- all that was cut

-- what says each owner, and tells the register, as they were at their last cuts
abbrev pub SaidCutsAreTold : ℕ → Type 0
SaidCutsAreTold lanes =
    (start : World (array_service lanes)) (h : History (array_service lanes)) (held : Held) (was : ℕ → Lane)
    → SaysCuts (array_marking lanes) start h held was → TellsCuts (array_service lanes) (array_contents lanes) start h held
