-- What holds of every desk.
--     KeepingsFollow ..     the item of a turn is one that the next turn takes up
--     CutsCanCome k         from each legal history there is one to which a cut leads
--     MarkedCutsWrite k     a lane that marks what changed may be cut so
use Rattle.std.specs.Prelude.{◌≢◌, ℕ, Bool, true, List, ◌++◌, OnOk, Result}
use Rattle.edge_traits.specs.declared.disk.Disk.{Ghosts}
use Rattle.flush_journal.specs.Cuts.Cuts.{AreOnce}
use Rattle.flush_journal.specs.Records.{Held, Record, put_all}
use Rattle.flush_journal.specs.declared.why.Why.{Why}
use Rattle.lane_histories.specs.Services.{World}
use Rattle.lane_histories.specs.Histories.{History, LaneList, changed_at, cut_of, drawn, objects_after, places, register_after, register_at}
use Rattle.lane_histories.specs.Legal.{IsLegal, IsNext, SecondsFollow, with_keeping}
use Rattle.lane_histories.specs.Cuts.{behind_cut, register_cut}
use Rattle.lane_histories.specs.JournalContents.{KeepsCatalogue}
use Rattle.lane_histories.specs.Since.{CutsMarked, IsSince, KeepsSaid}
use Rattle.journal_desk.specs.KeptServices.{KeptService, contents}
use Rattle.journal_desk.specs.Standing.{Standing}
use Rattle.journal_desk.specs.Keepings.{AreItsKeepings, IsAllKept, keeping_of, lists}
use Rattle.journal_desk.specs.Cuts.{AddsRecords, CutsInLane, DrawsCut, TakesCut, TakesRegisterCut, WritesCatalogue}
use Rattle.journal_desk.specs.Notes.{NoteOf}

-- where it says Ok, its numbers are what the desk keeps, and its moment is from when on
abbrev pub KeepingsFollow : {D N : Type 0} → Ghosts D → NoteOf N → Type 0
KeepingsFollow {D} {N} met notes =
    (old new : Standing D N) (result : Result ℕ Why) → OnOk result (IsAllKept new)
    → AreItsKeepings met notes new (with_keeping (lists met notes new) (keeping_of met old new result))

pub record CutCanCome (k : KeptService) (start : World k.service) (h : History k.service) (was : ℕ → k.marking.Marked) : Type 0 where
  pub draws : (g : History k.service) × DrawsCut k.service start h g (drawn h.register) (places h.register)
  -- where the lane's next ticket is that of the cut
  pub takes : (l number c : ℕ) (found : Bool) (later : ℕ → k.marking.Marked) (old new : List Record)
      → IsNext k.service h l (cut_of number c)
      → CutsInLane k found l (behind_cut (h.lane l)) (objects_after k.service (start.objects l) (h.lane l)) was later old new
      → (g : History k.service) × TakesCut k start h g was later l number c found old new
  pub registers : (found : Bool) (old new : List Record)
      → AddsRecords found (WritesCatalogue k
      (k.service.catalogue (register_at k.service (register_cut h.register) start.register h.register))
      (register_after k.service start.register h.register)) old new
      → (g : History k.service) × TakesRegisterCut k start h g (places h.register) found old new

abbrev pub CutsCanCome : KeptService → Type 0
CutsCanCome k =
    (start : World k.service) (h : History k.service) (was : ℕ → k.marking.Marked) → IsLegal k.service start h
    → SecondsFollow k.service h.lane → CutCanCome k start h was

-- from its marks alone: a lane that is since its last cut, and whose cut writes what changed alone, one record a key, and leaves all else, is
-- cut as `Turns` says
abbrev pub MarkedCutsWrite : KeptService → Type 0
MarkedCutsWrite k =
    (l : ℕ) (items : LaneList k.service) (was : ℕ → k.marking.Marked) (old now : k.marking.Marked) (first added : List Record) → IsSince k.marking l (was l) old
    → ((x : Held) → CutsMarked k.marking l old now x (put_all added x))
    → ((x : Held) (m : ℕ) → m ≢ l → KeepsSaid k.marking m x (put_all added x))
    → ((x : Held) → KeepsCatalogue (contents k) x (put_all added x)) → AreOnce added
    → k.ChangedInLane l items (was l) now added
    → CutsInLane k true l items (k.marking.objects old) was (changed_at l now was) first (first ++ added)
