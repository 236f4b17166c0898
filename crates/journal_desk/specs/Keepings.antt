-- How a desk goes on.
--     Continues ..          from a desk to the same desk later: what was kept stays kept
--     IsUpTo ..             the note is what the callers' side has seen
--     SettlesFirst ..       what comes of a batch that was pending before a turn
--     MayRefuseTurn ..      why a turn may be refused
--     AreItsKeepings ..     the keepings of a history are the desk's
--     keeping_of ..         the item of a turn
use Rattle.std.specs.Prelude.{◌≡◌, ◌⊎◌, ℕ, ◌+◌, ◌<◌, ◌≤◌, List, [], Option, Some, None, Result, Ok, Err, IsErr}
use Rattle.edge_traits.specs.Causes.{Rose}
use Rattle.edge_traits.specs.declared.disk.Disk.{Ghosts}
use Rattle.flush_journal.specs.Frames.{need_of}
use Rattle.flush_journal.specs.Records.{Record}
use Rattle.flush_journal.specs.Unchanged.{SameDisk}
use Rattle.flush_journal.specs.declared.why.Why.{Why}
use Rattle.flush_journal.specs.declared.why.Why.TheVariants.{DiskFault, NotAJournal, JournalFull, Exists, NoMemory}
use Rattle.lane_histories.specs.Histories.{History, IsIn}
use Rattle.lane_histories.specs.declared.items.Reach.{Reach}
use Rattle.lane_histories.specs.declared.items.Answer.{Answer}
use Rattle.lane_histories.specs.declared.items.Answer.TheVariants.{Kept, Refused}
use Rattle.lane_histories.specs.declared.items.Keeping.{Keeping}
use Rattle.lane_histories.specs.Legal.{IsPrefix}
use Rattle.lane_histories.specs.KeptContents.{IsAsFar}
use Rattle.journal_desk.specs.Standing.{Standing}
use Rattle.journal_desk.specs.Notes.{AreAlike, NoteOf, at_lanes}
use Rattle.journal_desk.specs.Desks.{HoldSince}
use Rattle.journal_desk.specs.declared.note.Note.{Ghosts as Notes}

-- nothing is pending or building, and what is kept reaches as far as the cuts, since now
pub record IsAllKept {D N : Type 0} (d : Standing D N) : Type 0 where
  pub settled : d.pending ≡ None
  pub built : d.building ≡ []
  pub kept : d.kept ≡ d.cut
  pub at : d.at ≡ d.disk

-- the note is what the callers' side has seen, over as many lanes
pub record IsUpTo {D N : Type 0} (notes : Notes N) (d : Standing D N) (lanes : ℕ) (seen : N) : Type 0 where
  pub lanes_are : lanes ≡ d.lanes
  pub alike : AreAlike (at_lanes notes d.lanes) d.note seen

-- the journal stayed
pub record SameJournal {D N : Type 0} (old new : Standing D N) : Type 0 where
  pub disk : new.disk ≡ old.disk
  pub end : new.end ≡ old.end
  pub pending : new.pending ≡ old.pending
  pub kept : new.kept ≡ old.kept
  pub at : new.at ≡ old.at
  pub since : new.since ≡ old.since

-- how many bytes a batch needs that is pending, 0 where none is
abbrev pub owed_by : Option (List Record) → ℕ
owed_by None = 0
owed_by (Some rs) = need_of rs

-- what was pending still is, behind the same end, with nothing cut behind it
pub record StaysOwed {D N : Type 0} (old new : Standing D N) : Type 0 where
  pub pending : new.pending ≡ old.pending
  pub end : new.end ≡ old.end
  pub cut : new.cut ≡ old.cut
  pub kept : new.kept ≡ old.kept

-- A batch that is pending is written before all else. It is refused and stays, or what it reaches is kept; where it doesn't fit behind
-- the journal's end, it stays.
pub record SettlesFirst {D N T : Type 0} (met : Ghosts D) (old new : Standing D N) (result : Result T Why) : Type 0 where
  pub settled : (rs : List Record) → old.pending ≡ Some rs → (IsErr result × StaysOwed old new) ⊎ IsAsFar old.cut new.kept
  pub full : (rs : List Record) → old.pending ≡ Some rs → met.most old.disk < old.end + need_of rs → IsErr result × StaysOwed old new

module _ {D N : Type 0} (met : Ghosts D) (notes : NoteOf N) where
  -- the note's lists
  abbrev pub lists : Standing D N → History notes.kept.service
  lists d = notes.history d.note

  -- what a crash since a moment leaves is kept from them, at least as far as these numbers
  abbrev pub HasKept : Standing D N → ℕ → Reach → Type 0
  HasKept d moment own = HoldSince met notes.kept (notes.start d.note) (lists d) d.disk moment own

  pub record Continues (old new : Standing D N) : Type 0 where
    pub lanes : new.lanes ≡ old.lanes
    pub start : notes.start new.note ≡ notes.start old.note
    pub longer : IsPrefix (lists old) (lists new)
    pub disk : SameDisk met old.disk new.disk
    pub own : IsAsFar old.kept new.kept
    -- that was reached no earlier
    pub reached : met.honest → met.moment old.at ≤ met.moment new.at
    -- what was kept since an earlier moment still is
    pub lasts : met.honest → (moment : ℕ) (own : Reach) → moment ≤ met.moment old.disk → IsAsFar own old.kept
        → HasKept old moment own → HasKept new moment own

  -- of the keepings in these lists that were answered Ok each is in the note, or is the desk's last
  abbrev pub AreItsKeepings : Standing D N → History notes.kept.service → Type 0
  AreItsKeepings d h = (i : Keeping) → IsIn h.keepings i → i.answer ≡ Kept
      → IsIn (lists d).keepings i ⊎ ((i.own ≡ d.kept) × (i.moment ≡ met.moment d.at))

abbrev pub answer_of : {T : Type 0} → Result T Why → Answer
answer_of (Ok x) = Kept
answer_of (Err why) = Refused

module _ {D N : Type 0} (met : Ghosts D) where
  -- By a fault only where the disk's count rose, for want of room only where what is pending then doesn't fit, and for want of memory only
  -- where nothing is pending then.
  abbrev pub MayRefuseTurn : Standing D N → Standing D N → Why → Type 0
  MayRefuseTurn old new DiskFault = Rose (met.faults old.disk) (met.faults new.disk)
  MayRefuseTurn old new (JournalFull end need room) =
      (rs : List Record) × (new.pending ≡ Some rs) × (end ≡ new.end) × (need ≡ need_of rs) × (room ≡ met.most new.disk)
      × (room < end + need)
  MayRefuseTurn old new NoMemory = new.pending ≡ None
  MayRefuseTurn old new (NotAJournal at) = ⊥
  MayRefuseTurn old new Exists = ⊥

  -- and where what is pending then doesn't fit, it is refused so
  abbrev pub IsFullWhere : {T : Type 0} → Standing D N → Result T Why → Type 0
  IsFullWhere new result = (rs : List Record) → new.pending ≡ Some rs → met.most new.disk < new.end + need_of rs
      → result ≡ Err (JournalFull new.end (need_of rs) (met.most new.disk))

  -- the item of the keepings' list
  abbrev pub keeping_of : {T : Type 0} → Standing D N → Standing D N → Result T Why → Keeping
  keeping_of old new result = record {
    cut = new.cut;
    own = new.kept;
    answer = answer_of result;
    faults_before = met.faults old.disk;
    faults_after = met.faults new.disk;
    moment = met.moment new.disk;
    end = new.end;
    owed = owed_by new.pending;
  }
