-- How links end, and what status that gives.
use Rattle.std.proofs.Common.{◌≡◌, ◌∙◌, ℕ, List, Bool, true, false, Option, Some, None, Result, Ok, Err, refl, sym}
use Rattle.std.specs.Prelude.{if◌then◌else◌}
use Rattle.std.specs.Io.KnownBytes.{Consumes}
use Rattle.flush_journal.specs.declared.why.Why.{Why}
use Rattle.flush_journal.specs.declared.why.Why.TheVariants as why
use Rattle.rest_session.specs.Links.Links.{IsTranscript, IsUncut, Step, spellings}
use Rattle.rest_session.specs.declared.halls.hiring.Report.{Report}
use Rattle.rest_session.specs.declared.links.end.LinkEnd.{LinkEnd}
use Rattle.rest_session.specs.declared.links.end.LinkEnd.TheVariants as end
use Rattle.rest_session.proofs.OfLinks.Readings.{uncut}
use Rattle.hsds_cli.specs.declared.status.Status.{Status}
use Rattle.hsds_cli.specs.declared.status.Status.TheVariants.{Done, DiskFault, DoorFault, InputCut, ReadFault, WriteFault, UsedUp, Budget, NoMemory}
use Rattle.hsds_cli.specs.Completeness.{IsWholeInput}
use Rattle.hsds_cli.specs.Openings.{status_after, status_of}
use Rattle.hsds_cli.specs.Serves.{reports_status, some_budget, some_failed}

-- a link of whole messages isn't cut
pub uncut_over : {W : Type 0} (step : Step W) (u v : W) (from to : Option (List ℕ)) (taken sent : List ℕ) (end : LinkEnd) → IsWholeInput from → Consumes from to taken
    → IsTranscript step u taken sent to v end → IsUncut end
uncut_over step u v from to taken sent end whole consumed t = by_left from to whole.told consumed t where
  by_left : (from to : Option (List ℕ)) → from ≡ Some (spellings whole.messages) → Consumes from to taken → IsTranscript step u taken sent to v end → IsUncut end
  by_left None to told consumed t = absurd (let no : None ≡ Some (spellings whole.messages) = told in cc)
  by_left (Some x) None told consumed t = absurd consumed
  by_left (Some x) (Some y) told consumed t =
      let same : x ≡ spellings whole.messages = cc in
      uncut step u v whole.messages taken sent y end whole.spelled (sym same ∙ consumed) t

-- ---- the status of a session

-- the input is cut only where its link was
pub status_cut : (e : LinkEnd) (last : Result ℕ Why) → IsUncut e → status_after (status_of e) last ≡ InputCut → ⊥
status_cut e (Err why.DiskFault) whole is = let no : DiskFault ≡ InputCut = is in cc
status_cut e (Err (why.JournalFull end need room)) whole is = let no : UsedUp ≡ InputCut = is in cc
status_cut e (Err (why.NotAJournal at)) whole is = let no : NoMemory ≡ InputCut = is in cc
status_cut e (Err why.Exists) whole is = let no : NoMemory ≡ InputCut = is in cc
status_cut e (Err why.NoMemory) whole is = let no : NoMemory ≡ InputCut = is in cc
status_cut end.Closed (Ok n) whole is = let no : Done ≡ InputCut = is in cc
status_cut (end.Cut unread) (Ok n) whole is = whole
status_cut (end.Ended fault) (Ok n) whole is = whole
status_cut end.ReadFault (Ok n) whole is = let no : ReadFault ≡ InputCut = is in cc
status_cut end.WriteFault (Ok n) whole is = let no : WriteFault ≡ InputCut = is in cc
status_cut end.Budget (Ok n) whole is = let no : Budget ≡ InputCut = is in cc
status_cut end.NoMemory (Ok n) whole is = let no : NoMemory ≡ InputCut = is in cc

-- a budget is told only where its link used it up
pub status_budget : (e : LinkEnd) (last : Result ℕ Why) → status_after (status_of e) last ≡ Budget → e ≡ end.Budget
status_budget e (Err why.DiskFault) is = absurd (let no : DiskFault ≡ Budget = is in cc)
status_budget e (Err (why.JournalFull end need room)) is = absurd (let no : UsedUp ≡ Budget = is in cc)
status_budget e (Err (why.NotAJournal at)) is = absurd (let no : NoMemory ≡ Budget = is in cc)
status_budget e (Err why.Exists) is = absurd (let no : NoMemory ≡ Budget = is in cc)
status_budget e (Err why.NoMemory) is = absurd (let no : NoMemory ≡ Budget = is in cc)
status_budget end.Closed (Ok n) is = absurd (let no : Done ≡ Budget = is in cc)
status_budget (end.Cut unread) (Ok n) is = absurd (let no : InputCut ≡ Budget = is in cc)
status_budget (end.Ended fault) (Ok n) is = absurd (let no : InputCut ≡ Budget = is in cc)
status_budget end.ReadFault (Ok n) is = absurd (let no : ReadFault ≡ Budget = is in cc)
status_budget end.WriteFault (Ok n) is = absurd (let no : WriteFault ≡ Budget = is in cc)
status_budget end.Budget (Ok n) is = refl
status_budget end.NoMemory (Ok n) is = absurd (let no : NoMemory ≡ Budget = is in cc)

-- no room is left only where the last keeping found none
pub full : (e : LinkEnd) (last : Result ℕ Why) → status_after (status_of e) last ≡ UsedUp → (end : ℕ) × (need : ℕ) × (room : ℕ) × (last ≡ Err (why.JournalFull end need room))
full e (Err why.DiskFault) is = absurd (let no : DiskFault ≡ UsedUp = is in cc)
full e (Err (why.JournalFull end need room)) is = (end, need, room, refl)
full e (Err (why.NotAJournal at)) is = absurd (let no : NoMemory ≡ UsedUp = is in cc)
full e (Err why.Exists) is = absurd (let no : NoMemory ≡ UsedUp = is in cc)
full e (Err why.NoMemory) is = absurd (let no : NoMemory ≡ UsedUp = is in cc)
full end.Closed (Ok n) is = absurd (let no : Done ≡ UsedUp = is in cc)
full (end.Cut unread) (Ok n) is = absurd (let no : InputCut ≡ UsedUp = is in cc)
full (end.Ended fault) (Ok n) is = absurd (let no : InputCut ≡ UsedUp = is in cc)
full end.ReadFault (Ok n) is = absurd (let no : ReadFault ≡ UsedUp = is in cc)
full end.WriteFault (Ok n) is = absurd (let no : WriteFault ≡ UsedUp = is in cc)
full end.Budget (Ok n) is = absurd (let no : Budget ≡ UsedUp = is in cc)
full end.NoMemory (Ok n) is = absurd (let no : NoMemory ≡ UsedUp = is in cc)

-- ---- the status of doors

-- that of reports is no other than these
pub reports_full : (reports : List Report) → reports_status reports ≡ UsedUp → ⊥
reports_full reports = by (some_failed reports) (some_budget reports) where
  by : (a b : Bool) → (if a then DoorFault else if b then Budget else Done) ≡ UsedUp → ⊥
  by true b is = let no : DoorFault ≡ UsedUp = is in cc
  by false true is = let no : Budget ≡ UsedUp = is in cc
  by false false is = let no : Done ≡ UsedUp = is in cc

-- so doors find no room only as the last keeping says
pub full_doors : (ended : Status) (last : Result ℕ Why) → (ended ≡ UsedUp → ⊥) → status_after ended last ≡ UsedUp → (end : ℕ) × (need : ℕ) × (room : ℕ) × (last ≡ Err (why.JournalFull end need room))
full_doors ended (Ok n) other is = absurd (other is)
full_doors ended (Err why.DiskFault) other is = absurd (let no : DiskFault ≡ UsedUp = is in cc)
full_doors ended (Err (why.JournalFull end need room)) other is = (end, need, room, refl)
full_doors ended (Err (why.NotAJournal at)) other is = absurd (let no : NoMemory ≡ UsedUp = is in cc)
full_doors ended (Err why.Exists) other is = absurd (let no : NoMemory ≡ UsedUp = is in cc)
full_doors ended (Err why.NoMemory) other is = absurd (let no : NoMemory ≡ UsedUp = is in cc)
