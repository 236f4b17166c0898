-- What `serve` does, by its status.
use Rattle.std.proofs.Common.{◌≡◌, inl, inr, ℕ, List, Bool, true, false, Option, Some, None, Result, Ok, Err, IfSome, refl, sym, ap, subst, ◌∙◌}
use Rattle.std.specs.Prelude.{if◌then◌else◌}
use Rattle.edge_traits.specs.Causes.{Rose}
use Rattle.edge_traits.specs.declared.disk.Disk.{Ghosts}
use Rattle.command_words.specs.Commands.{Command, command_of, serve}
use Rattle.configuration.specs.declared.config.Config.{Config}
use Rattle.flush_journal.specs.Unchanged.{SameBytes}
use Rattle.flush_journal.specs.declared.why.Why.{Why}
use Rattle.flush_journal.specs.declared.why.Why.TheVariants as why
use Rattle.flush_journal.proofs.Unchanged.{bytes_here}
use Rattle.service_core.specs.declared.journals.faults.OpenFault.{OpenFault}
use Rattle.service_core.specs.declared.journals.faults.OpenFault.TheVariants as fault
use Rattle.service_core.specs.Journals.Begun.{IsUnbegun}
use Rattle.rest_session.specs.Kept.Doors.{HaveEnded, IsDoorsDiskFault}
use Rattle.rest_session.specs.declared.kept.outcome.DoorsOutcome.{DoorsOutcome}
use Rattle.rest_session.specs.declared.kept.outcome.DoorsOutcome.TheVariants as outcome
use Rattle.rest_session.specs.declared.kept.outcome.ClosedDoors.{ClosedDoors}
use Rattle.hsds_cli.specs.declared.closed.Closed.{Closed}
use Rattle.hsds_cli.specs.declared.status.Status.{Status}
use Rattle.hsds_cli.specs.declared.status.Status.TheVariants.{Done, Words, Configuration, ReadFault, WriteFault, DiskFault, NotAJournal, Refused, JournalExists, DoorFault, InputCut, UsedUp, Budget, NoMemory}
use Rattle.hsds_cli.specs.Closings.{of_doors}
use Rattle.hsds_cli.specs.Doors.{AreAskedOut, Doors, SomeDoorFailed}
use Rattle.hsds_cli.specs.Openings.{SpellsSome, opening_status, refusal_status, status_after}
use Rattle.hsds_cli.specs.Runs.{IsCommanded, IsRefusal, IsRun, OpensNone}
use Rattle.hsds_cli.specs.Serves.{Desks, IsServe, IsServedBy, ServesDoors, doors_closed, reports_status, served_status, some_budget, some_failed}
use Rattle.hsds_cli.specs.Sides.{IsUntouched, Sides, Spells}
use Rattle.hsds_cli.proofs.DoorLemmas.{asked_out, asked_unless_failed, failed_rose, served_of, told_budget, told_failed, told_no_budget, told_no_failed}

module _ {F L D : Type 0} (met : Ghosts D) (desks : Desks met) (links : ℕ) (sides : Sides) (doors : Doors F L) (before after : D) where
  -- doors that were served, all of which is kept, by what the workers tell
  by_reports : (left : ClosedDoors) → (some_failed left.reports.items ≡ true → SomeDoorFailed doors) → (some_failed left.reports.items ≡ false → AreAskedOut links doors)
      → ((status : Status) → reports_status left.reports.items ≡ status → ServesDoors met desks links sides doors before after (Some (of_doors left)) status)
      → IsServedBy met desks links sides doors before after (Some (of_doors left)) (reports_status left.reports.items)
  by_reports left failed whole s = by (some_failed left.reports.items) (some_budget left.reports.items) refl refl where
    status_by : Bool → Bool → Status
    status_by a b = if a then DoorFault else if b then Budget else Done

    by : (a b : Bool) → some_failed left.reports.items ≡ a → some_budget left.reports.items ≡ b
        → IsServedBy met desks links sides doors before after (Some (of_doors left)) (reports_status left.reports.items)
    by true b p q =
        let is : reports_status left.reports.items ≡ DoorFault = ap (λ x. status_by x (some_budget left.reports.items)) p in
        subst (IsServedBy met desks links sides doors before after (Some (of_doors left))) (sym is) (s DoorFault is, failed p, told_failed left p)
    by false true p q =
        let is : reports_status left.reports.items ≡ Budget = ap (λ x. status_by x (some_budget left.reports.items)) p ∙ ap (status_by false) q in
        subst (IsServedBy met desks links sides doors before after (Some (of_doors left))) (sym is) (s Budget is, (whole p, told_no_failed left p), told_budget left q)
    by false false p q =
        let is : reports_status left.reports.items ≡ Done = ap (λ x. status_by x (some_budget left.reports.items)) p ∙ ap (status_by false) q in
        subst (IsServedBy met desks links sides doors before after (Some (of_doors left))) (sym is) (s Done is, (whole p, told_no_failed left p), told_no_budget left q)

  -- and by the last keeping
  by_keeping : (left : ClosedDoors) (last : Result ℕ Why) → (some_failed left.reports.items ≡ true → SomeDoorFailed doors) → (some_failed left.reports.items ≡ false → AreAskedOut links doors)
      → ((status : Status) → status_after (reports_status left.reports.items) last ≡ status → ServesDoors met desks links sides doors before after (Some (of_doors left)) status)
      → (last ≡ Err why.DiskFault → Rose (met.faults before) (met.faults after))
      → IsServedBy met desks links sides doors before after (Some (of_doors left)) (status_after (reports_status left.reports.items) last)
  by_keeping left (Err why.DiskFault) failed whole s f = (f refl, inr (s DiskFault refl))
  by_keeping left (Err (why.JournalFull end need room)) failed whole s f = inr (s UsedUp refl)
  by_keeping left (Err (why.NotAJournal at)) failed whole s f = inr (s NoMemory refl)
  by_keeping left (Err why.Exists) failed whole s f = inr (s NoMemory refl)
  by_keeping left (Err why.NoMemory) failed whole s f = inr (s NoMemory refl)
  by_keeping left (Ok n) failed whole s f = by_reports left failed whole s

  module _ (config : Config) (spelled : Spells sides.text config) where
    unopened : (refusal : OpenFault) → HaveEnded met desks doors.tells config.tokens links before (Some after) doors.before doors.after (outcome.Unopened refusal)
        → (refusal ≡ fault.DiskFault → Rose (met.faults before) (met.faults after)) → IsServedBy met desks links sides doors before after None (opening_status refusal)
    unopened fault.DiskFault e f = (f refl, inl ((config, spelled), (refl, e.1), inl e.0.1))
    unopened (fault.NotAJournal at) e f = ((config, spelled), (refl, e.1), λ honest. inl (at, e.0.0 honest), e.0.1)
    unopened (fault.BadRecord key) e f = ((config, spelled), (refl, e.1), λ honest. inr (let found = e.0.0 honest in (found.0, found.1, (key.items, found.2))), e.0.1)
    unopened fault.RunsUsed e f = inl ((config, spelled), (refl, e.1), inl (e.0.0, e.0.1))
    unopened fault.NoMemory e f = inl ((refl, e.1), inl (inl e.0.1))

    unbegun : (refusal : Why) → IsUnbegun met before after refusal → doors.after ≡ doors.before → (refusal ≡ why.DiskFault → Rose (met.faults before) (met.faults after))
        → IsServedBy met desks links sides doors before after None (refusal_status refusal)
    unbegun why.DiskFault u same f = (f refl, inl ((config, spelled), (refl, same), inr u))
    unbegun (why.JournalFull end need room) u same f = inl ((config, spelled), (refl, same), inr (end, need, room, u))
    unbegun (why.NotAJournal at) u same f = absurd u.cause
    unbegun why.Exists u same f = absurd u.cause
    unbegun why.NoMemory u same f = inl ((refl, same), inl (inr u))

    ended_with : (o : DoorsOutcome) → HaveEnded met desks doors.tells config.tokens links before (Some after) doors.before doors.after o
        → (IsDoorsDiskFault o → Rose (met.faults before) (met.faults after)) → IsServedBy met desks links sides doors before after (doors_closed o) (served_status o)
    ended_with (outcome.Unopened refusal) e f = unopened refusal e f
    ended_with (outcome.Unbegun refusal) e f = unbegun refusal e.0 e.1 f
    ended_with outcome.Unserved (journal, first, begun, stays) f = inl ((refl, stays.1), inr (journal, first, begun, stays.0))
    ended_with (outcome.Served closed last) (journal, first, begun, k) f =
        let served = served_of met desks links doors config.tokens journal first after closed last k in
        let rs = closed.reports.items in
        by_keeping closed last
        (failed_rose desks links doors config.tokens first k.hall.world k.hall.front k.hall.desk rs served)
        (asked_out desks links doors config.tokens first k.hall.world k.hall.front k.hall.desk rs served)
        (λ status is. record {
          config = config;
          spelled = spelled;
          journal = journal;
          first = first;
          begun = begun;
          left = closed;
          is_closed = refl;
          last = last;
          served = k;
          asked = asked_unless_failed desks links doors config.tokens first k.hall.world k.hall.front k.hall.desk rs served;
          ended = is;
        }) f

  -- the configuration was refused
  pub serve_refused : (status : Status) → IsRefusal sides.text sides.config_before sides.config_after status → after ≡ before → doors.after ≡ doors.before
      → IsServedBy met desks links sides doors before after None status
  serve_refused Configuration h same doors_same = (h, (refl, doors_same), same)
  serve_refused ReadFault h same doors_same = (h, (refl, doors_same), same)
  serve_refused NoMemory h same doors_same = inl ((refl, doors_same), inl (inl (λ honest. subst (λ (d : D). SameBytes met before d) (sym same) (bytes_here met before))))
  serve_refused Done h same doors_same = absurd h
  serve_refused Words h same doors_same = absurd h
  serve_refused WriteFault h same doors_same = absurd h
  serve_refused DiskFault h same doors_same = absurd h
  serve_refused NotAJournal h same doors_same = absurd h
  serve_refused Refused h same doors_same = absurd h
  serve_refused JournalExists h same doors_same = absurd h
  serve_refused DoorFault h same doors_same = absurd h
  serve_refused InputCut h same doors_same = absurd h
  serve_refused UsedUp h same doors_same = absurd h
  serve_refused Budget h same doors_same = absurd h

module _ {F L D : Type 0} (met : Ghosts D) (desks : Desks met) (links : ℕ) (sides : Sides) (doors : Doors F L) (before : D) where
  -- with the disk, or without it
  pub doors_ended : IsUntouched sides → (config : Config) → Spells sides.text config → (after : Option D) (o : DoorsOutcome)
      → HaveEnded met desks doors.tells config.tokens links before after doors.before doors.after o
      → (IsDoorsDiskFault o → IfSome after (λ d. Rose (met.faults before) (met.faults d))) → IsServe met desks links sides doors before after (doors_closed o) (served_status o)
  doors_ended untouched config spelled (Some after) o e f = (untouched, ended_with met desks links sides doors before after config spelled o e f)
  doors_ended untouched config spelled None (outcome.Unopened refusal) e f = absurd e.0
  doors_ended untouched config spelled None (outcome.Unbegun refusal) e f = absurd e.0
  doors_ended untouched config spelled None outcome.Unserved (journal, first, begun, stays) f = (untouched, (refl, stays.1), (journal, first, begun), refl)
  doors_ended untouched config spelled None (outcome.Served closed last) (journal, first, begun, lost) f = absurd lost

-- what `serve` does is what its words do
pub run_of_serve : {F L D : Type 0} (met : Ghosts D) (desks : Desks met) (words : List (List ℕ)) (sides : Sides) (doors : Doors F L) (before : D) (after : Option D) (closed : Option Closed) (status : Status)
    (config journal listen : List ℕ) (workers links : ℕ) → command_of words ≡ Some (serve config journal listen workers links)
    → IsServe met desks links sides doors before after closed status → IsRun met desks words sides doors before after closed status
run_of_serve met desks words sides doors before (Some after) closed status config journal listen workers links is s =
    subst (λ (o : Option Command). IsCommanded met desks o sides doors before after closed status) (sym is) s
run_of_serve met desks words sides doors before None closed status config journal listen workers links is s = (λ none. subst OpensNone is none, s.0, s.1, s.2, s.3)
