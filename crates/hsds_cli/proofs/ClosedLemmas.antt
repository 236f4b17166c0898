-- How links left the world, by the status.
use Rattle.std.proofs.Common.{◌≡◌, ◌⊎◌, inl, inr, ℕ, List, Option, Some, None, Result, Ok, Err, OnOk, refl, sym, ap, subst, ◌∙◌}
use Rattle.access_lists.specs.Tokens.Bearer.{TokenTable}
use Rattle.edge_traits.specs.declared.disk.Disk.{Ghosts}
use Rattle.command_words.specs.Commands.{Command, command_of, export, import, init, sample, serve, session, verify}
use Rattle.flush_journal.specs.declared.journal.Journal.{Journal}
use Rattle.flush_journal.specs.declared.why.Why.{Why}
use Rattle.flush_journal.specs.declared.why.Why.TheVariants as why
use Rattle.service_core.specs.Worlds.{State}
use Rattle.rest_session.specs.Kept.Doors.{AreDoorsKept}
use Rattle.rest_session.specs.declared.kept.outcome.ClosedDoors.{ClosedDoors}
use Rattle.hsds_cli.specs.declared.closed.Closed.{Closed}
use Rattle.hsds_cli.specs.Closings.{of_doors, of_link}
use Rattle.hsds_cli.specs.Doors.{Doors}
use Rattle.hsds_cli.specs.declared.status.Status.{Status}
use Rattle.hsds_cli.specs.declared.status.Status.TheVariants.{Done, Words, Configuration, ReadFault, WriteFault, DiskFault, NotAJournal, Refused, JournalExists, DoorFault, InputCut, UsedUp, Budget, NoMemory}
use Rattle.hsds_cli.specs.Openings.{IsSession, Serves, status_after, status_of}
use Rattle.hsds_cli.specs.Runs.{IsCommanded, IsRun, MayBeUnkept}
use Rattle.hsds_cli.specs.Serves.{Desks, IsServedBy, ServesDoors, reports_status}
use Rattle.hsds_cli.specs.Sides.{Sides}
use Rattle.hsds_cli.specs.Status.{number_of}

none_closed : {P : Type 0} (closed : Option Closed) (c : Closed) → closed ≡ None → closed ≡ Some c → P
none_closed closed c none some = absurd (let no : None ≡ Some c = sym none ∙ some in cc)

-- after Ok it holds, and a refusal of the last keeping has its status
by_last : (P : Type 0) (e : Status) (last : Result ℕ Why) (status : Status) → status_after e last ≡ status → OnOk last P → P ⊎ MayBeUnkept (number_of status)
by_last P e (Ok n) status is all = inl all
by_last P e (Err why.DiskFault) status is all = inr (inl (ap number_of (sym is)))
by_last P e (Err (why.JournalFull end need room)) status is all = inr (inr (inl (ap number_of (sym is))))
by_last P e (Err (why.NotAJournal at)) status is all = inr (inr (inr (ap number_of (sym is))))
by_last P e (Err why.Exists) status is all = inr (inr (inr (ap number_of (sym is))))
by_last P e (Err why.NoMemory) status is all = inr (inr (inr (ap number_of (sym is))))

closed_once : (x y : Closed) → Some x ≡ Some y → x ≡ y
closed_once x y e = cc

-- a link or doors that were so closed
by_closed : (made c : Closed) (closed : Option Closed) → closed ≡ Some c → closed ≡ Some made → (ended : Status) (last : Result ℕ Why) (status : Status)
    → status_after ended last ≡ status → OnOk last (made.kept ≡ made.front) → (c.kept ≡ c.front) ⊎ MayBeUnkept (number_of status)
by_closed made c closed is made_is ended last status e all =
    subst (λ (x : Closed). (x.kept ≡ x.front) ⊎ MayBeUnkept (number_of status)) (closed_once made c (sym made_is ∙ is))
    (by_last (made.kept ≡ made.front) ended last status e all)

-- after Ok of the last flush all is kept
doors_kept : {F L D : Type 0} (met : Ghosts D) (desks : Desks met) (links : ℕ) (doors : Doors F L) (tokens : TokenTable) (journal : Journal D met) (first : State) (after : D) (left : ClosedDoors)
    (last : Result ℕ Why) → AreDoorsKept met desks doors.tells tokens links journal first after doors.before doors.after left last → OnOk last (left.kept ≡ left.front)
doors_kept met desks links doors tokens journal first after left last k =
    subst (λ (l : Result ℕ Why). OnOk l (left.kept ≡ left.front)) (sym k.last_is)
    (subst (λ (c : ClosedDoors). OnOk k.hall.last (c.kept ≡ c.front)) (sym k.closed_is) k.is_closed.all)

module _ {F L D : Type 0} (met : Ghosts D) (desks : Desks met) (sides : Sides) (doors : Doors F L) (before after : D) (closed : Option Closed) (c : Closed) (is : closed ≡ Some c) where
  served : (status : Status) → Serves met sides before after closed status → (c.kept ≡ c.front) ⊎ MayBeUnkept (number_of status)
  served status s = by_closed (of_link s.link_closed) c closed is s.is_closed (status_of s.link_closed.end) s.last status s.ended s.served.all

  served_doors : (links : ℕ) (status : Status) → ServesDoors met desks links sides doors before after closed status → (c.kept ≡ c.front) ⊎ MayBeUnkept (number_of status)
  served_doors links status s =
      by_closed (of_doors s.left) c closed is s.is_closed (reports_status s.left.reports.items) s.last status s.ended
      (doors_kept met desks links doors s.config.tokens s.journal s.first after s.left s.last s.served)

  of_session : (status : Status) → IsSession met sides before after closed status → (c.kept ≡ c.front) ⊎ MayBeUnkept (number_of status)
  of_session Done s = served Done s
  of_session Configuration s = none_closed closed c s.1.0 is
  of_session ReadFault (inl s) = none_closed closed c s.1.0 is
  of_session ReadFault (inr s) = served ReadFault s.1
  of_session WriteFault s = served WriteFault s.1
  of_session DiskFault s = inr (inl refl)
  of_session NotAJournal s = none_closed closed c s.1.0 is
  of_session InputCut s = served InputCut s
  of_session UsedUp s = inr (inr (inl refl))
  of_session Budget s = served Budget s
  of_session NoMemory s = inr (inr (inr refl))
  of_session Words s = absurd s
  of_session Refused s = absurd s
  of_session JournalExists s = absurd s
  of_session DoorFault s = absurd s

  of_serve : (links : ℕ) (status : Status) → IsServedBy met desks links sides doors before after closed status → (c.kept ≡ c.front) ⊎ MayBeUnkept (number_of status)
  of_serve links Done s = served_doors links Done s.0
  of_serve links Configuration s = none_closed closed c s.1.0 is
  of_serve links ReadFault s = none_closed closed c s.1.0 is
  of_serve links DiskFault s = inr (inl refl)
  of_serve links NotAJournal s = none_closed closed c s.1.0 is
  of_serve links DoorFault s = served_doors links DoorFault s.0
  of_serve links UsedUp s = inr (inr (inl refl))
  of_serve links Budget s = served_doors links Budget s.0
  of_serve links NoMemory s = inr (inr (inr refl))
  of_serve links Words s = absurd s
  of_serve links WriteFault s = absurd s
  of_serve links Refused s = absurd s
  of_serve links JournalExists s = absurd s
  of_serve links InputCut s = absurd s

  kept_or_refused : (command : Option Command) (status : Status) → IsCommanded met desks command sides doors before after closed status → (c.kept ≡ c.front) ⊎ MayBeUnkept (number_of status)
  kept_or_refused None status h = none_closed closed c h.2 is
  kept_or_refused (Some (init config journal lanes)) status h = none_closed closed c h.1 is
  kept_or_refused (Some (session config journal)) status h = of_session status h
  kept_or_refused (Some (serve config journal listen workers links)) status h = of_serve links status h.1
  kept_or_refused (Some (export path journal)) status h = none_closed closed c h.1 is
  kept_or_refused (Some (import path journal owner)) status h = none_closed closed c h.1 is
  kept_or_refused (Some (sample n)) status h = none_closed closed c h.1 is
  kept_or_refused (Some (verify journal)) status h = none_closed closed c h.1 is

-- so it is of a run, with its disk or without
pub kept_of_run : {F L D : Type 0} (met : Ghosts D) (desks : Desks met) (words : List (List ℕ)) (sides : Sides) (doors : Doors F L) (before : D) (after : Option D) (closed : Option Closed) (c : Closed)
    → closed ≡ Some c → (status : Status) → IsRun met desks words sides doors before after closed status → (c.kept ≡ c.front) ⊎ MayBeUnkept (number_of status)
kept_of_run met desks words sides doors before (Some after) closed c is status ran = kept_or_refused met desks sides doors before after closed c is (command_of words) status ran
kept_of_run met desks words sides doors before None closed c is status ran = none_closed closed c ran.2.0 is
