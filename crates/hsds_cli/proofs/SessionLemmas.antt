-- A session by its status.
use Rattle.std.proofs.Common.{◌≡◌, ◌⊎◌, inl, inr, ℕ, List, Option, Some, None, Result, Ok, Err, refl, sym, subst, ◌∙◌}
use Rattle.std.specs.Io.KnownBytes.{Keeps}
use Rattle.edge_traits.specs.Causes.{Rose}
use Rattle.edge_traits.specs.declared.disk.Disk.{Ghosts}
use Rattle.access_lists.specs.Tokens.Bearer.{TokenTable}
use Rattle.configuration.specs.declared.config.Config.{Config}
use Rattle.flush_journal.specs.declared.why.Why.{Why}
use Rattle.flush_journal.specs.declared.why.Why.TheVariants as why
use Rattle.service_core.specs.declared.journals.faults.OpenFault.{OpenFault}
use Rattle.service_core.specs.declared.journals.faults.OpenFault.TheVariants as fault
use Rattle.rest_session.specs.Kept.Sessions.{HasCausesOf, IsEnded, IsSessionDiskFault}
use Rattle.service_core.specs.Journals.Begun.{IsUnbegun}
use Rattle.hsds_cli.specs.declared.closed.Closed.{Closed}
use Rattle.hsds_cli.specs.Closings.{of_link}
use Rattle.rest_session.specs.declared.kept.outcome.Outcome.{Outcome}
use Rattle.rest_session.specs.declared.kept.outcome.Outcome.TheVariants as outcome
use Rattle.rest_session.specs.Links.Links.{HasCauses}
use Rattle.rest_session.specs.declared.links.end.LinkEnd.{LinkEnd}
use Rattle.rest_session.specs.declared.links.end.LinkEnd.TheVariants as end
use Rattle.hsds_cli.specs.Openings.{IsSession, Serves, SpellsSome, closed_by, status_after, status_by, status_of}
use Rattle.hsds_cli.specs.Sides.{IsUntouched, Sides, Spells}
use Rattle.flush_journal.specs.Unchanged.{SameBytes}
use Rattle.flush_journal.proofs.Unchanged.{bytes_here}
use Rattle.hsds_cli.specs.Runs.{IsRefusal}
use Rattle.hsds_cli.specs.declared.status.Status.{Status}
use Rattle.hsds_cli.specs.declared.status.Status.TheVariants.{Done, Words, Configuration, ReadFault, WriteFault, DiskFault, NotAJournal, Refused, JournalExists, DoorFault, InputCut, UsedUp, Budget, NoMemory}

pub keeps : (before after : Option (List ℕ)) → after ≡ before → Keeps before after
keeps None after same = tt
keeps (Some xs) None same = absurd (let no : ◌≡◌ {A = Option (List ℕ)} None (Some xs) = same in cc)
keeps (Some xs) (Some ys) same = some_same ys xs same where
  some_same : (x y : List ℕ) → ◌≡◌ {A = Option (List ℕ)} (Some x) (Some y) → x ≡ y
  some_same x y is = cc

pub untouched : (sides : Sides) → sides.left_after ≡ sides.left_before → sides.held_after ≡ sides.held_before → IsUntouched sides
untouched sides left held = record { left = keeps sides.left_before sides.left_after left; held = keeps sides.held_before sides.held_after held }

module _ {D : Type 0} (met : Ghosts D) (sides : Sides) (before after : D) where
  -- a link that was served, by its end and the last keeping
  by_end : (closed : Option Closed) (e : LinkEnd) (last : Result ℕ Why) → Serves met sides before after closed (status_after (status_of e) last)
      → HasCauses sides.input_before sides.input_after sides.out_before sides.out_after e → (last ≡ Err why.DiskFault → Rose (met.faults before) (met.faults after))
      → IsSession met sides before after closed (status_after (status_of e) last)
  by_end closed e (Err why.DiskFault) s h f = (f refl, inr s)
  by_end closed e (Err (why.JournalFull end need room)) s h f = inr s
  by_end closed e (Err (why.NotAJournal at)) s h f = inr s
  by_end closed e (Err why.Exists) s h f = inr s
  by_end closed e (Err why.NoMemory) s h f = inr s
  by_end closed end.Closed (Ok n) s h f = s
  by_end closed (end.Cut unread) (Ok n) s h f = s
  by_end closed (end.Ended refused) (Ok n) s h f = s
  by_end closed end.ReadFault (Ok n) s h f = inr (h.read_fault refl, s)
  by_end closed end.WriteFault (Ok n) s h f = (h.write_fault refl, s)
  by_end closed end.Budget (Ok n) s h f = s
  by_end closed end.NoMemory (Ok n) s h f = inr s

  unopened : SpellsSome sides → (tokens : TokenTable) (refusal : OpenFault) → IsEnded met before after tokens sides.left_before sides.left_after sides.held_before sides.held_after (outcome.Unopened refusal)
      → (refusal ≡ fault.DiskFault → Rose (met.faults before) (met.faults after)) → IsSession met sides before after None (status_by (outcome.Unopened refusal))
  unopened some tokens fault.DiskFault e f = (f refl, inl (some, (refl, untouched sides e.2 e.3), inl e.1))
  unopened some tokens (fault.NotAJournal at) e f = (some, (refl, untouched sides e.2 e.3), λ honest. inl (at, e.0 honest), e.1)
  unopened some tokens (fault.BadRecord key) e f = (some, (refl, untouched sides e.2 e.3), λ honest. inr (let found = e.0 honest in (found.0, found.1, (key.items, found.2))), e.1)
  unopened some tokens fault.RunsUsed e f = inl (some, (refl, untouched sides e.2 e.3), inl (e.0, e.1))
  unopened some tokens fault.NoMemory e f = inl ((refl, untouched sides e.2 e.3), inl e.1)

  unbegun : SpellsSome sides → (refusal : Why) → IsUnbegun met before after refusal → IsUntouched sides → (refusal ≡ why.DiskFault → Rose (met.faults before) (met.faults after))
      → IsSession met sides before after None (status_by (outcome.Unbegun refusal))
  unbegun some why.DiskFault u still f = (f refl, inl (some, (refl, still), inr u))
  unbegun some (why.JournalFull end need room) u still f = inl (some, (refl, still), inr (end, need, room, u))
  unbegun some (why.NotAJournal at) u still f = absurd u.cause
  unbegun some why.Exists u still f = absurd u.cause
  unbegun some why.NoMemory u still f = inl ((refl, still), inr u)

  pub session_ended : (config : Config) → Spells sides.text config → (tokens : TokenTable) → tokens ≡ config.tokens → (o : Outcome)
      → IsEnded met before after tokens sides.left_before sides.left_after sides.held_before sides.held_after o
      → HasCausesOf sides.input_before sides.input_after sides.out_before sides.out_after o → (IsSessionDiskFault o → Rose (met.faults before) (met.faults after))
      → IsSession met sides before after (closed_by o) (status_by o)
  session_ended config spelled tokens known (outcome.Unopened refusal) e h f = unopened (config, spelled) tokens refusal e f
  session_ended config spelled tokens known (outcome.Unbegun refusal) e h f = unbegun (config, spelled) refusal e.0 (untouched sides e.1 e.2) f
  session_ended config spelled tokens known (outcome.Served closed last) e h f = by_end (Some (of_link closed)) closed.end last (record {
    config = config;
    spelled = spelled;
    first = e.0;
    tokens = e.1 ∙ known;
    begun = e.2;
    link_closed = closed;
    is_closed = refl;
    last = last;
    served = e.3;
    crash = e.4;
    causes = h;
    ended = refl;
  }) h f

  -- the configuration was refused
  pub session_refused : (status : Status) → IsRefusal sides.text sides.config_before sides.config_after status → IsUntouched sides → after ≡ before → IsSession met sides before after None status
  session_refused Configuration h still same = (h, (refl, still), same)
  session_refused ReadFault h still same = inl (h, (refl, still), same)
  session_refused NoMemory h still same = inl ((refl, still), inl (λ honest. subst (λ (d : D). SameBytes met before d) (sym same) (bytes_here met before)))
  session_refused Done h still same = absurd h
  session_refused Words h still same = absurd h
  session_refused WriteFault h still same = absurd h
  session_refused DiskFault h still same = absurd h
  session_refused NotAJournal h still same = absurd h
  session_refused Refused h still same = absurd h
  session_refused JournalExists h still same = absurd h
  session_refused DoorFault h still same = absurd h
  session_refused InputCut h still same = absurd h
  session_refused UsedUp h still same = absurd h
  session_refused Budget h still same = absurd h
