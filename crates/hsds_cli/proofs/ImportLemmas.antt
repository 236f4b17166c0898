-- An import by its status.
use Rattle.std.proofs.Common.{◌≡◌, inl, inr, ℕ, ◌≤◌, List, length, take, Option, Some, None, Ok, Err, refl, sym, subst, ◌∙◌, append-nil, arith}
use Rattle.std.specs.Io.KnownBytes.{Appends, Keeps}
use Rattle.json_import.specs.Adoption.Adopted.{counts_of}
use Rattle.json_import.specs.declared.adoption.counts.Counts.{Counts}
use Rattle.edge_traits.specs.Causes.{Rose}
use Rattle.edge_traits.specs.declared.disk.Disk.{Ghosts}
use Rattle.flush_journal.specs.declared.why.Why.{Why}
use Rattle.flush_journal.specs.declared.why.Why.TheVariants as why
use Rattle.json_import.specs.Kept.Documents.{IsRefused}
use Rattle.json_import.specs.Kept.Imports.{CameTo, HasCauseOf, IsImportDiskFault, KeepsAdopted}
use Rattle.json_import.specs.declared.kept.outcome.Outcome.{Outcome}
use Rattle.json_import.specs.declared.kept.outcome.Outcome.TheVariants as outcome
use Rattle.service_core.specs.Journals.Opening.{MayRefuseOpening}
use Rattle.service_core.specs.declared.journals.faults.OpenFault.{OpenFault}
use Rattle.service_core.specs.declared.journals.faults.OpenFault.TheVariants as fault
use Rattle.service_core.specs.Journals.Begun.{IsUnbegun}
use Rattle.service_core.specs.Steps.{World}
use Rattle.edge_traits.specs.SourceTexts.Texts.{IsTaken}
use Rattle.hsds_cli.specs.Imports.{IsImported, IsOutcomeTold, IsUnopened}
use Rattle.hsds_cli.specs.Lines.{IsTold, import_line}
use Rattle.hsds_cli.specs.Openings.{opening_status, refusal_status}
use Rattle.hsds_cli.specs.Sides.{IsUntouched, Sides}
use Rattle.hsds_cli.specs.declared.status.Status.{Status}
use Rattle.hsds_cli.specs.declared.status.Status.TheVariants.{Done, Words, Configuration, ReadFault, WriteFault, DiskFault, NotAJournal, Refused, JournalExists, DoorFault, InputCut, UsedUp, Budget, NoMemory}
use Rattle.hsds_cli.proofs.Printing.{whole_line}
use Rattle.hsds_cli.proofs.SessionLemmas.{keeps, untouched}

-- what a refusal took of the input
taken_of : (lb la : Option (List ℕ)) (w : World) (path : List ℕ) → IsRefused lb la w path → IsTaken lb la
taken_of lb la w path (inl (inl long)) = (long.0, long.1)
taken_of lb la w path (inl (inr none)) = (none.0, none.1.taken)
taken_of lb la w path (inr found) = (found.2.text, found.2.whole.taken)

-- nothing was printed of a line
nothing_of : (line : List ℕ) (before after : Option (List ℕ)) → Keeps before after → Appends before after (take 0 line)
nothing_of line None after h = tt
nothing_of line (Some xs) None h = absurd h
nothing_of line (Some xs) (Some ys) h = h ∙ sym (append-nil xs)

-- no count fell
pub later_of : (before now : ℕ) (o : Outcome) → HasCauseOf before now o → before ≤ now
later_of before now (outcome.Unopened refusal) h = omega (arith, h)
later_of before now (outcome.Unbegun refusal) h = omega (arith, h)
later_of before now outcome.Unread h = h.later
later_of before now outcome.Refused h = h
later_of before now outcome.NoMemory h = h
later_of before now (outcome.Unkept refusal) h = h
later_of before now (outcome.Adopted counts) h = h

module _ {D : Type 0} (met : Ghosts D) (path owner : List ℕ) (sides : Sides) (before after : D) where
  abbrev Is : Status → Type 0
  Is status = IsImported met path owner sides before after status

  -- no world was opened
  unopened : (refusal : OpenFault) → MayRefuseOpening met.honest (met.reads before) (met.faults before) (met.faults after) refusal → IsUnopened met sides before after → Is (opening_status refusal)
  unopened fault.DiskFault h still = (h, inl still)
  unopened (fault.NotAJournal at) h still = (λ honest. inl (at, h honest), still)
  unopened (fault.BadRecord key) h still = (λ honest. inr (let found = h honest in (found.0, found.1, (key.items, found.2))), still)
  unopened fault.RunsUsed h still = inl (h, still)
  unopened fault.NoMemory h still = inl still

  -- no run was begun
  unbegun : (refusal : Why) → IsUnbegun met before after refusal → IsUntouched sides → (refusal ≡ why.DiskFault → Rose (met.faults before) (met.faults after)) → Is (refusal_status refusal)
  unbegun why.DiskFault u still f = (f refl, inr (inl (u, still)))
  unbegun (why.JournalFull end need room) u still f = inr (end, need, room, inl (u, still))
  unbegun (why.NotAJournal at) u still f = absurd u.cause
  unbegun why.Exists u still f = absurd u.cause
  unbegun why.NoMemory u still f = inr (inl (inl (u, still)))

  -- what was adopted wasn't kept
  unkept : (refusal : Why) → KeepsAdopted met before after path owner sides.left_before sides.left_after (Err refusal) → Keeps sides.held_before sides.held_after
      → (refusal ≡ why.DiskFault → Rose (met.faults before) (met.faults after)) → Is (refusal_status refusal)
  unkept why.DiskFault k held f = (f refl, inr (inr (record { adopts = k; held = held })))
  unkept (why.JournalFull end need room) k held f = inr (end, need, room, inr (record { adopts = k; held = held }))
  unkept (why.NotAJournal at) k held f = absurd k.last_keeping.keeps.cause
  unkept why.Exists k held f = absurd k.last_keeping.keeps.cause
  unkept why.NoMemory k held f = inr (inl (inr (record { adopts = k; held = held })))

  -- it was kept, and a line on it printed
  module _ (n : ℕ) (k : KeepsAdopted met before after path owner sides.left_before sides.left_after (Ok n)) where
    abbrev line : List ℕ
    line = import_line (counts_of k.loaded)

    kept : (status : Status) → IsTold line sides.held_before sides.held_after sides.out_before sides.out_after status → Is status
    kept Done h = (
      record { kept = n; adopts = k; printed = length line; appended = whole_line line sides.held_before sides.held_after h },
      omega arith,
    )
    kept WriteFault h = (h.3, record { kept = n; adopts = k; printed = h.0; appended = h.2 })
    kept NoMemory h = inr (inr (inr (record { kept = n; adopts = k; printed = 0; appended = nothing_of line sides.held_before sides.held_after h }, refl)))
    kept Words h = absurd h
    kept Configuration h = absurd h
    kept ReadFault h = absurd h
    kept DiskFault h = absurd h
    kept NotAJournal h = absurd h
    kept Refused h = absurd h
    kept JournalExists h = absurd h
    kept DoorFault h = absurd h
    kept InputCut h = absurd h
    kept UsedUp h = absurd h
    kept Budget h = absurd h

  pub imported : (o : Outcome) (status : Status) → CameTo met before after path owner sides.left_before sides.left_after o → HasCauseOf sides.input_before sides.input_after o
      → (IsImportDiskFault o → Rose (met.faults before) (met.faults after)) → IsOutcomeTold o sides.held_before sides.held_after sides.out_before sides.out_after status → Is status
  imported (outcome.Unopened refusal) status h cause f told =
      subst Is (sym told.0) (unopened refusal h.0.0 (record { bytes = h.0.1; untouched = untouched sides h.1 told.1 }))
  imported (outcome.Unbegun refusal) status h cause f told = subst Is (sym told.0) (unbegun refusal h.0 (untouched sides h.1 told.1) f)
  imported outcome.Unread status h cause f told =
      subst Is (sym told.0) (cause, record { first = h.0; alone = h.1; taken = h.2; held = keeps sides.held_before sides.held_after told.1 })
  imported outcome.Refused status h cause f told = subst Is (sym told.0) (
    record {
      first = h.0;
      alone = h.1;
      taken = taken_of sides.left_before sides.left_after h.0 path h.2;
      held = keeps sides.held_before sides.held_after told.1;
    },
    h.2,
  )
  imported outcome.NoMemory status h cause f told =
      subst Is (sym told.0) (inr (inr (inl (record { first = h.0; alone = h.1; taken = h.2; held = keeps sides.held_before sides.held_after told.1 }))))
  imported (outcome.Unkept refusal) status h cause f told = subst Is (sym told.0) (unkept refusal h (keeps sides.held_before sides.held_after told.1) f)
  imported (outcome.Adopted counts) status h cause f told =
      kept h.0 h.1 status (subst (λ (c : Counts). IsTold (import_line c) sides.held_before sides.held_after sides.out_before sides.out_after status) h.2 told)
