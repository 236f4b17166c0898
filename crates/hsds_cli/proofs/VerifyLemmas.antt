-- The telling of a journal by its status.
use Rattle.std.proofs.Common.{◌≡◌, ◌⊎◌, inl, inr, ℕ, ◌≤◌, ◌+◌, ◌-◌, Ok, List, length, sym, ap, subst, ◌∙◌, arith}
use Rattle.std.specs.Io.KnownBytes.{Keeps}
use Rattle.std.proofs.Math.Nat.{add-sub_cancel}
use Rattle.edge_traits.specs.declared.disk.Disk.{Ghosts}
use Rattle.flush_journal.specs.Files.{Content, content}
use Rattle.flush_journal.specs.Standing.{IsSettled, numbers_of}
use Rattle.flush_journal.specs.declared.journal.Journal.{Journal}
use Rattle.flush_journal.specs.declared.report.Report.{Report}
use Rattle.service_core.specs.Journals.Opening.{MayRefuseOpening}
use Rattle.service_core.specs.declared.journals.faults.OpenFault.{OpenFault}
use Rattle.service_core.specs.declared.journals.faults.OpenFault.TheVariants as fault
use Rattle.register.specs.Decided.{RegisterState}
use Rattle.service_core.specs.Records.{DescribesWorld, IsWorldOf}
use Rattle.service_core.specs.Worlds.{State, seen}
use Rattle.hsds_cli.specs.Lines.{IsTold, verify_line}
use Rattle.hsds_cli.specs.Openings.{IsReport, IsVerified, opening_status}
use Rattle.hsds_cli.specs.Sides.{IsUntouched, Sides}
use Rattle.hsds_cli.specs.declared.status.Status.{Status}
use Rattle.hsds_cli.specs.declared.status.Status.TheVariants.{Done, Words, Configuration, ReadFault, WriteFault, DiskFault, NotAJournal, Refused, JournalExists, DoorFault, InputCut, UsedUp, Budget, NoMemory}
use Rattle.hsds_cli.proofs.Printing.{whole_line}

-- the numbers of an opened journal and its kept run
pub is_report : {D : Type 0} {met : Ghosts D} (file : List ℕ) (r : Report) (j : Journal D met) (run : ℕ) (stands_for : Content) (s : State)
    → content file ≡ Ok stands_for → IsSettled j stands_for → IsWorldOf stands_for.held stands_for.lanes s → r ≡ numbers_of j → run ≡ s.register.run - 1 → IsReport file r run
is_report file r j run stands_for s is_journal settled is_world numbers before =
    let kept : run ≡ is_world.register.kept =
    before ∙ ap (λ (d : RegisterState). d.run - 1) is_world.register.begins ∙ add-sub_cancel is_world.register.kept 1 in
    record {
      stands_for = stands_for;
      is_journal = is_journal;
      version = ap (λ (n : Report). n.version) numbers ∙ settled.numbers.version;
      lanes = ap (λ (n : Report). n.lanes) numbers ∙ settled.numbers.lanes;
      batches = ap (λ (n : Report). n.batches) numbers ∙ settled.numbers.batches;
      end = ap (λ (n : Report). n.end) numbers ∙ settled.numbers.end;
      world = seen s;
      described = subst (λ (n : ℕ). DescribesWorld stands_for.held n (seen s)) (sym kept) is_world.describes;
    }

module _ {D : Type 0} (met : Ghosts D) (sides : Sides) (before after : D) where
  -- no world was opened
  pub not_opened : (refusal : OpenFault) → MayRefuseOpening met.honest (met.reads before) (met.faults before) (met.faults after) refusal → IsUntouched sides
      → IsVerified met sides before after (opening_status refusal)
  not_opened fault.DiskFault h still = (h, still)
  not_opened (fault.NotAJournal at) h still = (λ honest. inl (at, h honest), still)
  not_opened (fault.BadRecord key) h still = (λ honest. inr (let found = h honest in (found.0, found.1, (key.items, found.2))), still)
  not_opened fault.RunsUsed h still = (h, still)
  not_opened fault.NoMemory h still = still

  -- a line on it was printed
  pub reported : (r : Report) (run : ℕ) → (met.honest → IsReport (met.reads before) r run) → Keeps sides.left_before sides.left_after → (status : Status)
      → IsTold (verify_line r run) sides.held_before sides.held_after sides.out_before sides.out_after status → IsVerified met sides before after status
  reported r run told left Done h = (
    record {
      numbers = r;
      run = run;
      told = told;
      printed = length (verify_line r run);
      left = left;
      appended = whole_line (verify_line r run) sides.held_before sides.held_after h;
    },
    omega arith,
  )
  reported r run told left WriteFault h = (h.3, record { numbers = r; run = run; told = told; printed = h.0; left = left; appended = h.2 })
  reported r run told left Words h = absurd h
  reported r run told left Configuration h = absurd h
  reported r run told left ReadFault h = absurd h
  reported r run told left DiskFault h = absurd h
  reported r run told left NotAJournal h = absurd h
  reported r run told left Refused h = absurd h
  reported r run told left JournalExists h = absurd h
  reported r run told left DoorFault h = absurd h
  reported r run told left InputCut h = absurd h
  reported r run told left UsedUp h = absurd h
  reported r run told left Budget h = absurd h
  reported r run told left NoMemory h = record { left = left; held = h }
