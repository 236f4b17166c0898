-- The making of a journal by its status.
use Rattle.std.proofs.Common.{◌≡◌, ◌≢◌, ◌⊎◌, ℕ, ◌≤◌, List, length, take, refl, ◌∙◌, arith}
use Rattle.std.specs.Io.KnownBytes.{Keeps}
use Rattle.edge_traits.specs.declared.disk.Disk.{Ghosts}
use Rattle.configuration.specs.declared.config.Config.{Config}
use Rattle.flush_journal.specs.Files.{magic}
use Rattle.flush_journal.specs.Firsts.{MakesFirst}
use Rattle.flush_journal.specs.Records.{Record}
use Rattle.flush_journal.specs.Refusals.{NoMagic}
use Rattle.flush_journal.specs.Unchanged.{SameBytes}
use Rattle.flush_journal.specs.declared.why.Why.{Why}
use Rattle.flush_journal.specs.declared.why.Why.TheVariants as why
use Rattle.service_core.specs.Journals.FirstJournals.{AreFirstRecords, IsFirstJournal, MayRefuseMaking}
use Rattle.hsds_cli.specs.Lines.{IsPrinted, init_line}
use Rattle.hsds_cli.specs.Makings.{IsInit, making_status}
use Rattle.hsds_cli.specs.Runs.{IsRefusal}
use Rattle.hsds_cli.specs.Sides.{IsUntouched, Sides, Spells}
use Rattle.hsds_cli.specs.declared.status.Status.{Status}
use Rattle.hsds_cli.specs.declared.status.Status.TheVariants.{Done, Words, Configuration, ReadFault, WriteFault, DiskFault, NotAJournal, Refused, JournalExists, DoorFault, InputCut, UsedUp, Budget, NoMemory}
use Rattle.hsds_cli.proofs.Printing.{whole_line}

module _ {D : Type 0} (met : Ghosts D) (lanes : ℕ) (sides : Sides) (before after : D) where
  -- the configuration was refused
  pub init_refused : (status : Status) → IsRefusal sides.text sides.config_before sides.config_after status → IsUntouched sides → after ≡ before → IsInit met lanes sides before after status
  init_refused Configuration h still same = (h, (still, same))
  init_refused ReadFault h still same = (h, (still, same))
  init_refused NoMemory h still same = (still, same)
  init_refused Done h still same = absurd h
  init_refused Words h still same = absurd h
  init_refused WriteFault h still same = absurd h
  init_refused DiskFault h still same = absurd h
  init_refused NotAJournal h still same = absurd h
  init_refused Refused h still same = absurd h
  init_refused JournalExists h still same = absurd h
  init_refused DoorFault h still same = absurd h
  init_refused InputCut h still same = absurd h
  init_refused UsedUp h still same = absurd h
  init_refused Budget h still same = absurd h

  module _ (config : Config) (spelled : Spells sides.text config) where
    -- a journal was made, and its line printed
    pub init_made : NoMagic met.honest (met.reads before) → (met.honest → (image : List ℕ) → met.images after image → IsFirstJournal config.catalogue lanes image) → Keeps sides.left_before sides.left_after → (status : Status)
        → IsPrinted (init_line lanes config.catalogue) sides.held_before sides.held_after sides.out_before sides.out_after status → IsInit met lanes sides before after status
    init_made none images left Done h = (
      record {
        config = config;
        spelled = spelled;
        none = none;
        images = images;
        printed = length (init_line lanes config.catalogue);
        left = left;
        appended = whole_line (init_line lanes config.catalogue) sides.held_before sides.held_after h;
      },
      omega arith,
    )
    init_made none images left WriteFault h = (h.3, record { config = config; spelled = spelled; none = none; images = images; printed = h.0; left = left; appended = h.2 })
    init_made none images left Words h = absurd h
    init_made none images left Configuration h = absurd h
    init_made none images left ReadFault h = absurd h
    init_made none images left DiskFault h = absurd h
    init_made none images left NotAJournal h = absurd h
    init_made none images left Refused h = absurd h
    init_made none images left JournalExists h = absurd h
    init_made none images left DoorFault h = absurd h
    init_made none images left InputCut h = absurd h
    init_made none images left UsedUp h = absurd h
    init_made none images left Budget h = absurd h
    init_made none images left NoMemory h = absurd h

    -- none was made
    pub init_not_made : (refusal : Why) → MayRefuseMaking config.catalogue met.honest (met.reads before) (met.most before) (met.faults before) (met.faults after) refusal → IsUntouched sides
        → (met.honest → take 8 (met.reads before) ≡ magic → SameBytes met before after)
        → (met.honest → refusal ≢ why.DiskFault → SameBytes met before after)
        → (met.honest → refusal ≡ why.DiskFault → (rs : List Record) × AreFirstRecords config.catalogue rs × MakesFirst met lanes rs before after)
        → (refusal ≡ why.NoMemory → after ≡ before) → IsInit met lanes sides before after (making_status refusal)
    init_not_made why.DiskFault h still found refused stands same = (h.2, record { config = config; spelled = spelled; cause = h; untouched = still; found = found; refused = refused; stands = stands })
    init_not_made (why.JournalFull end need room) h still found refused stands same = (end, need, room, record { config = config; spelled = spelled; cause = h; untouched = still; found = found; refused = refused; stands = stands })
    init_not_made why.Exists h still found refused stands same = (h.2, record { config = config; spelled = spelled; cause = h; untouched = still; found = found; refused = refused; stands = stands })
    init_not_made (why.NotAJournal at) h still found refused stands same = absurd h.2
    init_not_made why.NoMemory h still found refused stands same = (still, same refl)
