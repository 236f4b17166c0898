-- The printing of a document by its status.
use Rattle.std.proofs.Common.{◌≡◌, ◌↔◌, inl, inr, ℕ, ◌≤◌, ◌^◌, List, [], ◌∷◌, ◌++◌, length, Option, Some, None, refl, ap, subst, ◌∙◌, arith}
use Rattle.std.specs.Io.KnownBytes.{Keeps}
use Rattle.serde_json.specs.Data.{Data}
use Rattle.serde_json.specs.Written.{compact_text}
use Rattle.documents.specs.Domains.Printed.{ReadsAs}
use Rattle.json_import.specs.Adoption.Laws.{ExportsAreLoaded, LinesAreLoaded}
use Rattle.edge_traits.specs.declared.disk.Disk.{Ghosts}
use Rattle.json_export.specs.Documents.{IsReadAs, IsTextOf, doc}
use Rattle.json_export.specs.declared.faults.ExportFault.TheVariants as export
use Rattle.service_core.specs.Journals.Opening.{IsOf, MayRefuseOpening}
use Rattle.service_core.specs.declared.journals.faults.OpenFault.{OpenFault}
use Rattle.service_core.specs.declared.journals.faults.OpenFault.TheVariants as fault
use Rattle.service_core.specs.Journals.Begun.{IsRecovered}
use Rattle.service_core.specs.Steps.{World}
use Rattle.hsds_cli.specs.Exports.{AreLoaded, IsDocumentTold, IsExported, IsGiven, IsLineOf, document_line}
use Rattle.hsds_cli.specs.Openings.{opening_status}
use Rattle.hsds_cli.specs.Sides.{IsUntouched, Sides}
use Rattle.hsds_cli.specs.declared.status.Status.{Status}
use Rattle.hsds_cli.specs.declared.status.Status.TheVariants.{Done, Words, Configuration, ReadFault, WriteFault, DiskFault, NotAJournal, Refused, JournalExists, DoorFault, InputCut, UsedUp, Budget, NoMemory}
use Rattle.hsds_cli.proofs.Printing.{whole_line}

-- the text that a call gave, with a line feed
pub line_given : (found : Option Data) (text line : List ℕ) → IsTextOf text found → length text ≤ 2 ^ 27 → IsReadAs text found → line ≡ text ++ 10 ∷ [] → IsLineOf found line
line_given None text line is short reads ends = absurd is
line_given (Some tree) text line is short reads ends = (
  tree,
  record {
    is = refl;
    short = subst (λ (l : List ℕ). length l ≤ 2 ^ 27) is short;
    reads = subst (λ (l : List ℕ). ReadsAs l tree) is (reads tree refl);
  },
  ends ∙ ap (λ (l : List ℕ). l ++ 10 ∷ []) is,
)

module _ {D : Type 0} (met : Ghosts D) (path : List ℕ) (sides : Sides) (before after : D) where
  -- no world was opened
  pub export_not_opened : (refusal : OpenFault) → MayRefuseOpening met.honest (met.reads before) (met.faults before) (met.faults after) refusal → IsUntouched sides
      → IsExported met path sides before after (opening_status refusal)
  export_not_opened fault.DiskFault h still = (h, still)
  export_not_opened (fault.NotAJournal at) h still = (λ honest. inl (at, h honest), still)
  export_not_opened (fault.BadRecord key) h still = (λ honest. inr (let found = h honest in (found.0, found.1, (key.items, found.2))), still)
  export_not_opened fault.RunsUsed h still = (h, still)
  export_not_opened fault.NoMemory h still = still

  module _ (texts : ExportsAreLoaded) (lines : LinesAreLoaded) (world : World) (recovered : met.honest → IsOf (met.reads before) (λ c. IsRecovered c.held world))
      (left : Keeps sides.left_before sides.left_after) where
    -- what was printed is loaded
    loaded : (tree : Data) → IsGiven (doc world path) tree → met.honest → AreLoaded world path tree
    loaded tree g honest home at =
        let r = (recovered honest).2 in (
          texts (recovered honest).0.held r.kept world path home tree (compact_text tree) r.described r.whole at g.is g.reads g.short,
          λ short. lines (recovered honest).0.held r.kept world path home tree (compact_text tree) r.described r.whole at g.is g.reads short,
        )

    -- a document was printed, or refused
    pub exported : (status : Status) → IsDocumentTold (doc world path) sides.held_before sides.held_after sides.out_before sides.out_after status → IsExported met path sides before after status
    exported Done h = (
      record {
        world = world;
        recovered = recovered;
        tree = h.0;
        given = h.1;
        loads = loaded h.0 h.1;
        printed = length (document_line h.0);
        left = left;
        appended = whole_line (document_line h.0) sides.held_before sides.held_after h.2;
      },
      omega arith,
    )
    exported WriteFault h = (h.2.3, record { world = world; recovered = recovered; tree = h.0; given = h.1; loads = loaded h.0 h.1; printed = h.2.0; left = left; appended = h.2.2 })
    exported Refused h = record { world = world; recovered = recovered; withheld = h.0; untouched = record { left = left; held = h.1 } }
    exported NoMemory h = record { left = left; held = h }
    exported Words h = absurd h.2
    exported Configuration h = absurd h.2
    exported ReadFault h = absurd h.2
    exported DiskFault h = absurd h.2
    exported NotAJournal h = absurd h.2
    exported JournalExists h = absurd h.2
    exported DoorFault h = absurd h.2
    exported InputCut h = absurd h.2
    exported UsedUp h = absurd h.2
    exported Budget h = absurd h.2
