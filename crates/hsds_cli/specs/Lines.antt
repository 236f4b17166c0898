-- The lines that commands print.
use Rattle.std.specs.Prelude.{ℕ, ◌≤◌, List, [], ◌∷◌, ◌++◌, length, take, Option, codes, decimal}
use Rattle.std.specs.Io.KnownBytes.{Appends, Keeps}
use Rattle.edge_traits.specs.Causes.{Rose}
use Rattle.json_import.specs.declared.adoption.counts.Counts.{Counts}
use Rattle.domains.specs.Changes.{domain_count, folder_count}
use Rattle.domains.specs.Contents.{Contents}
use Rattle.flush_journal.specs.declared.report.Report.{Report}
use Rattle.hsds_cli.specs.declared.status.Status.{Status}
use Rattle.hsds_cli.specs.declared.status.Status.TheVariants.{Done, WriteFault, NoMemory}

-- of so many lanes, folders and domains
abbrev pub made_line : ℕ → ℕ → ℕ → List ℕ
made_line lanes folders domains = codes "lanes " ++ decimal lanes ++ codes ", folders " ++ decimal folders ++ codes ", domains " ++ decimal domains ++ 10 ∷ []

-- what `init` prints of the folders and domains that it kept
abbrev pub init_line : ℕ → Contents → List ℕ
init_line lanes c = made_line lanes (folder_count c) (domain_count c)

-- what `verify` prints of a journal's numbers and its run
abbrev pub verify_line : Report → ℕ → List ℕ
verify_line r run =
    codes "version " ++ decimal r.version ++ codes ", lanes " ++ decimal r.lanes ++ codes ", run " ++ decimal run ++ codes ", batches " ++ decimal r.batches ++ codes ", end " ++ decimal r.end
    ++ 10 ∷ []

-- what `import` prints of how much the document held
abbrev pub import_line : Counts → List ℕ
import_line c = codes "groups " ++ decimal c.groups ++ codes ", datasets " ++ decimal c.datasets ++ codes ", datatypes " ++ decimal c.datatypes ++ 10 ∷ []

-- the line was written, or the output had a fault and has a front of it
abbrev pub IsPrinted : List ℕ → Option (List ℕ) → Option (List ℕ) → ℕ → ℕ → Status → Type 0
IsPrinted line before after faults_before faults_after Done = Appends before after line
IsPrinted line before after faults_before faults_after WriteFault =
    (n : ℕ) × (n ≤ length line) × Appends before after (take n line) × Rose faults_before faults_after
IsPrinted line before after faults_before faults_after status = ⊥

-- so it was, or there was no memory for the line
abbrev pub IsTold : List ℕ → Option (List ℕ) → Option (List ℕ) → ℕ → ℕ → Status → Type 0
IsTold line before after faults_before faults_after NoMemory = Keeps before after
IsTold line before after faults_before faults_after status = IsPrinted line before after faults_before faults_after status
