-- What a new journal holds, and why none is made.
--     HoldsFirstWorld catalogue held      what is held describes the catalogue's world in run 0, with an empty group at each root
--     AreFirstRecords catalogue rs      the records that make such a map
--     ComeInTurn catalogue objects rs   those of the run and of the next number, of nodes, and of objects, in this order
--     IsFirstJournal catalogue lanes file      a journal for so many lanes of one batch, which is such records
--     MayRefuseMaking      why no journal is made
use Rattle.std.specs.Prelude.{◌≡◌, ◌≢◌, ℕ, List, [], ◌∷◌, ◌++◌, Ok}
use Rattle.std.specs.FinMap.{empty}
use Rattle.std.specs.List.{AllByRecursion}
use Rattle.flush_journal.specs.Files.{content, fresh}
use Rattle.flush_journal.specs.Records.{Held, Record, put_all}
use Rattle.flush_journal.specs.Refusals.{MayRefuseFirst}
use Rattle.flush_journal.specs.Standing.{with_batch}
use Rattle.flush_journal.specs.declared.why.Why.{Why}
use Rattle.flush_journal.specs.declared.why.Why.TheVariants.{NoMemory}
use Rattle.flush_journal.specs.Cuts.Cuts.{AreOnce}
use Rattle.object_acts.specs.Objects.{Objects}
use Rattle.object_records.specs.Keys.Keys.{next_key, run_key}
use Rattle.object_records.specs.Keys.Numbers.{next_bytes, run_bytes}
use Rattle.chunk_owner.specs.Slots.Bodies.{IsObjectRecord}
use Rattle.register.specs.Kept.{IsOfNode}
use Rattle.domains.specs.Contents.{Contents}
use Rattle.service_core.specs.Records.{DescribesWorld, IsWorldRecord}
use Rattle.service_core.specs.Steps.{World}
use Rattle.service_core.specs.Journals.Groups.{HasFirstGroups}

-- the catalogue's world in run 0, with an empty group at each domain's root, and nothing else
pub record HoldsFirstWorld (catalogue : Contents) (held : Held) : Type 0 where
  pub world : World
  pub nodes : world.register.catalogue ≡ catalogue
  pub groups : HasFirstGroups catalogue world.objects
  pub described : DescribesWorld held 0 world

-- first those of the run and of the next domain's number, then those of nodes, then those of objects
pub record ComeInTurn (catalogue : Contents) (objects : Objects) (records : List Record) : Type 0 where
  pub nodes : List Record
  pub groups : List Record
  pub are : records ≡ (run_key, run_bytes 0) ∷ (next_key, next_bytes catalogue.next) ∷ (nodes ++ groups)
  pub of_nodes : AllByRecursion IsOfNode nodes
  pub of_groups : AllByRecursion (IsObjectRecord objects) groups

-- records that make such a map: one for each key that is held, with the body of what stands there, and no other
pub record AreFirstRecords (catalogue : Contents) (records : List Record) : Type 0 where
  pub some : records ≢ []
  pub holds : HoldsFirstWorld catalogue (put_all records empty)
  pub once : AreOnce records
  pub each : AllByRecursion (IsWorldRecord holds.world) records
  pub bodies : AllByRecursion (λ r. r.1 ≢ []) records
  pub order : ComeInTurn catalogue holds.world.objects records

-- a journal for so many lanes that holds one batch, of such records
pub record IsFirstJournal (catalogue : Contents) (lanes : ℕ) (file : List ℕ) : Type 0 where
  pub records : List Record
  pub first : AreFirstRecords catalogue records
  pub is_journal : content file ≡ Ok (with_batch (fresh lanes) records)

-- Making the journal of a catalogue may be refused as making one of such records is, and for want of memory.
abbrev pub MayRefuseMaking : Contents → Type 0 → List ℕ → (room before now : ℕ) → Why → Type 0
MayRefuseMaking catalogue told file room before now NoMemory = Unit {0}
MayRefuseMaking catalogue told file room before now why =
    (rs : List Record) × AreFirstRecords catalogue rs × MayRefuseFirst rs told file room before now why
