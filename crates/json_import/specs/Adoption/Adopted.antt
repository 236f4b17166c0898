-- What a world is once a document was adopted.
--     drawn d many      the register once so many serials more were drawn
--     root_at d      the id of the root of the next domain
--     objects_adopted d l objects      with those of a document, at the ids that the next domain's get
--     IsReadBack d l w path      the document at a path holds what any document of the value held, under the next domain's fresh ids
use Rattle.std.specs.Prelude.{◌≡◌, ℕ, ◌+◌, List, Some}
use Rattle.std.specs.FinMap.{len}
use Rattle.object_ids.specs.IdValues.{Id}
use Rattle.serde_json.specs.Data.{Data}
use Rattle.domains.specs.Changes.{root_of}
use Rattle.register.specs.Decided.{RegisterState, domain_added}
use Rattle.service_core.specs.Steps.{World}
use Rattle.json_export.specs.Documents.{doc}
use Rattle.documents.specs.Reader.Loads.{Loads}
use Rattle.documents.specs.declared.reader.loaded.Loaded.{Loaded}
use Rattle.json_import.specs.Fresh.Renamed.{objects_put, other_count}
use Rattle.json_import.specs.RoundTrips.Renamed.{renamed}
use Rattle.json_import.specs.declared.adoption.counts.Counts.{Counts}
use Rattle.object_acts.specs.Objects.{Objects}

abbrev pub drawn : RegisterState → ℕ → RegisterState
drawn d many = record d { serial = d.serial + many }

abbrev pub root_at : RegisterState → Id
root_at d = root_of d.catalogue.next d.run d.serial

-- the register: a new domain, and a serial for each object
abbrev pub register_adopted : RegisterState → List ℕ → List ℕ → Loaded → RegisterState
register_adopted d path owner l = drawn (domain_added d path owner) (other_count l)

-- the document's objects at the ids of the new domain
abbrev pub objects_adopted : RegisterState → Loaded → Objects → Objects
objects_adopted d l objects = objects_put l (root_at d) objects

-- there is a document at the path, and it is loaded as the value under the fresh ids of the register's next domain, where the
-- value was loaded from any document
abbrev pub IsReadBack : RegisterState → Loaded → World → List ℕ → Type 0
IsReadBack d l w path = (tree : Data) → Loads tree l
    → (printed : Data) × (doc w path ≡ Some printed) × Loads printed (renamed l (root_at d))

abbrev pub counts_of : Loaded → Counts
counts_of l = record { groups = len l.groups; datasets = len l.datasets; datatypes = len l.datatypes }
