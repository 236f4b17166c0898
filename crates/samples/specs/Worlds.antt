-- A world that holds a sample.
use Rattle.std.specs.Prelude.{◌≡◌, ℕ, Some, Result, Ok, Err, codes}
use Rattle.std.specs.FinMap.{get}
use Rattle.serde_json.specs.Data.{Data}
use Rattle.domains.specs.Changes.{new_domain}
use Rattle.attributes.specs.AttributeMaps.{AttributeMap}
use Rattle.chunk_store.specs.Grids.{Grid}
use Rattle.object_acts.specs.Objects.{bare}
use Rattle.object_acts.specs.declared.objects.Body.TheVariants.{Dataset}
use Rattle.object_ops.specs.Replies.{only}
use Rattle.object_ops.specs.declared.replies.Reply.TheVariants.{Done}
use Rattle.register.specs.Decided.{RegisterState}
use Rattle.service_core.specs.Steps.{World}
use Rattle.service_core.specs.declared.answers.What.{What}
use Rattle.service_core.specs.declared.answers.What.TheVariants.{Replied}
use Rattle.samples.specs.Values.Samples.{slab_sum}
use Rattle.samples.specs.Requests.{dataset_id, sample_path, sample_user}
use Rattle.samples.specs.Trees.{IsSample, read_tree}

-- a register that gave out nothing in run 1
pub record IsFirst (d : RegisterState) : Type 0 where
  pub next : d.catalogue.next ≡ 1
  pub run : d.run ≡ 1
  pub serial : d.serial ≡ 0

-- the domain of the user stands at its path, and its dataset has the elements
pub record HoldsSample (n : ℕ) (w : World) : Type 0 where
  pub node : get w.register.catalogue.nodes sample_path ≡ Some (new_domain 1 1 0 sample_user)
  pub attributes : AttributeMap
  pub array : Grid
  pub object : get w.objects dataset_id ≡ Some (record { attributes = attributes; body = Dataset (bare array) })
  pub elements : IsSample n array

-- ---- what the read of a slab gives

-- the sum of the slab, from a world that holds the sample afterwards too
abbrev pub IsSummed : {E : Type 0} → ℕ → ℕ → Result ℕ E → World → Type 0
IsSummed n a (Ok sum) new = (sum ≡ slab_sum n a) × HoldsSample n new
IsSummed n a (Err e) new = Unit {0}

-- something was answered, and this is its sum: of a slab of a sample it is the slab's
abbrev pub IsSumOf : {E : Type 0} → What → Result ℕ E → Type 0
IsSumOf what (Ok sum) =
    (status : ℕ) × (body : Data) × (what ≡ Replied (Done status body)) × ((n a : ℕ) → body ≡ only (codes "value") (read_tree n a 100 143) → sum ≡ slab_sum n a)
IsSumOf what (Err e) = Unit {0}
