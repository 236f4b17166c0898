-- Who asks for the slabs of a sample, and how.
use Rattle.std.specs.Prelude.{◌≡◌, ℕ, List, Some, codes}
use Rattle.object_ids.specs.IdValues.{Id}
use Rattle.object_ids.specs.declared.ids.Kind.TheVariants as kind
use Rattle.object_ops.specs.declared.ops.Op.{Op}
use Rattle.object_ops.specs.declared.ops.Op.TheVariants.{GetValue}
use Rattle.object_ops.specs.declared.ops.Request.{Request}
use Rattle.samples.specs.Trees.{slab_text}

abbrev pub sample_path : List ℕ
sample_path = codes "/sample"

abbrev pub sample_user : List ℕ
sample_user = codes "sample"

-- the first object behind the root of the first domain of run 1
abbrev pub dataset_id : Id
dataset_id = record { kind = kind.Dataset; domain = 1; run = 1; serial = 1 }

abbrev pub slab_op : ℕ → Op
slab_op a = GetValue dataset_id (Some (slab_text a))

-- the read of the slab whose rows begin at a
pub record IsSlabRequest (a : ℕ) (request : Request) : Type 0 where
  pub path : request.path ≡ sample_path
  pub op : request.op ≡ slab_op a
