-- What is written to a dataset, and at which cells.
use Rattle.std.specs.Prelude.{◌||◌, Option, Some, None, is_some, Result, Ok, Err, if◌then◌else◌, codes}
use Rattle.serde_json.specs.Data.{Data}
use Rattle.serde_json.specs.Find.{get}
use Rattle.json_trees.specs.Faults.{◌>>=◌}
use Rattle.object_ops.specs.declared.ops.Part.{Part}
use Rattle.object_ops.specs.declared.ops.Part.TheVariants.{Slab, Points}
use Rattle.object_ops.specs.declared.refusals.Refusal.{Refusal}
use Rattle.object_ops.specs.declared.refusals.Refusal.TheVariants.{BadField}
use Rattle.object_ops.specs.declared.words.FieldWord.TheVariants as field
use Rattle.request_bodies.specs.Refusing.{or_refuse}
use Rattle.request_bodies.specs.declared.value_bodies.ValueBody.{ValueBody}

-- the part of a dataset: points alone, or a slab by what is there of its three lists
abbrev pub part_by : (points start stop step : Option Data) → Result Part Refusal
part_by None start stop step = Ok (Slab start stop step)
part_by (Some points) start stop step = if is_some start || is_some stop || is_some step then Err (BadField field.Points) else Ok (Points points)

abbrev pub part_at : Data → Result Part Refusal
part_at d = part_by (get (codes "points") d) (get (codes "start") d) (get (codes "stop") d) (get (codes "step") d)

-- the part that is written, and the value
abbrev pub write_in : Data → Result (Part × Data) Refusal
write_in d = or_refuse (BadField field.Value) (get (codes "value") d) >>= λ value. part_at d >>= λ part. Ok (part, value)

-- the same of what stands at the five keys
abbrev pub write_by : ValueBody → Result (Part × Data) Refusal
write_by body = or_refuse (BadField field.Value) body.value >>= λ value. part_by body.points body.start body.stop body.step >>= λ part. Ok (part, value)

-- the points that are read
abbrev pub points_in : Data → Result Data Refusal
points_in d = or_refuse (BadField field.Points) (get (codes "points") d)

abbrev pub points_by : ValueBody → Result Data Refusal
points_by body = or_refuse (BadField field.Points) body.points
