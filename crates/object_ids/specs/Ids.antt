-- The ids of groups, datasets and committed datatypes.
use Rattle.std.specs.Prelude.{ℕ, ◌+◌, ◌*◌, ◌^◌, ◌/◌, ◌%◌, ◌<◌, List, ◌++◌, codes}
use Rattle.std.specs.Int.{to_be_bytes, w128}
use Rattle.uuid.specs.Text.{hyphenated_text, lower}
use Rattle.object_ids.specs.declared.ids.Kind.{Kind}
use Rattle.object_ids.specs.declared.ids.Kind.TheVariants.{Group, Dataset, Datatype}
use Rattle.object_ids.specs.IdValues.{Id}

-- what stands before the UUID
abbrev pub prefix_of : Kind → List ℕ
prefix_of Group = codes "g-"
prefix_of Dataset = codes "d-"
prefix_of Datatype = codes "t-"

-- 128 bits: 48 of the domain's number, the version 1000, 12 zeros, the variant 10, 22 of the run and 40 of the serial
abbrev pub bits_of : Id → ℕ
bits_of id = id.domain * 2 ^ 80 + 8 * 2 ^ 76 + 2 * 2 ^ 62 + id.run * 2 ^ 40 + id.serial

-- the bits as a UUID in lower case
abbrev pub uuid_of : Id → List ℕ
uuid_of id = hyphenated_text lower (to_be_bytes w128 (bits_of id))

-- the kind's letter and a hyphen, then the UUID
abbrev pub text_of_id : Id → List ℕ
text_of_id id = prefix_of id.kind ++ uuid_of id

-- what each `ObjectId` is
pub record InRange (id : Id) : Type 0 where
  pub domain : id.domain < 2 ^ 48
  pub run : id.run < 2 ^ 22
  pub serial : id.serial < 2 ^ 40

-- the id of a kind whose domain, run and serial stand in some bits
abbrev pub id_in : Kind → ℕ → Id
id_in kind bits = record { kind = kind; domain = bits / 2 ^ 80; run = bits / 2 ^ 40 % 2 ^ 22; serial = bits % 2 ^ 40 }

-- the lane of an id: its serial's remainder by the number of lanes
abbrev pub lane_of : ℕ → Id → ℕ
lane_of lanes id = id.serial % lanes
