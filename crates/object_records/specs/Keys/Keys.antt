-- The keys of records.
use Rattle.std.specs.Prelude.{◌≡◌, ℕ, List, [], ◌∷◌, ◌++◌, Some}
use Rattle.std.specs.Int.{to_be_bytes, w128}
use Rattle.std.specs.Str.{IsUtf8}
use Rattle.object_ids.specs.IdOrder.{kind_rank}
use Rattle.object_ids.specs.IdValues.{Id}
use Rattle.object_ids.specs.Ids.{InRange, bits_of}
use Rattle.object_ids.specs.Paths.{path_of}
use Rattle.object_ids.specs.declared.ids.Kind.TheVariants.{Dataset}
use Rattle.object_records.specs.Keys.Numbers.{AreNumbers, number_bytes}

-- the 16 bytes of an id's UUID
unfoldable pub id_bytes : Id → List ℕ
id_bytes id = to_be_bytes w128 (bits_of id)

abbrev pub run_key : List ℕ
run_key = 1 ∷ []

-- the text of a path follows
abbrev pub node_key : List ℕ → List ℕ
node_key path = 2 ∷ path

-- the kind and the id follow
abbrev pub object_key : Id → List ℕ
object_key id = 3 ∷ kind_rank id.kind ∷ id_bytes id

-- the id of the dataset follows, and four bytes for each number of the chunk's index
abbrev pub chunk_key : Id → List ℕ → List ℕ
chunk_key dataset index = 4 ∷ (id_bytes dataset ++ number_bytes index)

abbrev pub next_key : List ℕ
next_key = 5 ∷ []

-- ---- what records are for

-- a text that is a path in its canonical form
pub record IsPath (path : List ℕ) : Type 0 where
  pub utf8 : IsUtf8 path
  pub canonical : path_of path ≡ Some path

-- a dataset, and a number for each axis
pub record IsChunk (dataset : Id) (index : List ℕ) : Type 0 where
  pub kind : dataset.kind ≡ Dataset
  pub id : InRange dataset
  pub numbers : AreNumbers index

-- what a record is for
pub data Subject : Type 0 where
  the_run : Subject
  node : List ℕ → Subject
  object : Id → Subject
  chunk : Id → List ℕ → Subject
  next_number : Subject

abbrev pub key_of : Subject → List ℕ
key_of the_run = run_key
key_of (node path) = node_key path
key_of (object id) = object_key id
key_of (chunk dataset index) = chunk_key dataset index
key_of next_number = next_key

-- there may be a record of it
abbrev pub IsSubject : Subject → Type 0
IsSubject the_run = Unit {0}
IsSubject (node path) = IsPath path
IsSubject (object id) = InRange id
IsSubject (chunk dataset index) = IsChunk dataset index
IsSubject next_number = Unit {0}
