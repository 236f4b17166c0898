-- The trees of a sample: the value of its dataset, and what is read of it.
use Rattle.std.specs.Prelude.{◌≡◌, true, false, ℕ, ◌+◌, ◌*◌, ◌<◌, List, [], ◌∷◌, ◌++◌, map, codes, decimal}
use Rattle.std.specs.List.{range_with_len}
use Rattle.serde_json.specs.Data.{Data, number, unsigned, string, array, object, member, no_members}
use Rattle.serde_json.specs.View.{items_of}
use Rattle.hdf_types.specs.Elems.{Elem, int}
use Rattle.hdf_values.specs.Elements.{bytes_of}
use Rattle.shapes.specs.declared.Shape.TheVariants.{Simple}
use Rattle.chunk_store.specs.Grids.{Grid, value_at}
use Rattle.hyperslab.specs.declared.Slab.{Slab}
use Rattle.samples.specs.Values.Samples.{element}

abbrev pub whole : ℕ → Data
whole k = number (unsigned k)

abbrev pub listed : List Data → Data
listed ds = array (items_of ds)

-- ---- the dataset's value

-- so many elements from the linear index k on
unfoldable pub run_tree : ℕ → ℕ → ℕ → Data
run_tree n many k = listed (map (λ i. whole (element n (k + i))) (range_with_len 0 many))

-- rows of elements
unfoldable pub value_tree : ℕ → ℕ → ℕ → Data
value_tree n rows columns = listed (map (λ row. run_tree n columns (row * columns)) (range_with_len 0 rows))

-- ---- what is read of it

-- the columns 0, 7, and so on, so many of them
unfoldable pub read_row : ℕ → ℕ → ℕ → Data
read_row n many row = listed (map (λ j. whole (element n (row * 1000 + 7 * j))) (range_with_len 0 many))

-- the rows from a on, so many of them
unfoldable pub read_tree : ℕ → ℕ → ℕ → ℕ → Data
read_tree n a rows columns = listed (map (read_row n columns) (range_with_len a rows))

-- [a:a+100,0:1000:7]
abbrev pub slab_of : ℕ → Slab
slab_of a = record { start = a ∷ 0 ∷ []; stop = (a + 100) ∷ 1000 ∷ []; step = 1 ∷ 7 ∷ [] }

-- ---- the array

-- signed, 32 bits, the lowest byte first
abbrev pub i32 : Elem
i32 = int (record { signed = true; bits = 32; big = false })

-- an array of 1000 rows and 1000 columns with the elements in its cells
pub record IsSample (n : ℕ) (g : Grid) : Type 0 where
  pub kind : g.kind ≡ i32
  pub limits : List ℕ
  pub shape : g.shape ≡ Simple (1000 ∷ 1000 ∷ []) limits
  pub cells : (row column : ℕ) → row < 1000 → column < 1000 → value_at g (row ∷ column ∷ []) ≡ bytes_of i32 (whole (element n (row * 1000 + column)))

-- ---- the document

abbrev pub shape_tree : Data
shape_tree = object (member (codes "class") (string (codes "H5S_SIMPLE")) (member (codes "dims") (listed (whole 1000 ∷ whole 1000 ∷ [])) no_members))

abbrev pub dataset_tree : Data → Data
dataset_tree value = object (member (codes "shape") shape_tree (member (codes "type") (string (codes "H5T_STD_I32LE")) (member (codes "value") value no_members)))

abbrev pub link_tree : Data
link_tree = object (member (codes "id") (string (codes "d")) (member (codes "title") (string (codes "data")) no_members))

abbrev pub group_tree : Data
group_tree = object (member (codes "links") (listed (link_tree ∷ [])) no_members)

-- a root with a link to a dataset
unfoldable pub document_tree : Data → Data
document_tree dataset =
    object (member (codes "datasets") (object (member (codes "d") dataset no_members))
    (member (codes "groups") (object (member (codes "g") group_tree no_members))
    (member (codes "root") (string (codes "g")) no_members)))

-- the document of a sample
abbrev pub sample_tree : ℕ → Data
sample_tree n = document_tree (dataset_tree (value_tree n 1000 1000))

-- the text of the slab's selection
abbrev pub slab_text : ℕ → List ℕ
slab_text a = codes "[" ++ decimal a ++ codes ":" ++ decimal (a + 100) ++ codes ",0:1000:7]"
