-- What is read of a sample's array.
use Rattle.std.proofs.Common.{◌≡◌, ℕ, suc, ◌+◌, ◌-◌, ◌*◌, ◌/◌, ◌%◌, ◌^◌, ◌<◌, ◌≤◌, List, [], ◌∷◌, map, length, get_or, Some, option_and_then, inl, inr, inl, inr, refl, sym, ap, subst, ◌∙◌, arith}
use Rattle.std.specs.List.{AllByRecursion, range_with_len}
use Rattle.std.proofs.lemmas.List.FromFn.{fill_by_all, length-map-range_with_len, get_or-map-range_with_len}
use Rattle.std.proofs.lemmas.Option.{same_Some}
use Rattle.serde_json.specs.Data.{Data, Items, null, array, item, no_items}
use Rattle.serde_json.specs.View.{items_of}
use Rattle.json_trees.specs.Trees.{list_of}
use Rattle.hdf_types.specs.Types.{IsFormed, IsSoundType}
use Rattle.hdf_values.specs.Elements.{IsEncoded, bytes_of, decoded}
use Rattle.hdf_values.specs.Nested.{AreEncoded, FitsNested, nested_decoded, piece_at, tree_at}
use Rattle.hdf_values.proofs.ElementLemmas.{decoded-bytes_of, length-bytes_of}
use Rattle.hdf_values.proofs.JoinLemmas.{joined_piece}
use Rattle.hdf_values.proofs.NestedLemmas.{nested_fits}
use Rattle.hdf_values.proofs.PieceLemmas.{gathered_encoded}
use Rattle.hdf_values.proofs.RowLemmas.{element_found, item_at}
use Rattle.shapes.specs.RowMajor.{IsInside, cell_count, room_of}
use Rattle.shapes.specs.Shapes.{LiesIn}
use Rattle.shapes.specs.declared.Shape.{Shape}
use Rattle.shapes.specs.declared.Shape.TheVariants.{Simple}
use Rattle.chunk_store.specs.Grids.{Grid, reads, value_at}
use Rattle.hyperslab.specs.Selected.{IsSlab, SlabIn, cell_at, extents, slab_cells}
use Rattle.hyperslab.specs.declared.Slab.{Slab}
use Rattle.hyperslab.specs.declared.TheConstants.{MAX_SELECTED}
use Rattle.hyperslab.proofs.AxisLemmas.{extent_some}
use Rattle.hyperslab.proofs.CellLemmas.{cells_counted, cells_listed, cells_within}
use Rattle.samples.specs.Values.Samples.{element}
use Rattle.samples.specs.Trees.{IsSample, i32, listed, read_row, read_tree, slab_of, whole}
use Rattle.samples.proofs.ValueLemmas.{element_small, number_fits}
use Rattle.json_trees.proofs.ListLemmas.{all_at}

-- ---- lists that are told by their members

all_from : {A : Type 0} (F : A → Type 0) (xs : List A) (d : A) → ((i : ℕ) → i < length xs → F (get_or xs i d)) → AllByRecursion F xs
all_from F [] d h = tt
all_from F (x ∷ xs) d h = (h 0 (omega arith), all_from F xs d (λ i l. h (suc i) (omega arith)))

items_of-list_of : (items : Items) → items_of (list_of items) ≡ items
items_of-list_of no_items = refl
items_of-list_of (item d ds) = ap (item d) (items_of-list_of ds)

made_of : (items : Items) (x : ℕ → Data) (many : ℕ) → length (list_of items) ≡ many → ((i : ℕ) → i < many → get_or (list_of items) i null ≡ x i)
    → array items ≡ listed (map x (range_with_len 0 many))
made_of items x many long each = ap array (sym (items_of-list_of items)) ∙ ap listed (fill_by_all x (list_of items) many null long each)

-- of one axis
row_is : (d : Data) (x : ℕ → Data) (many : ℕ) → FitsNested i32 (many ∷ []) d → ((i : ℕ) → i < many → tree_at (i ∷ []) d ≡ Some (x i)) → d ≡ listed (map x (range_with_len 0 many))
row_is d x many fits each =
    let items = fits.0 in
    fits.1
    ∙ made_of items x many fits.2 (λ i h.
    let there : i < length (list_of fits.0) = omega (arith, fits.2) in
    same_Some (get_or (list_of items) i null) (x i)
    (sym (ap (λ o. option_and_then (tree_at []) o) (item_at items i there)) ∙ (sym (ap (tree_at (i ∷ [])) fits.1) ∙ each i h)))

-- of two axes
rows_are : (d : Data) (x : ℕ → ℕ → Data) (rows columns : ℕ) → FitsNested i32 (rows ∷ columns ∷ []) d
    → ((i j : ℕ) → i < rows → j < columns → tree_at (i ∷ j ∷ []) d ≡ Some (x i j))
    → d ≡ listed (map (λ i. listed (map (x i) (range_with_len 0 columns))) (range_with_len 0 rows))
rows_are d x rows columns fits each =
    let items = fits.0 in
    fits.1
    ∙ made_of items (λ i. listed (map (x i) (range_with_len 0 columns))) rows fits.2 (λ i h.
    let there : i < length (list_of fits.0) = omega (arith, fits.2) in
    row_is (get_or (list_of items) i null) (x i) columns (all_at (FitsNested i32 (columns ∷ [])) (list_of items) i null there fits.3)
    (λ j k. sym (ap (λ o. option_and_then (tree_at (j ∷ [])) o) (item_at items i there)) ∙ (sym (ap (tree_at (i ∷ j ∷ [])) fits.1) ∙ each i j h k)))

-- ---- the bytes of the cells

cell_split : (at : List ℕ) → IsInside at (1000 ∷ 1000 ∷ []) → (row : ℕ) × (column : ℕ) × (row < 1000) × (column < 1000) × (at ≡ row ∷ column ∷ [])
cell_split [] h = absurd h
cell_split (row ∷ []) h = absurd h.1
cell_split (row ∷ (column ∷ [])) h = (row, column, h.0, h.1.0, refl)
cell_split (row ∷ (column ∷ (k ∷ ks))) h = absurd h.1.1

cell_encoded : (n : ℕ) (g : Grid) (at : List ℕ) → n < 2 ^ 64 → IsSample n g → LiesIn at g.shape → IsEncoded i32 (value_at g at)
cell_encoded n g at small s h =
    let parts = cell_split at (subst (λ (shape : Shape). LiesIn at shape) s.shape h) in
    let k = element n (parts.0 * 1000 + parts.1) in
    (whole k, number_fits k (element_small n (parts.0 * 1000 + parts.1) small), sym (ap (value_at g) parts.4 ∙ s.cells parts.0 parts.1 parts.2 parts.3))

formed : IsFormed i32
formed = inr (inr (inl refl))

pub i32_sound : IsSoundType i32
i32_sound = record { formed = formed; nested = omega arith; small = omega arith }

encoded_long : (bs : List ℕ) → IsEncoded i32 bs → length bs ≡ 4
encoded_long bs h = sym (ap length h.2) ∙ length-bytes_of i32 h.0 formed h.1

-- ---- the slab

slab_extents : (a : ℕ) → extents (slab_of a) ≡ 100 ∷ 143 ∷ []
slab_extents a =
    let many : (a + 100 - a - 1) / 1 + 1 ≡ 100 = omega arith in
    ap (λ (m : ℕ). m ∷ 143 ∷ []) (extent_some a (a + 100) 1 (omega arith) ∙ many)

pub slab_is : (a : ℕ) → a + 100 ≤ 1000 → IsSlab (slab_of a)
slab_is a h = record {
  ranked = record { few_axes = omega arith; stops = refl; steps = refl };
  sound = ((omega arith, omega arith, omega arith), ((omega arith, omega arith, omega arith), tt));
  room = subst (λ (ns : List ℕ). room_of ns ≤ MAX_SELECTED) (sym (slab_extents a)) (omega arith);
}

pub slab_in : (a : ℕ) (limits : List ℕ) → a + 100 ≤ 1000 → SlabIn (slab_of a) (Simple (1000 ∷ 1000 ∷ []) limits)
slab_in a limits h = (h, (omega arith, tt))

slab_cell : (a i j : ℕ) → j < 143 → cell_at (slab_of a) (i * 143 + j) ≡ (a + i) ∷ (7 * j) ∷ []
slab_cell a i j l =
    let row : a + (i * 143 + j) / 143 * 1 ≡ a + i = omega arith in
    let column : 0 + (i * 143 + j) % 143 / 1 * 7 ≡ 7 * j = omega arith in
    cc

-- the cells of the slab in an array of a sample
record AreSlabCells (a : ℕ) (s : Slab) (g : Grid) : Type 0 where
  long : length (slab_cells s g.shape) ≡ 14300
  at : (i j : ℕ) → i < 100 → j < 143 → get_or (slab_cells s g.shape) (i * 143 + j) [] ≡ (a + i) ∷ (7 * j) ∷ []
  within : (k : ℕ) → k < length (slab_cells s g.shape) → LiesIn (get_or (slab_cells s g.shape) k []) g.shape

slab_there : (a n : ℕ) (s : Slab) (g : Grid) → a + 100 ≤ 1000 → IsSample n g → s ≡ slab_of a → AreSlabCells a s g
slab_there a n s g h sample is =
    let slab : IsSlab s = subst IsSlab (sym is) (slab_is a h) in
    let inside : SlabIn s g.shape = subst (λ (t : Slab). SlabIn t g.shape) (sym is) (subst (SlabIn (slab_of a)) (sym sample.shape) (slab_in a sample.limits h)) in
    let exts : extents s ≡ 100 ∷ 143 ∷ [] = ap extents is ∙ slab_extents a in
    let many : cell_count (extents s) ≡ 14300 = ap cell_count exts in
    record {
      long = cells_counted s g.shape slab inside ∙ many;
      at = λ i j k l. cells_listed s g.shape (i * 143 + j) slab inside (omega (arith, many)) ∙ (ap (λ (t : Slab). cell_at t (i * 143 + j)) is ∙ slab_cell a i j l);
      within = λ k l. cells_within s g.shape k [] l;
    }

-- ---- what is read

number_back : (k : ℕ) → k < 2 ^ 31 → decoded i32 (bytes_of i32 (whole k)) ≡ whole k
number_back k h = decoded-bytes_of i32 (whole k) formed (number_fits k h)

-- the element at a row and a column of the slab
element_read : (a n i j : ℕ) (s : Slab) (g : Grid) → n < 2 ^ 64 → a + 100 ≤ 1000 → IsSample n g → AreSlabCells a s g → i < 100 → j < 143
    → decoded i32 (piece_at 4 (i * 143 + j) (reads g (slab_cells s g.shape))) ≡ whole (element n ((a + i) * 1000 + 7 * j))
element_read a n i j s g small low sample there k l =
    let cells = slab_cells s g.shape in
    let p = i * 143 + j in
    let e = element n ((a + i) * 1000 + 7 * j) in
    let long = all_from (λ at. length (value_at g at) ≡ 4) cells [] (λ q m. encoded_long (value_at g (get_or cells q [])) (cell_encoded n g (get_or cells q []) small sample (there.within q m))) in
    let within : i * 143 + j < length (slab_cells s g.shape) = omega (arith, there.long) in
    ap (decoded i32) (joined_piece 4 p (value_at g) cells [] long within ∙ (ap (value_at g) (there.at i j k l) ∙ sample.cells (a + i) (7 * j) (omega arith) (omega arith)))
    ∙ number_back e (element_small n ((a + i) * 1000 + 7 * j) small)

bytes_read : (a n : ℕ) (s : Slab) (g : Grid) → n < 2 ^ 64 → IsSample n g → AreSlabCells a s g → AreEncoded i32 14300 (reads g (slab_cells s g.shape))
bytes_read a n s g small sample there =
    let cells = slab_cells s g.shape in
    subst (λ (m : ℕ). AreEncoded i32 m (reads g cells)) there.long
    (gathered_encoded i32 (value_at g) cells i32_sound (all_from (λ at. IsEncoded i32 (value_at g at)) cells [] (λ q m. cell_encoded n g (get_or cells q []) small sample (there.within q m))))

-- what bytes stand for over two axes, by the number at each row and column
decoded_are : (rows columns : ℕ) (bs : List ℕ) (x : ℕ → ℕ → Data) → IsSoundType i32 → AreEncoded i32 (cell_count (rows ∷ columns ∷ [])) bs
    → ((i j : ℕ) → i < rows → j < columns → decoded i32 (piece_at 4 (i * columns + j) bs) ≡ x i j)
    → nested_decoded i32 (rows ∷ columns ∷ []) bs ≡ listed (map (λ i. listed (map (x i) (range_with_len 0 columns))) (range_with_len 0 rows))
decoded_are rows columns bs x sound encoded each =
    rows_are (nested_decoded i32 (rows ∷ columns ∷ []) bs) x rows columns (nested_fits i32 (rows ∷ columns ∷ []) bs sound encoded).0
    (λ i j h k.
    let at : i * (columns * 1) + (j * 1 + 0) ≡ i * columns + j = omega arith in
    element_found i32 (rows ∷ columns ∷ []) (i ∷ j ∷ []) bs encoded.whole (h, (k, tt))
    ∙ ap (λ (p : ℕ). Some (decoded i32 (piece_at 4 p bs))) at
    ∙ ap Some (each i j h k))

-- rows that begin later
later_rows : (f : ℕ → Data) (a many : ℕ) → map (λ i. f (a + i)) (range_with_len 0 many) ≡ map f (range_with_len a many)
later_rows f a many =
    sym (fill_by_all (λ i. f (a + i)) (map f (range_with_len a many)) many null (length-map-range_with_len f a many) (λ k h. get_or-map-range_with_len f a many k (a + k) null h refl))

rows_read : (n a rows columns : ℕ)
    → listed (map (λ i. listed (map (λ j. whole (element n ((a + i) * 1000 + 7 * j))) (range_with_len 0 columns))) (range_with_len 0 rows)) ≡ read_tree n a rows columns
unfolding read_tree read_row
rows_read n a rows columns = ap listed (later_rows (read_row n columns) a rows)

-- the tree of a slab
pub slab_read : (a n : ℕ) (s : Slab) (g : Grid) → n < 2 ^ 64 → a + 100 ≤ 1000 → IsSample n g → s ≡ slab_of a
    → nested_decoded g.kind (extents s) (reads g (slab_cells s g.shape)) ≡ read_tree n a 100 143
slab_read a n s g small low sample is =
    let bs = reads g (slab_cells s g.shape) in
    let there = slab_there a n s g low sample is in
    ap (λ e. nested_decoded e (extents s) bs) sample.kind
    ∙ (ap (λ ns. nested_decoded i32 ns bs) (ap extents is ∙ slab_extents a)
    ∙ (decoded_are 100 143 bs (λ i j. whole (element n ((a + i) * 1000 + 7 * j))) i32_sound (bytes_read a n s g small sample there)
    (λ i j h k. element_read a n i j s g small low sample there h k)
    ∙ rows_read n a 100 143))

pub slab_many : (a n : ℕ) (g : Grid) → a + 100 ≤ 1000 → IsSample n g → length (slab_cells (slab_of a) g.shape) ≡ 14300
slab_many a n g low sample = (slab_there a n (slab_of a) g low sample refl).long
