-- Types, shapes, attributes' contents, creation properties and arrays are read again from the trees that are printed of them.
use Rattle.std.proofs.Common.{◌≡◌, ◌↔◌, ℕ, zero, suc, ◌*◌, ◌<◌, All, true, List, [], ◌∷◌, cond, length, map, inl, inr, nat_le, slice_index_or, Option, Some, None, Ok, Err, codes, refl, sym, ap, subst, ◌∙◌, arith}
use Rattle.std.specs.List.{AllByRecursion}
use Rattle.std.proofs.lemmas.List.{length-map, take_all, take_at, drop_at, nil_from_length}
use Rattle.serde_json.specs.Data.{Data, object, no_members}
use Rattle.serde_json.specs.Find.{get}
use Rattle.json_trees.proofs.FaultLemmas.{bind_ok, test_ok}
use Rattle.hdf_types.specs.Elems.{Elem}
use Rattle.hdf_types.specs.Faults as types
use Rattle.hdf_types.specs.Printed.{type_tree}
use Rattle.hdf_types.specs.Reading.{size_of}
use Rattle.hdf_types.specs.Types.{IsSoundType}
use Rattle.hdf_types.proofs.PrintLemmas.{reads_back as type_back}
use Rattle.hdf_types.proofs.SoundLemmas.{sound_type}
use Rattle.hdf_types.proofs.TypeLemmas.{type_told}
use Rattle.shapes.specs.declared.Shape.{Shape}
use Rattle.shapes.specs.declared.Shape.TheVariants.{Null, Scalar, Simple}
use Rattle.shapes.specs.declared.printing.Form.TheVariants.{Document, Rest}
use Rattle.shapes.specs.RowMajor.{linear_index}
use Rattle.shapes.specs.Printed.{numbers_tree, shape_tree}
use Rattle.shapes.specs.Shapes.{IsShape, IsSound, LiesIn, cells_of, count_of, dims_of, shape_of}
use Rattle.shapes.proofs.CellLemmas.{cell-index, cell_once, cells_inside, cells_length, index_counted}
use Rattle.shapes.proofs.ShapeLemmas.{reads_back as shape_back, shape_sound, shape_told}
use Rattle.hdf_values.specs.Attributes.{Content, IsTypeAt, attribute_of, most_bytes, shape_or, sized_at, type_or, typed_at, value_or, valued_at}
use Rattle.hdf_values.specs.declared.attributes.AttributeFault.TheVariants.{TooLarge}
use Rattle.hdf_values.specs.Elements.{IsEncoded, zero_of}
use Rattle.hdf_values.specs.Nested.{AreEncoded, piece_at}
use Rattle.hdf_values.specs.Shaped.{value_from, value_tree}
use Rattle.hdf_values.proofs.ElementLemmas.{zero_fits}
use Rattle.hdf_values.proofs.PieceLemmas.{gathered_encoded, piece-first, piece-later}
use Rattle.hdf_values.proofs.ShapedLemmas.{value_back}
use Rattle.chunk_layout.specs.Defaults.{IsDefault}
use Rattle.chunk_layout.specs.Layouts.{Fits, SpellsChunk}
use Rattle.chunk_layout.proofs.LayoutLemmas.{spells_fits}
use Rattle.chunk_layout.specs.DefaultChunks.Halving.{default_chunk}
use Rattle.chunk_layout.proofs.DefaultChunks.HalvingLemmas.{default_is, no_default}
use Rattle.chunk_store.specs.Grids.{Grid, IsWhole, blank_of, reads, value_at, writes, written}
use Rattle.chunk_store.specs.Listed.{IsOnce}
use Rattle.chunk_store.specs.Picked.{cells_from}
use Rattle.chunk_store.proofs.GridLemmas.{reads_same, value-tabulated}
use Rattle.chunk_store.proofs.PickLemmas.{cells_inside as each_inside}
use Rattle.chunk_store.proofs.SameLemmas.{same_grids}
use Rattle.object_ops.specs.Creation.Creations.{creation_of}
use Rattle.object_ops.specs.Creation.Spelled.{IsCreation, IsFill, IsNoFilter}
use Rattle.object_acts.specs.Arrays.Creation.{creation_tree, layout_tree}
use Rattle.documents.specs.Parts.Arrays.{blank, with_bytes}
use Rattle.documents.specs.Parts.Spelled.{HasCells, IsArray}
use Rattle.json_import.proofs.RoundTrips.ValueLemmas.{IsAgain, element_again, fit_again, repeated, repeated_again, repeated_flat, value_again}
use Rattle.containers.proofs.Plain.{ok_same}
use Rattle.object_records.proofs.CreationLemmas.{numbers_spelled, tree_of}
use Rattle.hdf_values.proofs.AttributeLemmas.{shape_ok, value_ok, typed_sound}

-- ---- types and shapes

pub kind_sound : (o : Option Data) (e : Elem) → IsTypeAt o e → IsSoundType e
kind_sound None e h = absurd h
kind_sound (Some d) e h = sound_type d e h

pub kind_again : (o : Option Data) (e : Elem) → IsTypeAt o e → IsTypeAt (Some (type_tree e)) e
kind_again o e h = type_told (type_tree e) e (type_back e (type_tree e) (kind_sound o e h) refl)

pub shape_again : (o : Option Data) (s : Shape) → IsShape o None s → IsShape (Some (shape_tree s Document)) None s
shape_again o s h = shape_told (Some (shape_tree s Document)) None s (shape_back s Document (shape_tree s Document) (shape_sound o None s h) refl)

-- ---- the content of an attribute

-- what is printed of it is read
record IsPrinted (c : Content) : Type 0 where
  pub kind : IsSoundType c.kind
  pub shape : IsSound c.shape
  pub small : nat_le (count_of c.shape * size_of c.kind) most_bytes ≡ true
  pub value : value_from c.kind c.shape (value_tree c.kind c.shape c.bytes) ≡ Ok c.bytes

valued_again : (e : Elem) (s : Shape) (o : Option Data) (bs : List ℕ) → IsSoundType e → valued_at e s o ≡ Ok bs
    → value_from e s (value_tree e s bs) ≡ Ok bs
valued_again e s None bs sound h = absurd cc
valued_again e s (Some d) bs sound h = (value_again e s d bs sound.formed h).again

content_printed : (d : Data) (c : Content) → attribute_of d ≡ Ok c → IsPrinted c
unfolding attribute_of
content_printed d c h =
    let a = bind_ok (typed_at (get (codes "type") d)) _ c h in
    let b = bind_ok (shape_or (shape_of (get (codes "shape") d) None)) _ c a.2 in
    let v = bind_ok (sized_at a.0 b.0 (value_or (valued_at a.0 b.0 (get (codes "value") d)))) _ c b.2 in
    let kind = typed_sound (get (codes "type") d) a.0 a.1 in
    let told = test_ok (nat_le (count_of b.0 * size_of a.0) most_bytes) (value_or (valued_at a.0 b.0 (get (codes "value") d))) TooLarge v.0 v.1 in
    subst IsPrinted (ok_same (record { kind = a.0; shape = b.0; bytes = v.0 }) c v.2) (record {
      kind = kind;
      shape = shape_sound (get (codes "shape") d) None b.0 (shape_told (get (codes "shape") d) None b.0 (shape_ok (shape_of (get (codes "shape") d) None) b.0 b.1));
      small = told.0;
      value = valued_again a.0 b.0 (get (codes "value") d) v.0 kind (value_ok (valued_at a.0 b.0 (get (codes "value") d)) v.0 told.1);
    })

-- a tree that has the printed type, shape and value at their keys
printed_read : (d : Data) (c : Content) → IsPrinted c → get (codes "type") d ≡ Some (type_tree c.kind)
    → get (codes "shape") d ≡ Some (shape_tree c.shape Document)
    → get (codes "value") d ≡ Some (value_tree c.kind c.shape c.bytes) → attribute_of d ≡ Ok c
unfolding attribute_of
printed_read d c h t s v =
    let kind = ap typed_at t ∙ ap type_or (type_back c.kind (type_tree c.kind) h.kind refl) in
    let shape = ap (λ (o : Option Data). shape_or (shape_of o None)) s ∙ ap shape_or (shape_back c.shape Document (shape_tree c.shape Document) h.shape refl) in
    let value = ap (λ (o : Option Data). value_or (valued_at c.kind c.shape o)) v ∙ ap value_or h.value in
    let bytes = ap (sized_at c.kind c.shape) value ∙ ap (λ b. cond b (Ok c.bytes) (Err TooLarge)) h.small in
    rw (kind, shape, bytes) refl

pub content_again : (old new : Data) (c : Content) → attribute_of old ≡ Ok c → get (codes "type") new ≡ Some (type_tree c.kind)
    → get (codes "shape") new ≡ Some (shape_tree c.shape Document)
    → get (codes "value") new ≡ Some (value_tree c.kind c.shape c.bytes) → attribute_of new ≡ Ok c
content_again old new c h t s v = printed_read new c (content_printed old c h) t s v

-- ---- creation properties

abbrev FillAgain : Elem → Option (List ℕ) → Type 0
FillAgain e None = Unit {0}
FillAgain e (Some bs) = IsAgain e bs

fill_again : (e : Elem) (o : Option Data) (fill : Option (List ℕ)) → IsSoundType e → IsFill e o fill → FillAgain e fill
fill_again e None fill sound h = subst (FillAgain e) (sym h) tt
fill_again e (Some d) fill sound h = subst (FillAgain e) (sym h.2) (element_again e d h.0 sound.formed h.1)

-- what is known of a chunk and a fill that were read
record IsMade (e : Elem) (s : Shape) (p : List ℕ × Option (List ℕ)) : Type 0 where
  pub fits : Fits (size_of e) (dims_of s) p.0
  pub fill : FillAgain e p.1

made_of : (e : Elem) (s : Shape) (o : Option Data) (p : List ℕ × Option (List ℕ)) → IsSoundType e → IsSound s → IsCreation e s o p
    → IsMade e s p
made_of e s None p kind shape h = subst (IsMade e s) (sym h) (record {
  fits = spells_fits (object no_members) s (size_of e) (default_chunk (size_of e) (dims_of s)) shape ((no_members, refl), inl (inl refl, default_is (size_of e) (dims_of s)));
  fill = tt;
})
made_of e s (Some d) p kind shape h = record { fits = spells_fits d s (size_of e) p.0 shape h.chunk; fill = fill_again e (get (codes "fillValue") d) p.1 kind h.fill }

chunk_spelled : (e : Elem) (s : Shape) (chunk : List ℕ) (fill : Option (List ℕ)) → Fits (size_of e) (dims_of s) chunk
    → SpellsChunk (tree_of e s chunk fill) (dims_of s) (size_of e) chunk
chunk_spelled e Null chunk None h = ((_, refl), inl (inl refl, subst (IsDefault (size_of e) []) (no_default (size_of e) ∙ sym (nil_from_length chunk h.rank)) (default_is (size_of e) [])))
chunk_spelled e Null chunk (Some bs) h = ((_, refl), inl (inl refl, subst (IsDefault (size_of e) []) (no_default (size_of e) ∙ sym (nil_from_length chunk h.rank)) (default_is (size_of e) [])))
chunk_spelled e Scalar chunk None h = ((_, refl), inl (inl refl, subst (IsDefault (size_of e) []) (no_default (size_of e) ∙ sym (nil_from_length chunk h.rank)) (default_is (size_of e) [])))
chunk_spelled e Scalar chunk (Some bs) h = ((_, refl), inl (inl refl, subst (IsDefault (size_of e) []) (no_default (size_of e) ∙ sym (nil_from_length chunk h.rank)) (default_is (size_of e) [])))
chunk_spelled e (Simple dims limits) chunk None h = ((_, refl), inr ((layout_tree chunk, refl, refl, (numbers_tree Rest chunk, refl, numbers_spelled chunk)), h))
chunk_spelled e (Simple dims limits) chunk (Some bs) h = ((_, refl), inr ((layout_tree chunk, refl, refl, (numbers_tree Rest chunk, refl, numbers_spelled chunk)), h))

no_filter : (e : Elem) (s : Shape) (chunk : List ℕ) (fill : Option (List ℕ)) → IsNoFilter (get (codes "filters") (tree_of e s chunk fill))
no_filter e Null chunk None = tt
no_filter e Null chunk (Some bs) = tt
no_filter e Scalar chunk None = tt
no_filter e Scalar chunk (Some bs) = tt
no_filter e (Simple dims limits) chunk None = tt
no_filter e (Simple dims limits) chunk (Some bs) = tt

fill_spelled : (e : Elem) (s : Shape) (chunk : List ℕ) (fill : Option (List ℕ)) → FillAgain e fill
    → IsFill e (get (codes "fillValue") (tree_of e s chunk fill)) fill
fill_spelled e Null chunk None h = refl
fill_spelled e Null chunk (Some bs) h = (bs, h.again, refl)
fill_spelled e Scalar chunk None h = refl
fill_spelled e Scalar chunk (Some bs) h = (bs, h.again, refl)
fill_spelled e (Simple dims limits) chunk None h = refl
fill_spelled e (Simple dims limits) chunk (Some bs) h = (bs, h.again, refl)

made_spelled : (e : Elem) (s : Shape) (p : List ℕ × Option (List ℕ)) → IsMade e s p → IsCreation e s (Some (tree_of e s p.0 p.1)) p
made_spelled e s p h = record { chunk = chunk_spelled e s p.0 p.1 h.fits; filters = no_filter e s p.0 p.1; fill = fill_spelled e s p.0 p.1 h.fill }

-- ---- cells

cells_all : (s : Shape) → cells_from 0 (count_of s) s ≡ cells_of s
cells_all s = take_all (count_of s) (cells_of s) (omega (arith, cells_length s))

cells_apart : (s : Shape) → IsOnce (cells_of s)
cells_apart s = λ j k before within same.
    let many = cells_length s in
    let one = cell_once s j k (omega (arith, before, within, many)) (omega (arith, within, many)) same in
    absurd (omega (arith, before, one))

piece_repeated : (n k i : ℕ) (b : List ℕ) → length b ≡ k → i < n → piece_at k i (repeated n b) ≡ b
piece_repeated zero k i b size low = absurd (omega arith)
piece_repeated (suc n) k zero b size low = piece-first k (repeated (suc n) b) ∙ take_at b (repeated n b) k size
piece_repeated (suc n) k (suc i) b size low =
    piece-later k i (repeated (suc n) b) ∙ ap (piece_at k i) (drop_at b (repeated n b) k size) ∙ piece_repeated n k i b size (omega (arith, low))

blank_again : (e : Elem) (fill : Option (List ℕ)) → IsSoundType e → FillAgain e fill → IsAgain e (blank_of e fill)
blank_again e None sound h = fit_again e (zero_of e) sound.formed (zero_fits e sound.formed)
blank_again e (Some bs) sound h = h

-- ---- arrays

module _
    (creations : (e : Elem) (s : Shape) (tree : Option Data) (p : List ℕ × Option (List ℕ)) → (creation_of e s tree ≡ Ok p) ↔ IsCreation e s tree p)
    (back : (h : Grid) (ats : List (List ℕ)) (bytes : List ℕ) → All (λ at. LiesIn at h.shape) ats → IsOnce ats → length bytes ≡ length ats * size_of h.kind → reads (writes h ats bytes) ats ≡ bytes)
    (elements : (g : Grid) (bytes at : List ℕ) → LiesIn at g.shape → value_at (with_bytes g bytes) at ≡ piece_at (size_of g.kind) (linear_index at (dims_of g.shape)) bytes)
  where
    abbrev start : Grid → Grid
    start g = blank g.kind g.shape (g.chunk, g.fill)

    -- what is read of all cells stands in them, and can be read again
    abbrev HasAll : Grid → List ℕ → Type 0
    HasAll g bs = (value_from g.kind g.shape (value_tree g.kind g.shape bs) ≡ Ok bs) × (g ≡ with_bytes (start g) bs)

    read_all : (g : Grid) (bs : List ℕ) → length bs ≡ count_of g.shape * size_of g.kind → reads (with_bytes g bs) (cells_of g.shape) ≡ bs
    read_all g bs size =
        ap (λ ats. reads (writes g ats bs) (cells_of g.shape)) (cells_all g.shape)
        ∙ back g (cells_of g.shape) bs (cells_inside g.shape) (cells_apart g.shape) (size ∙ ap (λ n. n * size_of g.kind) (sym (cells_length g.shape)))

    given_again : (g : Grid) (d : Data) (bs : List ℕ) → IsSoundType g.kind → value_from g.kind g.shape d ≡ Ok bs
        → g ≡ with_bytes (start g) bs → HasAll g (reads g (cells_of g.shape))
    given_again g d bs sound is made =
        let again = value_again g.kind g.shape d bs sound.formed is in
        let all : reads g (cells_of g.shape) ≡ bs = ap (λ (h : Grid). reads h (cells_of g.shape)) made ∙ read_all (start g) bs again.whole in
        subst (HasAll g) (sym all) (again.again, made)

    reads_blank : (e : Elem) (s : Shape) (p : List ℕ × Option (List ℕ))
        → reads (blank e s p) (cells_of s) ≡ repeated (count_of s) (blank_of e p.1)
    reads_blank e s p =
        reads_same (λ at. LiesIn at s) (value_at (blank e s p)) (λ _. blank_of e p.1) (λ at lies. value-tabulated e s p.0 p.1 (λ _. blank_of e p.1) at lies) (cells_of s) (each_inside s)
        ∙ repeated_flat (blank_of e p.1) (cells_of s) ∙ ap (λ n. repeated n (blank_of e p.1)) (cells_length s)

    -- to write the fill into each cell changes nothing
    blank_written : (e : Elem) (s : Shape) (p : List ℕ × Option (List ℕ)) → IsAgain e (blank_of e p.1)
        → blank e s p ≡ with_bytes (blank e s p) (repeated (count_of s) (blank_of e p.1))
    blank_written e s p one =
        let g = blank e s p in
        let bs = repeated (count_of s) (blank_of e p.1) in
        same_grids (with_bytes g bs) g refl refl refl refl (table (written (value_at g) (size_of e) (cells_from 0 (count_of s) s) bs)) (table (λ _. blank_of e p.1)) (λ at lies.
        value-tabulated e s p.0 p.1 (λ _. blank_of e p.1) at lies
        ∙ sym (elements g bs at lies ∙ piece_repeated (count_of s) (size_of e) (linear_index at (dims_of s)) (blank_of e p.1) one.whole (index_counted s at lies)))
      where
        table : (f : List ℕ → List ℕ) → length (map f (cells_of s)) ≡ count_of s
        table f = length-map (cells_of s) f ∙ cells_length s

    blank_back : (g : Grid) → IsSoundType g.kind → FillAgain g.kind g.fill → g ≡ start g → HasAll g (reads g (cells_of g.shape))
    blank_back g sound fill made =
        let p : List ℕ × Option (List ℕ) = (g.chunk, g.fill) in
        let one = blank_again g.kind g.fill sound fill in
        let all : reads g (cells_of g.shape) ≡ repeated (count_of g.shape) (blank_of g.kind g.fill) = ap (λ (h : Grid). reads h (cells_of g.shape)) made ∙ reads_blank g.kind g.shape p in
        subst (HasAll g) (sym all) ((repeated_again g.kind g.shape (blank_of g.kind g.fill) one).again, made ∙ blank_written g.kind g.shape p one)

    cells_again : (o : Option Data) (g : Grid) → IsSoundType g.kind → FillAgain g.kind g.fill → HasCells o g
        → HasAll g (reads g (cells_of g.shape))
    cells_again None g sound fill h = blank_back g sound fill h
    cells_again (Some d) g sound fill h = given_again g d h.0 sound h.1 h.2

    -- a tree that has the printed type, shape, creation properties and value at their keys
    pub array_again : (old new : Data) (g : Grid) → IsArray old g → get (codes "type") new ≡ Some (type_tree g.kind)
        → get (codes "shape") new ≡ Some (shape_tree g.shape Document)
        → get (codes "creationProperties") new ≡ Some (creation_tree g)
        → get (codes "value") new ≡ Some (value_tree g.kind g.shape (reads g (cells_of g.shape))) → IsArray new g
    array_again old new g h t s c v =
        let kind = kind_sound (get (codes "type") old) g.kind h.kind in
        let shape = shape_sound (get (codes "shape") old) None g.shape h.shape in
        let made = made_of g.kind g.shape (get (codes "creationProperties") old) (g.chunk, g.fill) kind shape
        ((creations g.kind g.shape (get (codes "creationProperties") old) (g.chunk, g.fill)).0 h.creation) in
        let cells = cells_again (get (codes "value") old) g kind made.fill h.cells in
        record {
          kind = subst (λ o. IsTypeAt o g.kind) (sym t) (kind_again (get (codes "type") old) g.kind h.kind);
          shape = subst (λ o. IsShape o None g.shape) (sym s) (shape_again (get (codes "shape") old) g.shape h.shape);
          creation = ap (creation_of g.kind g.shape) c ∙ (creations g.kind g.shape (Some (creation_tree g)) (g.chunk, g.fill)).1 (made_spelled g.kind g.shape (g.chunk, g.fill) made);
          cells = subst (λ o. HasCells o g) (sym v) (reads g (cells_of g.shape), cells.0, cells.1);
        }

    -- ---- arrays that are whole

    encoded_again : (e : Elem) (bs : List ℕ) → IsSoundType e → IsEncoded e bs → IsAgain e bs
    encoded_again e bs sound h = subst (IsAgain e) h.2 (fit_again e h.0 sound.formed h.1)

    fill_loaded : (e : Elem) (fill : Option (List ℕ)) → IsSoundType e → IsEncoded e (blank_of e fill) → FillAgain e fill
    fill_loaded e None sound h = tt
    fill_loaded e (Some bs) sound h = encoded_again e bs sound h

    module _
        (each : (g : Grid) (ats : List (List ℕ)) (k : ℕ) → IsWhole g → All (λ at. LiesIn at g.shape) ats → k < length ats → piece_at (size_of g.kind) k (reads g ats) ≡ value_at g (slice_index_or ats k []))
        (g : Grid) (whole : IsWhole g)
      where
        all_encoded : (ats : List (List ℕ)) → AllByRecursion (λ at. LiesIn at g.shape) ats
            → AllByRecursion (λ at. IsEncoded g.kind (value_at g at)) ats
        all_encoded [] h = tt
        all_encoded (at ∷ ats) h = (whole.values at h.0, all_encoded ats h.1)

        abbrev bytes : List ℕ
        bytes = reads g (cells_of g.shape)

        bytes_encoded : AreEncoded g.kind (count_of g.shape) bytes
        bytes_encoded =
            subst (λ n. AreEncoded g.kind n bytes) (cells_length g.shape) (gathered_encoded g.kind (value_at g) (cells_of g.shape) whole.kind (all_encoded (cells_of g.shape) (each_inside g.shape)))

        -- to write what is read into each cell makes the array
        cells_written : g ≡ with_bytes (start g) bytes
        cells_written = same_grids (with_bytes (start g) bytes) g refl refl refl refl
            (length-map (cells_of g.shape) (written (value_at (start g)) (size_of g.kind) (cells_from 0 (count_of g.shape) g.shape) bytes) ∙ cells_length g.shape)
            whole.table (λ at lies.
            sym (elements (start g) bytes at lies
            ∙ each g (cells_of g.shape) (linear_index at (dims_of g.shape)) whole (cells_inside g.shape) (omega (arith, index_counted g.shape at lies, cells_length g.shape))
            ∙ ap (value_at g) (cell-index g.shape at lies)))

        -- a tree that has the printed type, shape, creation properties and value at their keys
        pub array_loaded : (new : Data) → Fits (size_of g.kind) (dims_of g.shape) g.chunk
            → get (codes "type") new ≡ Some (type_tree g.kind) → get (codes "shape") new ≡ Some (shape_tree g.shape Document)
            → get (codes "creationProperties") new ≡ Some (creation_tree g)
            → get (codes "value") new ≡ Some (value_tree g.kind g.shape (reads g (cells_of g.shape))) → IsArray new g
        array_loaded new fits t s c v =
            let made : IsMade g.kind g.shape (g.chunk, g.fill) = record { fits = fits; fill = fill_loaded g.kind g.fill whole.kind whole.blank } in
            record {
              kind = subst (λ o. IsTypeAt o g.kind) (sym t) (type_told (type_tree g.kind) g.kind (type_back g.kind (type_tree g.kind) whole.kind refl));
              shape = subst (λ o. IsShape o None g.shape) (sym s) (shape_told (Some (shape_tree g.shape Document)) None g.shape (shape_back g.shape Document (shape_tree g.shape Document) whole.shape refl));
              creation = ap (creation_of g.kind g.shape) c ∙ (creations g.kind g.shape (Some (creation_tree g)) (g.chunk, g.fill)).1 (made_spelled g.kind g.shape (g.chunk, g.fill) made);
              cells = subst (λ o. HasCells o g) (sym v) (bytes, value_back g.kind g.shape bytes whole.kind bytes_encoded, cells_written);
            }
