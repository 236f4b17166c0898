-- What is read of creation properties is what they spell, and the other way.
use Rattle.std.proofs.Common.{◌≡◌, ℕ, List, [], ◌∷◌, Option, Some, None, is_some, Result, Ok, Err, IfOk, codes, refl, sym, ap, subst, ◌∙◌}
use Rattle.std.specs.Bool.{⊤}
use Rattle.std.proofs.lemmas.Bool.{cond-true}
use Rattle.serde_json.specs.Data.{Data}
use Rattle.serde_json.specs.Find.{as_object, get}
use Rattle.json_trees.specs.Faults.{◌>>=◌}
use Rattle.json_trees.specs.Trees.{list_in}
use Rattle.json_trees.proofs.FaultLemmas.{bind_ok, test_ok}
use Rattle.hdf_types.specs.Elems.{Elem}
use Rattle.hdf_types.specs.Reading.{size_of}
use Rattle.shapes.specs.declared.Shape.{Shape}
use Rattle.shapes.specs.Shapes.{dims_of}
use Rattle.hdf_values.specs.Elements.{encoded}
use Rattle.hdf_values.specs.declared.faults.Misfit.{Misfit}
use Rattle.chunk_layout.specs.Asked.{IsAnswer, asked_of}
use Rattle.chunk_layout.specs.Layouts.{SpellsChunk}
use Rattle.chunk_layout.specs.declared.Layout.{Layout}
use Rattle.chunk_layout.specs.declared.LayoutFault.{LayoutFault}
use Rattle.chunk_layout.proofs.LayoutLemmas.{answer_only, answer_told, object_read}
use Rattle.chunk_layout.specs.DefaultChunks.Halving.{default_chunk}
use Rattle.chunk_layout.proofs.DefaultChunks.HalvingLemmas.{default_is}
use Rattle.object_ops.specs.Creation.Creations.{chunk_or, creation_of, element_or, fill_of, filters_of, no_filters, properties_of}
use Rattle.object_ops.specs.Creation.Spelled.{AreProperties, IsCreation, IsFill, IsNoFilter}
use Rattle.object_ops.specs.declared.creation.faults.CreationFault.{CreationFault}
use Rattle.object_ops.specs.declared.creation.faults.CreationFault.TheVariants.{BadFill, BadLayout, HasFilters, NotAnObject}

ok_same : {A : Type 0} (x y : A) → ◌≡◌ {A = Result A CreationFault} (Ok x) (Ok y) → x ≡ y
ok_same x y e = cc

not_ok : {A : Type 0} (f : CreationFault) (x : A) → Err f ≡ Ok x → ⊥
not_ok f x e = cc

bind_at : {A B : Type 0} (r : Result A CreationFault) (f : A → Result B CreationFault) (x : A) (y : Result B CreationFault) → r ≡ Ok x → f x ≡ y → (r >>= f) ≡ y
bind_at r f x y e h = ap (λ q. q >>= f) e ∙ h

-- ---- the chunk

-- the answer to what is asked for
layout_for : ℕ → List ℕ → Result (Option (List ℕ)) LayoutFault → Result Layout LayoutFault
layout_for size dims (Err f) = Err f
layout_for size dims (Ok None) = Ok (record { chunk = default_chunk size dims })
layout_for size dims (Ok (Some chunk)) = Ok (record { chunk = chunk })

answers : (size : ℕ) (dims : List ℕ) (asked : Result (Option (List ℕ)) LayoutFault) → IsAnswer dims size asked (layout_for size dims asked)
unfolding layout_for
answers size dims (Err f) = refl
answers size dims (Ok None) = default_is size dims
answers size dims (Ok (Some chunk)) = refl

layout_told : (size : ℕ) (dims chunk : List ℕ) (asked : Result (Option (List ℕ)) LayoutFault) → chunk_or size dims asked ≡ Ok chunk → layout_for size dims asked ≡ Ok (record { chunk = chunk })
unfolding layout_for
layout_told size dims chunk (Err f) e = absurd (not_ok BadLayout chunk e)
layout_told size dims chunk (Ok None) e = ap (λ (c : List ℕ). Ok (record { chunk = c })) (ok_same (default_chunk size dims) chunk e)
layout_told size dims chunk (Ok (Some c)) e = ap (λ (c : List ℕ). Ok (record { chunk = c })) (ok_same c chunk e)

same_layout : (a b : Layout) → ◌≡◌ {A = Result Layout LayoutFault} (Ok a) (Ok b) → a ≡ b
same_layout a b e = cc

no_layout : (f : LayoutFault) (l : Layout) → Err f ≡ Ok l → ⊥
no_layout f l e = cc

layout_back : (size : ℕ) (dims chunk : List ℕ) (asked : Result (Option (List ℕ)) LayoutFault) → layout_for size dims asked ≡ Ok (record { chunk = chunk }) → chunk_or size dims asked ≡ Ok chunk
unfolding layout_for
layout_back size dims chunk (Err f) e = absurd (no_layout f (record { chunk = chunk }) e)
layout_back size dims chunk (Ok None) e = ap (λ (l : Layout). Ok l.chunk) (same_layout (record { chunk = default_chunk size dims }) (record { chunk = chunk }) e)
layout_back size dims chunk (Ok (Some c)) e = ap (λ (l : Layout). Ok l.chunk) (same_layout (record { chunk = c }) (record { chunk = chunk }) e)

chunk_sound : (d : Data) (dims chunk : List ℕ) (size : ℕ) → chunk_or size dims (asked_of d dims size) ≡ Ok chunk → SpellsChunk d dims size chunk
chunk_sound d dims chunk size e =
    let asked = asked_of d dims size in
    subst (λ (r : Result Layout LayoutFault). IfOk r (λ layout. SpellsChunk d dims size layout.chunk)) (layout_told size dims chunk asked e)
    (answer_told d dims size (layout_for size dims asked) (answers size dims asked))

chunk_complete : (d : Data) (dims chunk : List ℕ) (size : ℕ) → SpellsChunk d dims size chunk → chunk_or size dims (asked_of d dims size) ≡ Ok chunk
chunk_complete d dims chunk size h =
    let asked = asked_of d dims size in
    layout_back size dims chunk asked (answer_only d dims size chunk (layout_for size dims asked) (answers size dims asked) h)

-- ---- filters

listed_sound : (o : Option (List Data)) (u : ⊤) → no_filters o ≡ Ok u → o ≡ Some []
listed_sound None u e = absurd (not_ok HasFilters u e)
listed_sound (Some []) u e = refl
listed_sound (Some (d ∷ ds)) u e = absurd (not_ok HasFilters u e)

filters_sound : (o : Option Data) (u : ⊤) → filters_of o ≡ Ok u → IsNoFilter o
filters_sound None u e = tt
filters_sound (Some d) u e = listed_sound (list_in d) u e

filters_complete : (o : Option Data) → IsNoFilter o → filters_of o ≡ Ok tt
filters_complete None h = refl
filters_complete (Some d) h = ap no_filters h

-- ---- the fill

element_sound : (r : Result (List ℕ) Misfit) (bytes : List ℕ) → element_or r ≡ Ok bytes → r ≡ Ok bytes
element_sound (Ok x) bytes e = ap Ok (ok_same x bytes e)
element_sound (Err m) bytes e = absurd (not_ok BadFill bytes e)

fill_sound : (e : Elem) (o : Option Data) (fill : Option (List ℕ)) → fill_of e o ≡ Ok fill → IsFill e o fill
fill_sound e None fill h = sym (ok_same None fill h)
fill_sound e (Some d) fill h =
    let a = bind_ok (element_or (encoded e d)) _ fill h in
    (a.0, element_sound (encoded e d) a.0 a.1, sym (ok_same (Some a.0) fill a.2))

fill_complete : (e : Elem) (o : Option Data) (fill : Option (List ℕ)) → IsFill e o fill → fill_of e o ≡ Ok fill
fill_complete e None fill h = ap Ok (sym h)
fill_complete e (Some d) fill h = bind_at (element_or (encoded e d)) _ h.0 _ (ap element_or h.1) (ap Ok (sym h.2))

-- ---- all of them

pub creation_sound : (e : Elem) (s : Shape) (o : Option Data) (p : List ℕ × Option (List ℕ)) → creation_of e s o ≡ Ok p → IsCreation e s o p
unfolding creation_of
creation_sound e s None p h = sym (ok_same (default_chunk (size_of e) (dims_of s), None) p h)
creation_sound e s (Some d) p h =
    let t = test_ok (is_some (as_object d)) (properties_of e s d) NotAnObject p h in
    let a = bind_ok (chunk_or (size_of e) (dims_of s) (asked_of d (dims_of s) (size_of e))) _ p t.1 in
    let b = bind_ok (filters_of (get (codes "filters") d)) _ p a.2 in
    let c = bind_ok (fill_of e (get (codes "fillValue") d)) _ p b.2 in
    subst (AreProperties e s d) (ok_same (a.0, c.0) p c.2) (record {
      chunk = chunk_sound d (dims_of s) a.0 (size_of e) a.1;
      filters = filters_sound (get (codes "filters") d) b.0 b.1;
      fill = fill_sound e (get (codes "fillValue") d) c.0 c.1;
    })

pub creation_complete : (e : Elem) (s : Shape) (o : Option Data) (p : List ℕ × Option (List ℕ)) → IsCreation e s o p → creation_of e s o ≡ Ok p
unfolding creation_of
creation_complete e s None p h = ap Ok (sym h)
creation_complete e s (Some d) p h =
    cond-true (is_some (as_object d)) (properties_of e s d) (Err NotAnObject) (object_read d h.chunk.0)
    ∙ bind_at (chunk_or (size_of e) (dims_of s) (asked_of d (dims_of s) (size_of e))) _ p.0 _ (chunk_complete d (dims_of s) p.0 (size_of e) h.chunk)
    (bind_at (filters_of (get (codes "filters") d)) _ tt _ (filters_complete (get (codes "filters") d) h.filters)
    (bind_at (fill_of e (get (codes "fillValue") d)) _ p.1 _ (fill_complete e (get (codes "fillValue") d) p.1 h.fill) refl))
