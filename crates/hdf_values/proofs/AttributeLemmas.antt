-- An attribute that a tree spells is what the tests in order give.
use Rattle.std.proofs.Common.{◌≡◌, ℕ, ◌*◌, ◌≤◌, List, Option, Some, None, Result, Ok, Err, inl, inr, sym, refl, ap, ◌∙◌}
use Rattle.std.specs.Prelude.{codes, Bool, true, if◌then◌else◌}
use Rattle.std.specs.Result.{IsErrAnd}
use Rattle.std.proofs.lemmas.Bool.{le-leb}
use Rattle.serde_json.specs.Data.{Data}
use Rattle.serde_json.specs.Find.{get}
use Rattle.json_trees.specs.Faults.{Fails, Gives}
use Rattle.hdf_types.specs.declared.faults.TypeFault.{TypeFault}
use Rattle.hdf_types.specs.declared.faults.TypeFault.TheVariants as types
use Rattle.hdf_types.specs.Elems.{Elem}
use Rattle.hdf_types.specs.declared.types.ElemType.{ElemType}
use Rattle.hdf_types.specs.Views.{elem}
use Rattle.hdf_types.specs.Faults.{Fault, Fails as TypeFails, fault}
use Rattle.hdf_types.specs.Reading.{size_of, type_of}
use Rattle.hdf_types.specs.Printed.{type_tree}
use Rattle.hdf_types.proofs.TypeLemmas.{type_read, type_told}
use Rattle.hdf_types.proofs.PrintLemmas.{reads_back as type_back}
use Rattle.shapes.specs.declared.Shape.{Shape}
use Rattle.shapes.specs.declared.printing.Form.{Form}
use Rattle.shapes.specs.Printed.{shape_tree}
use Rattle.shapes.specs.Shapes.{count_of, shape_of}
use Rattle.shapes.proofs.ShapeLemmas.{shape_read, reads_back as shape_back}
use Rattle.hdf_values.specs.declared.attributes.AttributeFault.{AttributeFault}
use Rattle.hdf_values.specs.declared.attributes.AttributeFault.TheVariants.{NoMemory, TooLarge}
use Rattle.hdf_values.specs.Attributes.{Content, IsAttribute, IsSoundAttribute, content_tree, IsTypeAt, IsValueAt, most_bytes, type_fault, attribute_of, type_or, typed_at, shape_or, value_or, valued_at, sized_at}
use Rattle.hdf_values.specs.Shaped.{value_tree}
use Rattle.hdf_values.proofs.ShapedLemmas.{value_read, value_back}
use Rattle.hdf_types.specs.Types.{IsSoundType}
use Rattle.shapes.specs.declared.ShapeFault.{ShapeFault}
use Rattle.hdf_values.specs.declared.faults.ValueFault.{ValueFault}
use Rattle.hdf_types.proofs.SoundLemmas.{sound_type}

-- a fault of the type is the attribute's

type_refused : (f : TypeFault) (e : AttributeFault) (r : Result Elem Fault) → e ≡ type_fault f → TypeFails f r → Fails NoMemory e (type_or r)
unfolding fault
type_refused types.NoMemory e r same h = inl same
type_refused (types.Refused p c) e r same h = inr (ap type_or h ∙ ap Err (sym same))

pub type_given : (r : Result ElemType AttributeFault) (f : TypeFault) (t : Result Elem Fault) → IsErrAnd r (λ e. e ≡ type_fault f) → TypeFails f t → Gives (Fails NoMemory) elem r (type_or t)
type_given (Ok kind) f t h k = absurd h
type_given (Err e) f t h k = type_refused f e t h k

typed_read : (o : Option Data) (e : Elem) → IsTypeAt o e → typed_at o ≡ Ok e
typed_read None e h = absurd h
typed_read (Some d) e h = ap type_or (type_read d e h)

valued_read : (e : Elem) (s : Shape) (o : Option Data) (bs : List ℕ) → IsValueAt e s o bs → valued_at e s o ≡ Ok bs
valued_read e s None bs h = absurd h
valued_read e s (Some d) bs h = value_read e s d bs h

sized_read : (e : Elem) (s : Shape) (o : Option Data) (bs : List ℕ) → count_of s * size_of e ≤ most_bytes → IsValueAt e s o bs → sized_at e s (value_or (valued_at e s o)) ≡ Ok bs
sized_read e s o bs small h = rw (le-leb (count_of s * size_of e) most_bytes small) (ap value_or (valued_read e s o bs h))

pub attribute_read : (d : Data) (c : Content) → IsAttribute d c → attribute_of d ≡ Ok c
unfolding attribute_of
attribute_read d c h =
    let kind = typed_read (get (codes "type") d) c.kind h.typed in
    let shape = ap shape_or (shape_read (get (codes "shape") d) None c.shape h.shaped) in
    let bytes = sized_read c.kind c.shape (get (codes "value") d) c.bytes h.small h.valued in
    rw (kind, shape, bytes) refl

pub one_of : (a b : Content) (r : Result Content AttributeFault) → r ≡ Ok a → r ≡ Ok b → a ≡ b
one_of a b r h k = cc

-- ---- what is printed spells the attribute again

-- a tree that has the printed type, shape and value at their keys
pub printed_back : (d : Data) (c : Content) (form : Form) → IsSoundAttribute c → get (codes "type") d ≡ Some (type_tree c.kind)
    → get (codes "shape") d ≡ Some (shape_tree c.shape form) → get (codes "value") d ≡ Some (value_tree c.kind c.shape c.bytes) → attribute_of d ≡ Ok c
unfolding attribute_of
printed_back d c form sound t s v =
    let kind = ap typed_at t ∙ ap type_or (type_back c.kind (type_tree c.kind) sound.kind refl) in
    let shape = ap (λ (o : Option Data). shape_or (shape_of o None)) s ∙ ap shape_or (shape_back c.shape form (shape_tree c.shape form) sound.shape refl) in
    let value = ap (λ (o : Option Data). value_or (valued_at c.kind c.shape o)) v ∙ ap value_or (value_back c.kind c.shape c.bytes sound.kind sound.encoded) in
    let bytes = ap (sized_at c.kind c.shape) value ∙ ap (λ b. if b then Ok c.bytes else Err TooLarge) (le-leb (count_of c.shape * size_of c.kind) most_bytes sound.small) in
    rw (kind, shape, bytes) refl

pub content_back : (c : Content) (form : Form) (with_value : Bool) (d : Data) → IsSoundAttribute c → with_value ≡ true → d ≡ content_tree c form with_value → attribute_of d ≡ Ok c
content_back c form with_value d sound w is =
    let same = is ∙ ap (content_tree c form) w in
    ap attribute_of same ∙ printed_back (content_tree c form true) c form sound refl refl refl

-- ---- what passes each test

pub type_ok : (r : Result Elem Fault) (e : Elem) → type_or r ≡ Ok e → r ≡ Ok e
type_ok (Ok x) e h = let same : x ≡ e = cc in ap Ok same
type_ok (Err f) e h = cc

pub shape_ok : (r : Result Shape ShapeFault) (s : Shape) → shape_or r ≡ Ok s → r ≡ Ok s
shape_ok (Ok x) s h = let same : x ≡ s = cc in ap Ok same
shape_ok (Err f) s h = cc

pub value_ok : (r : Result (List ℕ) ValueFault) (bs : List ℕ) → value_or r ≡ Ok bs → r ≡ Ok bs
value_ok (Ok x) bs h = let same : x ≡ bs = cc in ap Ok same
value_ok (Err f) bs h = cc

pub typed_sound : (o : Option Data) (e : Elem) → typed_at o ≡ Ok e → IsSoundType e
typed_sound None e h = cc
typed_sound (Some d) e h = sound_type d e (type_told d e (type_ok (type_of d) e h))
