-- The first refusal of a body is the first that the tests find.
use Rattle.std.proofs.Common.{◌≡◌, ◌∙◌, refl, sym, ap, ℕ, ◌*◌, Bool, true, false, nat_le, if◌then◌else◌, List, [], ◌∷◌, Option, Some, None, Result, Ok, Err}
use Rattle.std.specs.Prelude.{codes}
use Rattle.serde_json.specs.Data.{Data}
use Rattle.serde_json.specs.Find.{get}
use Rattle.json_trees.specs.Faults.{◌>>=◌}
use Rattle.object_ids.specs.IdValues.{Id}
use Rattle.object_ids.specs.declared.ids.Kind.{Kind}
use Rattle.object_ids.specs.declared.ids.Kind.TheVariants.{Group, Dataset, Datatype}
use Rattle.hdf_types.specs.declared.faults.Cause.{Cause}
use Rattle.hdf_types.specs.declared.faults.Cause.TheVariants.{NotAType, Unsupported, TooDeep, TooMany, BadLength, DupField, TooLarge}
use Rattle.hdf_types.specs.declared.types.ElemType.{ElemType}
use Rattle.hdf_types.specs.Elems.{Elem}
use Rattle.hdf_types.specs.Elems as elems
use Rattle.hdf_types.specs.Faults.{Fault}
use Rattle.hdf_types.specs.Reading.{size_of, type_of}
use Rattle.hdf_types.specs.Views.{elem, elem_type}
use Rattle.hdf_values.specs.Attributes.{Content, attribute_of, most_bytes, shape_or as shape_read, sized_at, type_or as type_read, typed_at, value_or, valued_at}
use Rattle.hdf_values.specs.declared.attributes.AttributeFault.{AttributeFault}
use Rattle.hdf_values.specs.declared.attributes.AttributeFault.TheVariants as attribute
use Rattle.hdf_values.specs.declared.faults.ValueFault.{ValueFault}
use Rattle.shapes.specs.declared.Shape.{Shape}
use Rattle.shapes.specs.declared.ShapeFault.{ShapeFault}
use Rattle.shapes.specs.Shapes.{count_of, shape_of}
use Rattle.object_ops.specs.declared.ops.Make.{Make}
use Rattle.object_ops.specs.declared.ops.Make.TheVariants as make
use Rattle.object_ops.specs.declared.ops.LinkPlace.{LinkPlace}
use Rattle.object_ops.specs.declared.refusals.Refusal.{Refusal}
use Rattle.object_ops.specs.declared.refusals.Refusal.TheVariants.{BadField}
use Rattle.object_ops.specs.declared.words.FieldWord.TheVariants as field
use Rattle.request_bodies.specs.Bodies.{attribute_in, attribute_or, title_in, type_refusal}
use Rattle.request_bodies.specs.Makes.{class_or, dataset_of, datatype_of, grid_in, group_in, linked, make_in, place, shape_in, shape_or, title_text, type_in, type_or, with_properties}
use Rattle.request_bodies.specs.Order.{attribute_tests, bad_place, bad_size, bad_title, class_of, fault, first_of, if_accepted, make_tests, no_title, no_value}
use Rattle.request_bodies.specs.Properties.{properties_in}
use Rattle.request_bodies.specs.declared.properties.Properties.{Properties}
use Rattle.hdf_types.proofs.ViewLemmas.{elem-elem_type}

-- what stands behind a test
behind : (o : Option Refusal) (xs ys : List (Option Refusal)) → first_of xs ≡ first_of ys → first_of (o ∷ xs) ≡ first_of (o ∷ ys)
behind None xs ys e = e
behind (Some refusal) xs ys e = refl

alone : (o : Option Refusal) → o ≡ first_of (o ∷ None ∷ None ∷ [])
alone None = refl
alone (Some refusal) = refl

-- ---- new objects

-- what a POST makes, and its place
abbrev pub Made : Type 0
Made = Make × Option LinkPlace

titled : (m : Make) (group : Id) (title : Result (List ℕ) Refusal) → fault {A = Made} (title >>= λ title. Ok (m, Some (place group title))) ≡ first_of (fault title ∷ [])
titled m group (Ok title) = refl
titled m group (Err refusal) = refl

placed : (made : Result Make Refusal) (group : Result Id Refusal) (text : Result (List ℕ) Refusal)
    → fault {A = Made} (group >>= λ group. text >>= λ text. made >>= λ m. title_in text >>= λ title. Ok (m, Some (place group title)))
    ≡ first_of (first_of (fault group ∷ fault text ∷ []) ∷ fault made ∷ no_title text ∷ [])
placed made (Err refusal) text = refl
placed made (Ok group) (Err refusal) = refl
placed (Err refusal) (Ok group) (Ok text) = refl
placed (Ok m) (Ok group) (Ok text) = titled m group (title_in text)

linked_first : (made : Result Make Refusal) (link : Option Data) → fault (linked made link) ≡ first_of (bad_place link ∷ fault made ∷ bad_title link ∷ [])
linked_first (Ok m) None = refl
linked_first (Err refusal) None = refl
linked_first made (Some link) = placed made (group_in link) (title_text link)

-- a refusal that is told behind the link
late_first : (refusal : Refusal) (link : Option Data) (rest : List (Option Refusal)) → fault (linked (Err refusal) link) ≡ first_of (bad_place link ∷ Some refusal ∷ rest)
late_first refusal link rest = linked_first (Err refusal) link ∙ behind (bad_place link) (Some refusal ∷ bad_title link ∷ []) (Some refusal ∷ rest) refl

judged_first : (k : ElemType) (s : Shape) (p : Result Properties Refusal) (link : Option Data)
    → fault ((p >>= λ p. Ok (Ok (dataset_of k s p))) >>= λ made. linked made link)
    ≡ first_of (fault p ∷ bad_place link ∷ None ∷ None ∷ bad_title link ∷ [])
judged_first k s (Err refusal) link = refl
judged_first k s (Ok p) link = linked_first (Ok (dataset_of k s p)) link ∙ behind (bad_place link) (None ∷ bad_title link ∷ []) (None ∷ None ∷ bad_title link ∷ []) refl

dataset_first : (kind : Result (Result ElemType Refusal) Refusal) (shape : Result Shape Refusal) (given link : Option Data)
    → fault ((kind >>= λ k. with_properties (grid_in k shape) given) >>= λ made. linked made link)
    ≡ first_of (fault kind ∷ if_accepted kind shape (λ k s. fault (properties_in (elem k) s given)) ∷ bad_place link ∷ class_of kind ∷ fault shape ∷ bad_title link ∷ [])
dataset_first (Err refusal) shape given link = refl
dataset_first (Ok (Err refusal)) shape given link = late_first refusal link (fault shape ∷ bad_title link ∷ [])
dataset_first (Ok (Ok k)) (Err refusal) given link =
    linked_first (Err refusal) link ∙ behind (bad_place link) (Some refusal ∷ bad_title link ∷ []) (None ∷ Some refusal ∷ bad_title link ∷ []) refl
dataset_first (Ok (Ok k)) (Ok s) given link = judged_first k s (properties_in (elem k) s given) link

datatype_first : (kind : Result (Result ElemType Refusal) Refusal) (link : Option Data)
    → fault ((kind >>= λ k. Ok (datatype_of k)) >>= λ made. linked made link)
    ≡ first_of (fault kind ∷ None ∷ bad_place link ∷ class_of kind ∷ None ∷ bad_title link ∷ [])
datatype_first (Err refusal) link = refl
datatype_first (Ok (Err refusal)) link = late_first refusal link (None ∷ bad_title link ∷ [])
datatype_first (Ok (Ok k)) link =
    linked_first (datatype_of (Ok k)) link ∙ behind (bad_place link) (None ∷ bad_title link ∷ []) (None ∷ None ∷ bad_title link ∷ []) refl

pub make_first : (kind : Kind) (d : Data) → fault (make_in kind d) ≡ first_of (make_tests kind d)
make_first Group d =
    let link = get (codes "link") d in
    linked_first (Ok make.Group) link ∙ behind (bad_place link) (None ∷ bad_title link ∷ []) (None ∷ None ∷ bad_title link ∷ []) refl
make_first Dataset d = dataset_first (type_in (get (codes "type") d)) (shape_in d) (get (codes "creationProperties") d) (get (codes "link") d)
make_first Datatype d = datatype_first (type_in (get (codes "type") d)) (get (codes "link") d)

-- ---- attributes

cause_first : (cause : Cause) (shape : Result Shape Refusal) (test : ElemType → Shape → Option Refusal) (rest : List (Option Refusal))
    → Some (type_refusal cause) ≡ first_of (fault (class_or cause) ∷ if_accepted (class_or cause) shape test ∷ class_of (class_or cause) ∷ rest)
cause_first NotAType shape test rest = refl
cause_first (Unsupported class) shape test rest = refl
cause_first TooDeep shape test rest = refl
cause_first TooMany shape test rest = refl
cause_first BadLength shape test rest = refl
cause_first (DupField index) shape test rest = refl
cause_first TooLarge shape test rest = refl

-- the fault of what stands behind the type and the shape is what a test finds of the two
abbrev Finds : (Elem → Shape → Result Content AttributeFault) → (Elem → Shape → Option Refusal) → Type 0
Finds rest test = (e : Elem) (s : Shape) → fault (attribute_or (rest e s)) ≡ test e s

module _ (rest : Elem → Shape → Result Content AttributeFault) (test : Elem → Shape → Option Refusal) (finds : Finds rest test) where
  kind_first : (kind : Result Elem Fault) (shape : Result Shape ShapeFault)
      → fault (attribute_or (type_read kind >>= λ e. shape_read shape >>= λ s. rest e s))
      ≡ first_of (fault (type_or kind) ∷ if_accepted (type_or kind) (shape_or shape) (λ k s. test (elem k) s) ∷ class_of (type_or kind) ∷ fault (shape_or shape) ∷ [])
  kind_first (Err f) shape = cause_first f.cause (shape_or shape) (λ k s. test (elem k) s) (fault (shape_or shape) ∷ [])
  kind_first (Ok e) (Err f) = refl
  kind_first (Ok e) (Ok s) = finds e s ∙ ap (λ e. test e s) (sym (elem-elem_type e)) ∙ alone (test (elem (elem_type e)) s)

  tree_first : (tree : Option Data) (shape : Result Shape ShapeFault)
      → fault (attribute_or (typed_at tree >>= λ e. shape_read shape >>= λ s. rest e s))
      ≡ first_of (fault (type_in tree) ∷ if_accepted (type_in tree) (shape_or shape) (λ k s. test (elem k) s) ∷ class_of (type_in tree) ∷ fault (shape_or shape) ∷ [])
  tree_first None shape = refl
  tree_first (Some d) shape = kind_first (type_of d) shape

-- the size, and then the value
value_first : (small : Bool) (value : Result (List ℕ) ValueFault) (whole : List ℕ → Content)
    → fault (attribute_or ((if small then value_or value else Err attribute.TooLarge) >>= λ bs. Ok (whole bs)))
    ≡ first_of ((if small then None else Some (BadField field.Value)) ∷ no_value value ∷ [])
value_first true (Ok bs) whole = refl
value_first true (Err f) whole = refl
value_first false value whole = refl

pub attribute_first : (d : Data) → fault (attribute_in d) ≡ first_of (attribute_tests d)
unfolding attribute_of
attribute_first d =
    let value : Elem → Shape → Result (List ℕ) ValueFault = λ e s. valued_at e s (get (codes "value") d) in
    let whole : Elem → Shape → List ℕ → Content = λ e s bs. record { kind = e; shape = s; bytes = bs } in
    tree_first (λ e s. sized_at e s (value_or (value e s)) >>= λ bs. Ok (whole e s bs)) (λ e s. first_of (bad_size e s ∷ no_value (value e s) ∷ []))
    (λ e s. value_first (nat_le (count_of s * size_of e) most_bytes) (value e s) (whole e s))
    (get (codes "type") d) (shape_of (get (codes "shape") d) None)
