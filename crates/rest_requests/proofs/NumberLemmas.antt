-- Each test of a message finds refusals of its own number.
use Rattle.std.proofs.Common.{◌≡◌, refl, ℕ, ◌*◌, nat_le, List, [], ◌∷◌, Bool, true, false, Option, Some, None, Result, Ok, Err}
use Rattle.std.specs.Prelude.{IfSome, codes, is_some, ◌||◌, option_and_then, if◌then◌else◌}
use Rattle.serde_json.specs.Data.{Data, object, no_members}
use Rattle.serde_json.specs.Find.{get}
use Rattle.json_trees.specs.Faults.{◌>>=◌}
use Rattle.json_trees.specs.Trees.{list_in, text_at}
use Rattle.access_lists.specs.Tokens.Bearer.{TokenTable, caller_of}
use Rattle.chunk_layout.specs.Asked.{asked_of}
use Rattle.access_lists.specs.EntryTrees.{entry_in, truth_at}
use Rattle.chunk_layout.specs.declared.LayoutFault.{LayoutFault}
use Rattle.groups_links.specs.Targets.{link_in}
use Rattle.shapes.specs.Extents.{dims_in}
use Rattle.shapes.specs.Spelled.{few_of}
use Rattle.hdf_types.specs.declared.faults.Cause.{Cause}
use Rattle.hdf_types.specs.declared.faults.Cause.TheVariants.{NotAType, Unsupported, TooDeep, TooMany, BadLength, DupField, TooLarge}
use Rattle.hdf_types.specs.declared.types.ElemType.{ElemType}
use Rattle.hdf_types.specs.Elems.{Elem}
use Rattle.hdf_types.specs.Faults.{Fault}
use Rattle.hdf_types.specs.Reading.{size_of, type_of}
use Rattle.hdf_types.specs.Views.{elem}
use Rattle.hdf_values.specs.Attributes.{most_bytes, valued_at}
use Rattle.hdf_values.specs.Elements.{encoded}
use Rattle.hdf_values.specs.declared.faults.Misfit.{Misfit}
use Rattle.hdf_values.specs.declared.faults.ValueFault.{ValueFault}
use Rattle.shapes.specs.declared.Shape.{Shape}
use Rattle.shapes.specs.declared.ShapeFault.{ShapeFault}
use Rattle.shapes.specs.Shapes.{count_of, dims_of, shape_of}
use Rattle.object_ids.specs.declared.ids.Kind.{Kind}
use Rattle.object_ids.specs.declared.ids.Kind.TheVariants.{Group, Dataset, Datatype}
use Rattle.object_ids.specs.Names.{is_name, has_no_slash}
use Rattle.object_ids.specs.Paths.{path_of as spelled_path, root_path}
use Rattle.object_ops.specs.declared.ops.Part.TheVariants as part
use Rattle.object_ops.specs.declared.refusals.Refusal.{Refusal}
use Rattle.object_ops.specs.declared.refusals.Refusal.TheVariants as no
use Rattle.object_ops.specs.declared.words.FieldWord.TheVariants as field
use Rattle.rest_requests.specs.Queries.Pairs.{Text}
use Rattle.rest_requests.specs.Queries.Targets.{if_text, path_of, query_of}
use Rattle.request_bodies.specs.Bodies.{body_in, dims_at, folder_in, id_in, name_in, object_in, rights_in, target_in, title_in}
use Rattle.request_bodies.specs.Makes.{class_or, group_in, shape_in, shape_or, title_text, type_in, type_or}
use Rattle.request_bodies.specs.Order as bodies
use Rattle.request_bodies.specs.Order.{class_of, fault, first_of, if_accepted, no_title, type_at}
use Rattle.request_bodies.specs.Properties.{chunk_or, fill_in, fill_or, filters_in, no_filters, properties_in}
use Rattle.request_bodies.specs.Refusing.{or_refuse}
use Rattle.request_bodies.specs.Values.{part_at, part_by, points_in}
use Rattle.rest_requests.specs.Routes.Found.{route_for}
use Rattle.rest_requests.specs.declared.routes.routes.Route.{Route}
use Rattle.rest_requests.specs.Domains.{domain_by, named_domain, path_in}
use Rattle.rest_requests.specs.Order.{AreNumbered, asked, bad_class, bad_field, bad_id, bad_name, bad_shape, collection_of, key_tests, no_method, no_object, no_route, number_of, object_of, on_body, on_object, reads_body, tests}
use Rattle.rest_requests.specs.Parameters.{first, second, id_at, name_at, parameter_at, title_at}
use Rattle.rest_requests.specs.Requests.{RequestText}
use Rattle.rest_requests.specs.declared.forms.Form.{Form}
use Rattle.rest_requests.specs.declared.forms.Form.TheVariants.{GetNode, PutNode, Flush, DropNode, ListNodes, GetAcls, GetAcl, PutAcl, MakeObject, GetObject, DropObject, ListLinks, GetLink, PutLink, DropLink, ListAttributes, GetAttribute, PutAttribute, DropAttribute, GetShape, PutShape, GetElem, GetValue, PutValue, GetPoints}

-- what a test finds has this number
abbrev Has : ℕ → Option Refusal → Type 0
Has n test = IfSome test (λ refusal. number_of refusal ≡ n)

-- ---- chains of tests

both : (n : ℕ) (test : Option Refusal) (rest : List (Option Refusal)) → Has n test → Has n (first_of rest) → Has n (first_of (test ∷ rest))
both n None rest h k = k
both n (Some refusal) rest h k = h

alone : (n : ℕ) (test : Option Refusal) → Has n test → Has n (first_of (test ∷ []))
alone n test h = both n test [] h tt

missing : {A : Type 0} (refusal : Refusal) (o : Option A) → Has (number_of refusal) (fault (or_refuse refusal o))
missing refusal None = refl
missing refusal (Some x) = tt

after : {A B : Type 0} (n : ℕ) (r : Result A Refusal) (k : A → Result B Refusal) → Has n (fault r) → ((x : A) → Has n (fault (k x))) → Has n (fault (r >>= k))
after n (Ok x) k h each = each x
after n (Err refusal) k h each = h

unless : {A : Type 0} (refusal : Refusal) (x : A) (b : Bool) → Has (number_of refusal) (fault (if b then Ok x else Err refusal))
unless refusal x true = tt
unless refusal x false = refl

three : {A B C D : Type 0} (n : ℕ) (a : Result A Refusal) (b : Result B Refusal) (c : Result C Refusal) (k : A → C → D)
    → Has n (fault a) → Has n (fault b) → Has n (fault c) → Has n (fault (a >>= λ x. b >>= λ y. c >>= λ z. Ok (k x z)))
three n (Ok x) (Ok y) (Ok z) k h i j = tt
three n (Ok x) (Ok y) (Err refusal) k h i j = j
three n (Ok x) (Err refusal) c k h i j = i
three n (Err refusal) b c k h i j = h

-- ---- types, shapes and properties

cause_field : (cause : Cause) → Has 11 (fault (class_or cause))
cause_field NotAType = refl
cause_field (Unsupported class) = tt
cause_field TooDeep = refl
cause_field TooMany = refl
cause_field BadLength = refl
cause_field (DupField index) = refl
cause_field TooLarge = refl

cause_class : (cause : Cause) → Has 12 (class_of (class_or cause))
cause_class NotAType = tt
cause_class (Unsupported class) = refl
cause_class TooDeep = tt
cause_class TooMany = tt
cause_class BadLength = tt
cause_class (DupField index) = tt
cause_class TooLarge = tt

type_field : (tree : Option Data) → Has 11 (fault (type_in tree))
type_field None = refl
type_field (Some d) = go (type_of d)
  where
    go : (r : Result Elem Fault) → Has 11 (fault (type_or r))
    go (Ok e) = tt
    go (Err f) = cause_field f.cause

type_class : (tree : Option Data) → Has 12 (class_of (type_in tree))
type_class None = tt
type_class (Some d) = go (type_of d)
  where
    go : (r : Result Elem Fault) → Has 12 (class_of (type_or r))
    go (Ok e) = tt
    go (Err f) = cause_class f.cause

shape_numbered : (r : Result Shape ShapeFault) → Has 13 (fault (shape_or r))
shape_numbered (Ok s) = tt
shape_numbered (Err f) = refl

accepted : (n : ℕ) (kind : Result (Result ElemType Refusal) Refusal) (shape : Result Shape Refusal) (test : ElemType → Shape → Option Refusal)
    → ((k : ElemType) (s : Shape) → Has n (test k s)) → Has n (if_accepted kind shape test)
accepted n (Ok (Ok k)) (Ok s) test each = each k s
accepted n (Ok (Ok k)) (Err refusal) test each = tt
accepted n (Ok (Err refusal)) shape test each = tt
accepted n (Err refusal) shape test each = tt

chunk_field : (size : ℕ) (dims : List ℕ) (r : Result (Option (List ℕ)) LayoutFault) → Has 11 (fault (chunk_or size dims r))
chunk_field size dims (Ok (Some chunk)) = tt
chunk_field size dims (Ok None) = tt
chunk_field size dims (Err f) = refl

filters_field : (tree : Option Data) → Has 11 (fault (filters_in tree))
filters_field None = tt
filters_field (Some d) = go (list_in d)
  where
    go : (items : Option (List Data)) → Has 11 (fault (no_filters items))
    go None = refl
    go (Some []) = tt
    go (Some (x ∷ xs)) = refl

fill_field : (e : Elem) (tree : Option Data) → Has 11 (fault (fill_in e tree))
fill_field e None = tt
fill_field e (Some d) = go (encoded e d)
  where
    go : (r : Result (List ℕ) Misfit) → Has 11 (fault (fill_or r))
    go (Ok bytes) = tt
    go (Err f) = refl

properties_field : (e : Elem) (s : Shape) (tree : Option Data) → Has 11 (fault (properties_in e s tree))
properties_field e s None = tt
properties_field e s (Some d) =
    three 11 (chunk_or (size_of e) (dims_of s) (asked_of d (dims_of s) (size_of e))) (filters_in (get (codes "filters") d)) (fill_in e (get (codes "fillValue") d)) _
    (chunk_field (size_of e) (dims_of s) (asked_of d (dims_of s) (size_of e))) (filters_field (get (codes "filters") d)) (fill_field e (get (codes "fillValue") d))

-- ---- the value of an attribute

value_field : (small : Bool) (value : Result (List ℕ) ValueFault)
    → Has 11 (first_of ((if small then None else Some (no.BadField field.Value)) ∷ bodies.no_value value ∷ []))
value_field true (Ok bs) = tt
value_field true (Err f) = refl
value_field false value = refl

bad_value_field : (d : Data) → Has 11 (bodies.bad_value d)
bad_value_field d =
    let value : ElemType → Shape → Result (List ℕ) ValueFault = λ k s. valued_at (elem k) s (get (codes "value") d) in
    accepted 11 (type_at d) (bodies.attribute_shape d) (λ k s. first_of (bodies.bad_size (elem k) s ∷ bodies.no_value (value k s) ∷ []))
    (λ k s. value_field (nat_le (count_of s * size_of (elem k)) most_bytes) (value k s))

-- ---- links and names

name_numbered : (text : Text) → Has 14 (fault (name_in text))
name_numbered text = unless no.BadName text (is_name 255 text)

title_numbered : (text : Text) → Has 14 (fault (title_in text))
title_numbered text = after 14 (name_in text) (λ name. if has_no_slash name then Ok name else Err no.BadName) (name_numbered text) (λ name. unless no.BadName name (has_no_slash name))

at_name : (place : ℕ) (path : Text) → Has 14 (fault (name_at place path))
at_name place path = after 14 (or_refuse no.BadName (parameter_at path place)) name_in (missing no.BadName (parameter_at path place)) name_numbered

at_title : (path : Text) → Has 14 (fault (title_at path))
at_title path = after 14 (or_refuse no.BadName (parameter_at path second)) title_in (missing no.BadName (parameter_at path second)) title_numbered

place_field : (link : Option Data) → Has 11 (bodies.bad_place link)
place_field None = tt
place_field (Some link) =
    both 11 (fault (group_in link)) (fault (title_text link) ∷ []) (missing (no.BadField field.Link) (option_and_then (id_in Group) (text_at (codes "id") link)))
    (alone 11 (fault (title_text link)) (missing (no.BadField field.Link) (text_at (codes "name") link)))

place_title : (link : Option Data) → Has 14 (bodies.bad_title link)
place_title None = tt
place_title (Some link) = go (title_text link)
  where
    go : (text : Result (List ℕ) Refusal) → Has 14 (no_title text)
    go (Ok text) = title_numbered text
    go (Err refusal) = tt

-- ---- what is asked

make_type : (kind : Kind) (d : Data) → Has 11 (bodies.bad_type kind d)
make_type Group d = tt
make_type Dataset d = type_field (get (codes "type") d)
make_type Datatype d = type_field (get (codes "type") d)

make_creation : (kind : Kind) (d : Data) → Has 11 (bodies.bad_creation kind d)
make_creation Group d = tt
make_creation Dataset d = accepted 11 (type_at d) (shape_in d) (λ k s. fault (properties_in (elem k) s (get (codes "creationProperties") d))) (λ k s. properties_field (elem k) s (get (codes "creationProperties") d))
make_creation Datatype d = tt

make_class : (kind : Kind) (d : Data) → Has 12 (bodies.bad_class kind d)
make_class Group d = tt
make_class Dataset d = type_class (get (codes "type") d)
make_class Datatype d = type_class (get (codes "type") d)

make_shape : (kind : Kind) (d : Data) → Has 13 (bodies.bad_shape kind d)
make_shape Group d = tt
make_shape Dataset d = shape_numbered (shape_of (get (codes "shape") d) (get (codes "maxdims") d))
make_shape Datatype d = tt

part_field : (points start stop step : Option Data) → Has 11 (fault (part_by points start stop step))
part_field None start stop step = tt
part_field (Some points) start stop step = go (is_some start || is_some stop || is_some step)
  where
    go : (b : Bool) → Has 11 (fault (if b then Err (no.BadField field.Points) else Ok (part.Points points)))
    go true = refl
    go false = tt

id_field : (form : Form) (path : Text) → Has 11 (bad_id form path)
id_field form path = go (collection_of form)
  where
    go : (o : Option Kind) → Has 11 (option_and_then (λ kind. fault (id_at kind path)) o)
    go None = tt
    go (Some kind) = missing (no.BadField field.Id) (option_and_then (id_in kind) (parameter_at path first))

keys_field : (form : Form) (d : Data) → Has 11 (first_of (key_tests form d))
keys_field GetNode d = tt
keys_field PutNode d = alone 11 (fault (folder_in d)) (missing (no.BadField field.Folder) (truth_at (codes "folder") d))
keys_field Flush d = tt
keys_field DropNode d = tt
keys_field ListNodes d = tt
keys_field GetAcls d = tt
keys_field GetAcl d = tt
keys_field PutAcl d = alone 11 (fault (rights_in d)) (missing (no.BadField field.Acl) (entry_in d))
keys_field (MakeObject kind) d =
    let place = bodies.bad_place (get (codes "link") d) in
    both 11 (bodies.bad_type kind d) (bodies.bad_creation kind d ∷ place ∷ []) (make_type kind d)
    (both 11 (bodies.bad_creation kind d) (place ∷ []) (make_creation kind d) (alone 11 place (place_field (get (codes "link") d))))
keys_field (GetObject kind) d = tt
keys_field (DropObject kind) d = tt
keys_field ListLinks d = tt
keys_field GetLink d = tt
keys_field PutLink d = alone 11 (fault (target_in d)) (missing (no.BadField field.Link) (link_in d))
keys_field DropLink d = tt
keys_field (ListAttributes kind) d = tt
keys_field (GetAttribute kind) d = tt
keys_field (PutAttribute kind) d = both 11 (fault (type_at d)) (bodies.bad_value d ∷ []) (type_field (get (codes "type") d)) (alone 11 (bodies.bad_value d) (bad_value_field d))
keys_field (DropAttribute kind) d = tt
keys_field GetShape d = tt
keys_field PutShape d = alone 11 (fault (dims_at d)) (missing (no.BadField field.Shape) (option_and_then (λ tree. option_and_then few_of (dims_in tree)) (get (codes "shape") d)))
keys_field GetElem d = tt
keys_field GetValue d = tt
keys_field PutValue d =
    both 11 (fault (or_refuse (no.BadField field.Value) (get (codes "value") d))) (fault (part_at d) ∷ []) (missing (no.BadField field.Value) (get (codes "value") d))
    (alone 11 (fault (part_at d)) (part_field (get (codes "points") d) (get (codes "start") d) (get (codes "stop") d) (get (codes "step") d)))
keys_field GetPoints d = alone 11 (fault (points_in d)) (missing (no.BadField field.Points) (get (codes "points") d))

field_numbered : (path : Text) (form : Form) (d : Data) → Has 11 (bad_field path form d)
field_numbered path form d = both 11 (bad_id form path) (key_tests form d) (id_field form path) (keys_field form d)

class_numbered : (form : Form) (d : Data) → Has 12 (bad_class form d)
class_numbered GetNode d = tt
class_numbered PutNode d = tt
class_numbered Flush d = tt
class_numbered DropNode d = tt
class_numbered ListNodes d = tt
class_numbered GetAcls d = tt
class_numbered GetAcl d = tt
class_numbered PutAcl d = tt
class_numbered (MakeObject kind) d = make_class kind d
class_numbered (GetObject kind) d = tt
class_numbered (DropObject kind) d = tt
class_numbered ListLinks d = tt
class_numbered GetLink d = tt
class_numbered PutLink d = tt
class_numbered DropLink d = tt
class_numbered (ListAttributes kind) d = tt
class_numbered (GetAttribute kind) d = tt
class_numbered (PutAttribute kind) d = type_class (get (codes "type") d)
class_numbered (DropAttribute kind) d = tt
class_numbered GetShape d = tt
class_numbered PutShape d = tt
class_numbered GetElem d = tt
class_numbered GetValue d = tt
class_numbered PutValue d = tt
class_numbered GetPoints d = tt

shape_of_form : (form : Form) (d : Data) → Has 13 (bad_shape form d)
shape_of_form GetNode d = tt
shape_of_form PutNode d = tt
shape_of_form Flush d = tt
shape_of_form DropNode d = tt
shape_of_form ListNodes d = tt
shape_of_form GetAcls d = tt
shape_of_form GetAcl d = tt
shape_of_form PutAcl d = tt
shape_of_form (MakeObject kind) d = make_shape kind d
shape_of_form (GetObject kind) d = tt
shape_of_form (DropObject kind) d = tt
shape_of_form ListLinks d = tt
shape_of_form GetLink d = tt
shape_of_form PutLink d = tt
shape_of_form DropLink d = tt
shape_of_form (ListAttributes kind) d = tt
shape_of_form (GetAttribute kind) d = tt
shape_of_form (PutAttribute kind) d = shape_numbered (shape_of (get (codes "shape") d) None)
shape_of_form (DropAttribute kind) d = tt
shape_of_form GetShape d = tt
shape_of_form PutShape d = tt
shape_of_form GetElem d = tt
shape_of_form GetValue d = tt
shape_of_form PutValue d = tt
shape_of_form GetPoints d = tt

name_of_form : (path : Text) (form : Form) (d : Data) → Has 14 (bad_name path form d)
name_of_form path GetNode d = tt
name_of_form path PutNode d = tt
name_of_form path Flush d = tt
name_of_form path DropNode d = tt
name_of_form path ListNodes d = tt
name_of_form path GetAcls d = tt
name_of_form path GetAcl d = at_name first path
name_of_form path PutAcl d = at_name first path
name_of_form path (MakeObject kind) d = place_title (get (codes "link") d)
name_of_form path (GetObject kind) d = tt
name_of_form path (DropObject kind) d = tt
name_of_form path ListLinks d = tt
name_of_form path GetLink d = at_title path
name_of_form path PutLink d = at_title path
name_of_form path DropLink d = at_title path
name_of_form path (ListAttributes kind) d = tt
name_of_form path (GetAttribute kind) d = at_name second path
name_of_form path (PutAttribute kind) d = at_name second path
name_of_form path (DropAttribute kind) d = at_name second path
name_of_form path GetShape d = tt
name_of_form path PutShape d = tt
name_of_form path GetElem d = tt
name_of_form path GetValue d = tt
name_of_form path PutValue d = tt
name_of_form path GetPoints d = tt

-- ---- the whole message

route_numbered : (route : Option Route) → Has 6 (no_route route)
route_numbered None = refl
route_numbered (Some route) = tt

method_numbered : (route : Option Route) (form : Option Form) → Has 7 (no_method route form)
method_numbered None form = tt
method_numbered (Some route) None = refl
method_numbered (Some route) (Some form) = tt

path_numbered : (text : Text) → Has 9 (fault (path_in text))
path_numbered text = missing no.BadDomain (spelled_path text)

domain_numbered : (named header : Option Text) → Has 9 (fault (domain_by named header))
domain_numbered (Some text) header = path_numbered text
domain_numbered None None = path_numbered root_path
domain_numbered None (Some bytes) = after 9 (or_refuse no.BadDomain (if_text bytes)) path_in (missing no.BadDomain (if_text bytes)) path_numbered

body_numbered : (body : Text) → Has 10 (fault (body_in body))
body_numbered [] = tt
body_numbered (byte ∷ rest) = missing no.BadJson (object_in (byte ∷ rest))

object_numbered : (form : Option Form) (body : Text) → Has 10 (no_object form body)
object_numbered None body = tt
object_numbered (Some form) body = go (reads_body form)
  where
    go : (b : Bool) → Has 10 (fault (if b then body_in body else Ok (object no_members)))
    go true = body_numbered body
    go false = tt

on_body_numbered : (n : ℕ) (form : Option Form) (body : Text) (test : Form → Data → Option Refusal) → ((f : Form) (d : Data) → Has n (test f d))
    → Has n (on_body form body test)
on_body_numbered n None body test each = tt
on_body_numbered n (Some form) body test each = go (object_of form body)
  where
    go : (r : Result Data Refusal) → Has n (on_object r (test form))
    go (Ok d) = each form d
    go (Err refusal) = tt

pub are_numbered : (tokens : TokenTable) (m : RequestText) → AreNumbered 6 (tests tokens m)
are_numbered tokens m =
    let path = path_of m.target in
    let query = query_of m.target in
    let route = route_for path in
    let form = asked route m.method query in (
      route_numbered route,
      (
        method_numbered route form,
        (
          missing no.BadToken (caller_of tokens m.authorization),
          (
            domain_numbered (named_domain query) m.domain,
            (
              object_numbered form m.body,
              (
                on_body_numbered 11 form m.body (bad_field path) (field_numbered path),
                (
                  on_body_numbered 12 form m.body bad_class class_numbered,
                  (on_body_numbered 13 form m.body bad_shape shape_of_form, (on_body_numbered 14 form m.body (bad_name path) (name_of_form path), tt)),
                ),
              ),
            ),
          ),
        ),
      ),
    )
