-- The refusals of a message, each found by a test of its own, in the order of their numbers.
use Rattle.std.specs.Prelude.{◌≡◌, ℕ, suc, List, [], ◌∷◌, Bool, true, false, Option, Some, None, IfSome, Result, Ok, Err, option_and_then, option_map, codes, if◌then◌else◌}
use Rattle.serde_json.specs.Data.{Data, object, no_members}
use Rattle.serde_json.specs.Find.{get}
use Rattle.access_lists.specs.Tokens.Bearer.{TokenTable}
use Rattle.object_ids.specs.declared.ids.Kind.{Kind}
use Rattle.object_ids.specs.declared.ids.Kind.TheVariants as kind
use Rattle.object_ops.specs.declared.refusals.Refusal.{Refusal}
use Rattle.object_ops.specs.declared.refusals.Refusal.TheVariants.{BadHead, HeadTooLong, BadLength, BodyTooLong, TransferCoding, NoRoute, Method, BadToken, BadDomain, BadJson, BadField, UnsupportedType, BadShape, BadName, NoDomain, Forbidden, NoObject, Gone, BadSelect, TooMany, BadValue, Taken, NotEmpty, NoName, Root, Limit, DiskFault, JournalFull}
use Rattle.object_ops.specs.declared.words.FieldWord.TheVariants as field
use Rattle.rest_requests.specs.Queries.Pairs.{Text}
use Rattle.rest_requests.specs.Queries.Targets.{path_of, query_of}
use Rattle.request_bodies.specs.Bodies.{body_in, dims_at, folder_in, rights_in, target_in}
use Rattle.request_bodies.specs.Order as bodies
use Rattle.request_bodies.specs.Order.{attribute_shape, class_of, fault, first_of, type_at}
use Rattle.request_bodies.specs.Refusing.{or_refuse}
use Rattle.request_bodies.specs.Values.{part_at, points_in}
use Rattle.rest_requests.specs.Routes.Found.{route_for}
use Rattle.rest_requests.specs.Routes.Methods.{method_named}
use Rattle.rest_requests.specs.declared.routes.routes.Route.{Route}
use Rattle.rest_requests.specs.Domains.{domain_of}
use Rattle.rest_requests.specs.Forms.{form_at}
use Rattle.rest_requests.specs.Parameters.{first, second, id_at, name_at, title_at}
use Rattle.rest_requests.specs.Requests.{RequestText, form_by, known}
use Rattle.rest_requests.specs.declared.forms.Form.{Form}
use Rattle.rest_requests.specs.declared.forms.Form.TheVariants.{PutNode, GetAcl, PutAcl, MakeObject, GetObject, DropObject, ListLinks, GetLink, PutLink, DropLink, ListAttributes, GetAttribute, PutAttribute, DropAttribute, GetShape, PutShape, GetElem, GetValue, PutValue, GetPoints}

-- the number of a refusal: its place among all of them, from 1
abbrev pub number_of : Refusal → ℕ
number_of BadHead = 1
number_of HeadTooLong = 2
number_of BadLength = 3
number_of BodyTooLong = 4
number_of TransferCoding = 5
number_of NoRoute = 6
number_of Method = 7
number_of BadToken = 8
number_of BadDomain = 9
number_of BadJson = 10
number_of (BadField field) = 11
number_of (UnsupportedType class) = 12
number_of (BadShape fault) = 13
number_of BadName = 14
number_of NoDomain = 15
number_of (Forbidden right) = 16
number_of (NoObject id) = 17
number_of (Gone id) = 18
number_of (BadSelect fault axis byte index) = 19
number_of (TooMany count limit) = 20
number_of (BadValue fault place got want) = 21
number_of (Taken name) = 22
number_of NotEmpty = 23
number_of (NoName name) = 24
number_of Root = 25
number_of (Limit limit what) = 26
number_of DiskFault = 27
number_of (JournalFull end need room) = 28

-- ---- the route and the method

-- what a method and a query ask of a route, if anything
abbrev pub asked : Option Route → Text → Text → Option Form
asked None method query = None
asked (Some route) method query = option_map (form_by query) (option_and_then (form_at route) (method_named method))

-- no route has the path
abbrev pub no_route : Option Route → Option Refusal
no_route None = Some NoRoute
no_route (Some route) = None

-- the route lacks the method
abbrev pub no_method : Option Route → Option Form → Option Refusal
no_method None form = None
no_method (Some route) None = Some Method
no_method (Some route) (Some form) = None

-- ---- the body

abbrev pub reads_body : Form → Bool
reads_body PutNode = true
reads_body PutAcl = true
reads_body (MakeObject kind) = true
reads_body PutLink = true
reads_body (PutAttribute kind) = true
reads_body PutShape = true
reads_body PutValue = true
reads_body GetPoints = true
reads_body form = false

-- the object of a body; one that isn't read is taken for `{}`
abbrev pub object_of : Form → Text → Result Data Refusal
object_of form body = if reads_body form then body_in body else Ok (object no_members)

-- a body that is read is no JSON object
abbrev pub no_object : Option Form → Text → Option Refusal
no_object None body = None
no_object (Some form) body = fault (object_of form body)

abbrev pub on_object : Result Data Refusal → (Data → Option Refusal) → Option Refusal
on_object (Ok d) test = test d
on_object (Err refusal) test = None

-- a test of what is asked and of the body's object, where both are there; else it finds nothing
abbrev pub on_body : Option Form → Text → (Form → Data → Option Refusal) → Option Refusal
on_body None body test = None
on_body (Some form) body test = on_object (object_of form body) (test form)

-- ---- what is asked of the parts of the path and the keys of the body

-- the collection of the object that the path names
abbrev pub collection_of : Form → Option Kind
collection_of (GetObject kind) = Some kind
collection_of (DropObject kind) = Some kind
collection_of ListLinks = Some kind.Group
collection_of GetLink = Some kind.Group
collection_of PutLink = Some kind.Group
collection_of DropLink = Some kind.Group
collection_of (ListAttributes kind) = Some kind
collection_of (GetAttribute kind) = Some kind
collection_of (PutAttribute kind) = Some kind
collection_of (DropAttribute kind) = Some kind
collection_of GetShape = Some kind.Dataset
collection_of PutShape = Some kind.Dataset
collection_of GetElem = Some kind.Dataset
collection_of GetValue = Some kind.Dataset
collection_of PutValue = Some kind.Dataset
collection_of GetPoints = Some kind.Dataset
collection_of form = None

abbrev pub bad_id : Form → Text → Option Refusal
bad_id form path = option_and_then (λ kind. fault (id_at kind path)) (collection_of form)

-- the keys of the body, in the order in which they are judged
abbrev pub key_tests : Form → Data → List (Option Refusal)
key_tests PutNode d = fault (folder_in d) ∷ []
key_tests PutAcl d = fault (rights_in d) ∷ []
key_tests (MakeObject kind) d = bodies.bad_type kind d ∷ bodies.bad_creation kind d ∷ bodies.bad_place (get (codes "link") d) ∷ []
key_tests (PutAttribute kind) d = fault (type_at d) ∷ bodies.bad_value d ∷ []
key_tests PutLink d = fault (target_in d) ∷ []
key_tests PutShape d = fault (dims_at d) ∷ []
key_tests PutValue d = fault (or_refuse (BadField field.Value) (get (codes "value") d)) ∷ fault (part_at d) ∷ []
key_tests GetPoints d = fault (points_in d) ∷ []
key_tests form d = []

-- the id, or a key of the body, is missing or of the wrong form
abbrev pub bad_field : Text → Form → Data → Option Refusal
bad_field path form d = first_of (bad_id form path ∷ key_tests form d)

-- the class of the type isn't supported
abbrev pub bad_class : Form → Data → Option Refusal
bad_class (MakeObject kind) d = bodies.bad_class kind d
bad_class (PutAttribute kind) d = class_of (type_at d)
bad_class form d = None

-- the shape is none
abbrev pub bad_shape : Form → Data → Option Refusal
bad_shape (MakeObject kind) d = bodies.bad_shape kind d
bad_shape (PutAttribute kind) d = fault (attribute_shape d)
bad_shape form d = None

-- a name or a title is none
abbrev pub bad_name : Text → Form → Data → Option Refusal
bad_name path GetAcl d = fault (name_at first path)
bad_name path PutAcl d = fault (name_at first path)
bad_name path (MakeObject kind) d = bodies.bad_title (get (codes "link") d)
bad_name path GetLink d = fault (title_at path)
bad_name path PutLink d = fault (title_at path)
bad_name path DropLink d = fault (title_at path)
bad_name path (GetAttribute kind) d = fault (name_at second path)
bad_name path (PutAttribute kind) d = fault (name_at second path)
bad_name path (DropAttribute kind) d = fault (name_at second path)
bad_name path form d = None

-- ---- all of them

-- the tests of a message: those of the refusals 6 to 14
abbrev pub tests : TokenTable → RequestText → List (Option Refusal)
tests tokens m =
    let path = path_of m.target in
    let query = query_of m.target in
    let route = route_for path in
    let form = asked route m.method query in
    no_route route
    ∷ no_method route form
    ∷ fault (known tokens m.authorization)
    ∷ fault (domain_of query m.domain)
    ∷ no_object form m.body
    ∷ on_body form m.body (bad_field path)
    ∷ on_body form m.body bad_class
    ∷ on_body form m.body bad_shape
    ∷ on_body form m.body (bad_name path)
    ∷ []

-- what tests find has their number, counted from one on
abbrev pub AreNumbered : ℕ → List (Option Refusal) → Type 0
AreNumbered n [] = Unit {0}
AreNumbered n (test ∷ rest) = IfSome test (λ refusal. number_of refusal ≡ n) × AreNumbered (suc n) rest
