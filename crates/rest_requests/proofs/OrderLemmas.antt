-- The first refusal of a message is the first that its tests find.
use Rattle.std.proofs.Common.{◌≡◌, ◌∙◌, ap, refl, ℕ, List, [], ◌∷◌, Bool, true, false, Option, Some, None, Result, Ok, Err}
use Rattle.std.specs.Prelude.{codes, option_and_then, option_map}
use Rattle.serde_json.specs.Data.{Data}
use Rattle.serde_json.specs.Find.{get}
use Rattle.json_trees.specs.Faults.{◌>>=◌}
use Rattle.access_lists.specs.declared.people.Caller.{Caller}
use Rattle.access_lists.specs.Tokens.Bearer.{TokenTable}
use Rattle.object_ids.specs.declared.ids.Kind.TheVariants.{Group, Dataset}
use Rattle.object_ops.specs.declared.ops.Op.{Op}
use Rattle.object_ops.specs.declared.ops.Op.TheVariants as op
use Rattle.object_ops.specs.declared.ops.Request.{Request}
use Rattle.object_ops.specs.declared.refusals.Refusal.{Refusal}
use Rattle.object_ops.specs.declared.refusals.Refusal.TheVariants as no
use Rattle.object_ops.specs.declared.words.FieldWord.TheVariants as field
use Rattle.rest_requests.specs.Queries.Pairs.{Text, pairs_of, value_of}
use Rattle.rest_requests.specs.Queries.Targets.{path_of, query_of}
use Rattle.request_bodies.specs.Bodies.{attribute_in, body_in, dims_at, folder_in, rights_in, target_in}
use Rattle.request_bodies.specs.Makes.{make_in}
use Rattle.request_bodies.specs.Order as bodies
use Rattle.request_bodies.specs.Order.{attribute_shape, class_of, fault, first_of, type_at}
use Rattle.request_bodies.specs.Refusing.{or_refuse}
use Rattle.request_bodies.specs.Values.{part_at, points_in, write_in}
use Rattle.request_bodies.proofs.OrderLemmas.{attribute_first, make_first}
use Rattle.rest_requests.specs.Routes.Found.{route_for}
use Rattle.rest_requests.specs.Routes.Methods.{method_named}
use Rattle.rest_requests.specs.declared.routes.routes.Route.{Route}
use Rattle.rest_requests.specs.Domains.{domain_of}
use Rattle.rest_requests.specs.Forms.{form_at}
use Rattle.rest_requests.specs.Operations.{op_of}
use Rattle.rest_requests.specs.Order.{asked, bad_class, bad_field, bad_name, bad_shape, no_method, no_object, no_route, object_of, on_body, on_object, tests}
use Rattle.rest_requests.specs.Parameters.{first, second, id_at, name_at, title_at}
use Rattle.rest_requests.specs.Requests.{RequestText, form_by, known, request_at, request_of}
use Rattle.rest_requests.specs.declared.forms.Form.{Form}
use Rattle.rest_requests.specs.declared.forms.Form.TheVariants.{GetNode, PutNode, Flush, DropNode, ListNodes, GetAcls, GetAcl, PutAcl, MakeObject, GetObject, DropObject, ListLinks, GetLink, PutLink, DropLink, ListAttributes, GetAttribute, PutAttribute, DropAttribute, GetShape, PutShape, GetElem, GetValue, PutValue, GetPoints}

-- ---- chains of tests

grouped : (a b c e f g : Option Refusal) → first_of (a ∷ b ∷ c ∷ e ∷ f ∷ g ∷ []) ≡ first_of (first_of (a ∷ b ∷ c ∷ []) ∷ e ∷ f ∷ g ∷ [])
grouped (Some r) b c e f g = refl
grouped None (Some r) c e f g = refl
grouped None None (Some r) e f g = refl
grouped None None None e f g = refl

handed : {A B : Type 0} (r : Result A Refusal) (k : A → B) → fault (r >>= λ x. Ok (k x)) ≡ fault r
handed (Ok x) k = refl
handed (Err e) k = refl

one_field : {A B : Type 0} (r : Result A Refusal) (k : A → B) → fault (r >>= λ x. Ok (k x)) ≡ first_of (first_of (fault r ∷ []) ∷ None ∷ None ∷ None ∷ [])
one_field (Ok x) k = refl
one_field (Err e) k = refl

one_name : {A B : Type 0} (n : Result A Refusal) (k : A → B) → fault (n >>= λ x. Ok (k x)) ≡ first_of (None ∷ None ∷ None ∷ fault n ∷ [])
one_name (Ok x) k = refl
one_name (Err e) k = refl

field_and_name : {A B C : Type 0} (r : Result A Refusal) (n : Result B Refusal) (k : A → B → C)
    → fault (r >>= λ x. n >>= λ y. Ok (k x y)) ≡ first_of (first_of (fault r ∷ []) ∷ None ∷ None ∷ fault n ∷ [])
field_and_name (Ok x) (Ok y) k = refl
field_and_name (Ok x) (Err e) k = refl
field_and_name (Err e) n k = refl

two_fields : {A B C : Type 0} (r : Result A Refusal) (s : Result B Refusal) (k : A → B → C)
    → fault (r >>= λ x. s >>= λ y. Ok (k x y)) ≡ first_of (first_of (fault r ∷ fault s ∷ []) ∷ None ∷ None ∷ None ∷ [])
two_fields (Ok x) (Ok y) k = refl
two_fields (Ok x) (Err e) k = refl
two_fields (Err e) s k = refl

fields_and_name : {A B C D : Type 0} (r : Result A Refusal) (s : Result B Refusal) (n : Result C Refusal) (k : A → B → C → D)
    → fault (r >>= λ x. s >>= λ y. n >>= λ z. Ok (k x y z)) ≡ first_of (first_of (fault r ∷ fault s ∷ []) ∷ None ∷ None ∷ fault n ∷ [])
fields_and_name (Ok x) (Ok y) (Ok z) k = refl
fields_and_name (Ok x) (Ok y) (Err e) k = refl
fields_and_name (Ok x) (Err e) n k = refl
fields_and_name (Err e) s n k = refl

abbrev paired : {B C : Type 0} → Result B Refusal → Result C Refusal → Result (C × B) Refusal
paired v p = v >>= λ y. p >>= λ z. Ok (z, y)

three_fields : {A B C D : Type 0} (r : Result A Refusal) (v : Result B Refusal) (p : Result C Refusal) (k : A → C → B → D)
    → fault (r >>= λ x. paired v p >>= λ w. Ok (k x w.0 w.1))
    ≡ first_of (first_of (fault r ∷ fault v ∷ fault p ∷ []) ∷ None ∷ None ∷ None ∷ [])
three_fields (Ok x) (Ok y) (Ok z) k = refl
three_fields (Ok x) (Ok y) (Err e) k = refl
three_fields (Ok x) (Err e) p k = refl
three_fields (Err e) v p k = refl

-- an attribute's tests stand on both sides of others
split_name : {A B C : Type 0} (a : Result A Refusal) (n : Result B Refusal) (k : A → B → C) (t v c s : Option Refusal) → fault a ≡ first_of (t ∷ v ∷ c ∷ s ∷ [])
    → fault (a >>= λ x. n >>= λ y. Ok (k x y)) ≡ first_of (first_of (t ∷ v ∷ []) ∷ c ∷ s ∷ fault n ∷ [])
split_name (Err e) n k (Some r) v c s h = h
split_name (Err e) n k None (Some r) c s h = h
split_name (Err e) n k None None (Some r) s h = h
split_name (Err e) n k None None None (Some r) h = h
split_name (Err e) n k None None None None h = absurd (cc)
split_name (Ok x) n k (Some r) v c s h = absurd (cc)
split_name (Ok x) n k None (Some r) c s h = absurd (cc)
split_name (Ok x) n k None None (Some r) s h = absurd (cc)
split_name (Ok x) n k None None None (Some r) h = absurd (cc)
split_name (Ok x) (Ok y) k None None None None h = refl
split_name (Ok x) (Err e) k None None None None h = refl

split_fields : {A B C D : Type 0} (r : Result D Refusal) (a : Result A Refusal) (n : Result B Refusal) (k : D → A → B → C) (t v c s : Option Refusal)
    → fault a ≡ first_of (t ∷ v ∷ c ∷ s ∷ [])
    → fault (r >>= λ x. a >>= λ y. n >>= λ z. Ok (k x y z)) ≡ first_of (first_of (fault r ∷ t ∷ v ∷ []) ∷ c ∷ s ∷ fault n ∷ [])
split_fields (Ok x) a n k t v c s h = split_name a n (k x) t v c s h
split_fields (Err e) a n k t v c s h = refl

-- ---- what is asked

-- the tests of a form
abbrev form_tests : Form → Text → Text → List (Option Refusal)
form_tests form path body =
    fault (object_of form body)
    ∷ on_object (object_of form body) (bad_field path form)
    ∷ on_object (object_of form body) (bad_class form)
    ∷ on_object (object_of form body) (bad_shape form)
    ∷ on_object (object_of form body) (bad_name path form)
    ∷ []

on_read : (b : Result Data Refusal) (form : Form) (path : Text) (k : Data → Result Op Refusal)
    → ((d : Data) → fault (k d) ≡ first_of (bad_field path form d ∷ bad_class form d ∷ bad_shape form d ∷ bad_name path form d ∷ []))
    → fault (b >>= k) ≡ first_of (fault b ∷ on_object b (bad_field path form) ∷ on_object b (bad_class form) ∷ on_object b (bad_shape form) ∷ on_object b (bad_name path form) ∷ [])
on_read (Ok d) form path k each = each d
on_read (Err refusal) form path k each = refl

op_first : (form : Form) (path query body : Text) → fault (op_of form path query body) ≡ first_of (form_tests form path body)
op_first GetNode path query body = refl
op_first PutNode path query body = on_read (body_in body) PutNode path (λ d. folder_in d >>= λ folder. Ok (op.PutNode folder)) (λ d. one_field (folder_in d) op.PutNode)
op_first Flush path query body = refl
op_first DropNode path query body = refl
op_first ListNodes path query body = refl
op_first GetAcls path query body = refl
op_first GetAcl path query body = one_name (name_at first path) op.GetAcl
op_first PutAcl path query body =
    on_read (body_in body) PutAcl path (λ d. rights_in d >>= λ rights. name_at first path >>= λ name. Ok (op.PutAcl name rights)) (λ d. field_and_name (rights_in d) (name_at first path) (λ rights name. op.PutAcl name rights))
op_first (MakeObject kind) path query body = on_read (body_in body) (MakeObject kind) path (λ d. make_in kind d >>= λ made. Ok (op.MakeObject made.0 made.1)) (λ d.
    let link = get (codes "link") d in
    handed (make_in kind d) (λ made. op.MakeObject made.0 made.1) ∙ make_first kind d
    ∙ grouped (bodies.bad_type kind d) (bodies.bad_creation kind d) (bodies.bad_place link) (bodies.bad_class kind d) (bodies.bad_shape kind d) (bodies.bad_title link))
op_first (GetObject kind) path query body = one_field (id_at kind path) op.GetObject
op_first (DropObject kind) path query body = one_field (id_at kind path) op.DropObject
op_first ListLinks path query body = one_field (id_at Group path) op.ListLinks
op_first GetLink path query body = field_and_name (id_at Group path) (title_at path) op.GetLink
op_first PutLink path query body =
    on_read (body_in body) PutLink path (λ d. id_at Group path >>= λ id. target_in d >>= λ link. title_at path >>= λ title. Ok (op.PutLink id title link)) (λ d. fields_and_name (id_at Group path) (target_in d) (title_at path) (λ id link title. op.PutLink id title link))
op_first DropLink path query body = field_and_name (id_at Group path) (title_at path) op.DropLink
op_first (ListAttributes kind) path query body = one_field (id_at kind path) op.ListAttributes
op_first (GetAttribute kind) path query body = field_and_name (id_at kind path) (name_at second path) op.GetAttribute
op_first (PutAttribute kind) path query body = on_read (body_in body) (PutAttribute kind) path (λ d. id_at kind path >>= λ id. attribute_in d >>= λ attribute. name_at second path >>= λ name. Ok (op.PutAttribute id name attribute)) (λ d.
    split_fields (id_at kind path) (attribute_in d) (name_at second path) (λ id attribute name. op.PutAttribute id name attribute)
    (fault (type_at d)) (bodies.bad_value d) (class_of (type_at d)) (fault (attribute_shape d)) (attribute_first d))
op_first (DropAttribute kind) path query body = field_and_name (id_at kind path) (name_at second path) op.DropAttribute
op_first GetShape path query body = one_field (id_at Dataset path) op.GetShape
op_first PutShape path query body = on_read (body_in body) PutShape path (λ d. id_at Dataset path >>= λ id. dims_at d >>= λ dims. Ok (op.PutShape id dims)) (λ d. two_fields (id_at Dataset path) (dims_at d) op.PutShape)
op_first GetElem path query body = one_field (id_at Dataset path) op.GetElem
op_first GetValue path query body = one_field (id_at Dataset path) (λ id. op.GetValue id (value_of (codes "select") (pairs_of query)))
op_first PutValue path query body = on_read (body_in body) PutValue path (λ d. id_at Dataset path >>= λ id. write_in d >>= λ write. Ok (op.PutValue id write.0 write.1)) (λ d.
    three_fields (id_at Dataset path) (or_refuse (no.BadField field.Value) (get (codes "value") d)) (part_at d) op.PutValue)
op_first GetPoints path query body = on_read (body_in body) GetPoints path (λ d. id_at Dataset path >>= λ id. points_in d >>= λ points. Ok (op.GetPoints id points)) (λ d. two_fields (id_at Dataset path) (points_in d) op.GetPoints)

-- ---- the whole message

abbrev behind_form : TokenTable → RequestText → Form → List (Option Refusal)
behind_form tokens m form = fault (known tokens m.authorization) ∷ fault (domain_of (query_of m.target) m.domain) ∷ form_tests form (path_of m.target) m.body

known_first : (form : Form) (path query body : Text) (caller : Result Caller Refusal) (domain : Result Text Refusal)
    → fault {A = Caller × Request} (caller >>= λ caller. domain >>= λ domain. op_of form path query body >>= λ op. Ok (caller, request_at domain op))
    ≡ first_of (fault caller ∷ fault domain ∷ form_tests form path body)
known_first form path query body (Err e) domain = refl
known_first form path query body (Ok caller) (Err e) = refl
known_first form path query body (Ok caller) (Ok domain) =
    let asks : Op → Caller × Request = λ op. (caller, request_at domain op) in
    handed (op_of form path query body) asks ∙ op_first form path query body

module _ (tokens : TokenTable) (m : RequestText) where
  abbrev step : Form → Result (Caller × Request) Refusal
  step form =
      known tokens m.authorization >>= λ caller. domain_of (query_of m.target) m.domain >>= λ domain.
      op_of (form_by (query_of m.target) form) (path_of m.target) (query_of m.target) m.body >>= λ op. Ok (caller, request_at domain op)

  step_first : (form : Form) → fault (step form) ≡ first_of (behind_form tokens m (form_by (query_of m.target) form))
  step_first form =
      known_first (form_by (query_of m.target) form) (path_of m.target) (query_of m.target) m.body (known tokens m.authorization) (domain_of (query_of m.target) m.domain)

  abbrev all_tests : Option Route → Option Form → List (Option Refusal)
  all_tests route form =
      no_route route
      ∷ no_method route form
      ∷ fault (known tokens m.authorization)
      ∷ fault (domain_of (query_of m.target) m.domain)
      ∷ no_object form m.body
      ∷ on_body form m.body (bad_field (path_of m.target))
      ∷ on_body form m.body bad_class
      ∷ on_body form m.body bad_shape
      ∷ on_body form m.body (bad_name (path_of m.target))
      ∷ []

  route_first : (route : Route) (form : Option Form) → fault (or_refuse no.Method form >>= step) ≡ first_of (all_tests (Some route) (option_map (form_by (query_of m.target)) form))
  route_first route None = refl
  route_first route (Some form) = step_first form

  path_first : (route : Option Route) → fault (or_refuse no.NoRoute route >>= λ route. or_refuse no.Method (option_and_then (form_at route) (method_named m.method)) >>= step)
      ≡ first_of (all_tests route (asked route m.method (query_of m.target)))
  path_first None = refl
  path_first (Some route) = route_first route (option_and_then (form_at route) (method_named m.method))

pub request_first : (tokens : TokenTable) (m : RequestText) → fault (request_of tokens m) ≡ first_of (tests tokens m)
request_first tokens m = path_first tokens m (route_for (path_of m.target))
