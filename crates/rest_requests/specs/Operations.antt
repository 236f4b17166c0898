-- The operation of each form: what the path, the query and the body give, tested in the order of the refusals.
use Rattle.std.specs.Prelude.{ℕ, List, Option, Result, Ok, codes}
use Rattle.json_trees.specs.Faults.{◌>>=◌}
use Rattle.object_ids.specs.declared.ids.Kind.{Kind}
use Rattle.object_ids.specs.declared.ids.Kind.TheVariants.{Group, Dataset}
use Rattle.object_ops.specs.declared.ops.Op.{Op}
use Rattle.object_ops.specs.declared.ops.Op.TheVariants as op
use Rattle.object_ops.specs.declared.refusals.Refusal.{Refusal}
use Rattle.rest_requests.specs.Queries.Pairs.{Text, pairs_of, value_of}
use Rattle.request_bodies.specs.Bodies.{attribute_in, body_in, dims_at, folder_in, rights_in, target_in}
use Rattle.request_bodies.specs.Makes.{make_in}
use Rattle.request_bodies.specs.Values.{points_in, write_in}
use Rattle.rest_requests.specs.Parameters.{first, second, id_at, name_at, title_at}
use Rattle.rest_requests.specs.declared.forms.Form.{Form}
use Rattle.rest_requests.specs.declared.forms.Form.TheVariants.{GetNode, PutNode, Flush, DropNode, ListNodes, GetAcls, GetAcl, PutAcl, MakeObject, GetObject, DropObject, ListLinks, GetLink, PutLink, DropLink, ListAttributes, GetAttribute, PutAttribute, DropAttribute, GetShape, PutShape, GetElem, GetValue, PutValue, GetPoints}

-- ---- folders, domains and access lists

abbrev pub put_node : Text → Result Op Refusal
put_node body = body_in body >>= λ d. folder_in d >>= λ folder. Ok (op.PutNode folder)

abbrev pub get_acl : Text → Result Op Refusal
get_acl path = name_at first path >>= λ name. Ok (op.GetAcl name)

abbrev pub put_acl : Text → Text → Result Op Refusal
put_acl path body = body_in body >>= λ d. rights_in d >>= λ rights. name_at first path >>= λ name. Ok (op.PutAcl name rights)

-- ---- objects

abbrev pub make_object : Kind → Text → Result Op Refusal
make_object kind body = body_in body >>= λ d. make_in kind d >>= λ made. Ok (op.MakeObject made.0 made.1)

abbrev pub get_object : Kind → Text → Result Op Refusal
get_object kind path = id_at kind path >>= λ id. Ok (op.GetObject id)

abbrev pub drop_object : Kind → Text → Result Op Refusal
drop_object kind path = id_at kind path >>= λ id. Ok (op.DropObject id)

-- ---- links

abbrev pub list_links : Text → Result Op Refusal
list_links path = id_at Group path >>= λ id. Ok (op.ListLinks id)

abbrev pub get_link : Text → Result Op Refusal
get_link path = id_at Group path >>= λ id. title_at path >>= λ title. Ok (op.GetLink id title)

abbrev pub put_link : Text → Text → Result Op Refusal
put_link path body =
    body_in body >>= λ d. id_at Group path >>= λ id. target_in d >>= λ link. title_at path >>= λ title. Ok (op.PutLink id title link)

abbrev pub drop_link : Text → Result Op Refusal
drop_link path = id_at Group path >>= λ id. title_at path >>= λ title. Ok (op.DropLink id title)

-- ---- attributes

abbrev pub list_attributes : Kind → Text → Result Op Refusal
list_attributes kind path = id_at kind path >>= λ id. Ok (op.ListAttributes id)

abbrev pub get_attribute : Kind → Text → Result Op Refusal
get_attribute kind path = id_at kind path >>= λ id. name_at second path >>= λ name. Ok (op.GetAttribute id name)

abbrev pub put_attribute : Kind → Text → Text → Result Op Refusal
put_attribute kind path body =
    body_in body >>= λ d. id_at kind path >>= λ id. attribute_in d >>= λ attribute. name_at second path >>= λ name. Ok (op.PutAttribute id name attribute)

abbrev pub drop_attribute : Kind → Text → Result Op Refusal
drop_attribute kind path = id_at kind path >>= λ id. name_at second path >>= λ name. Ok (op.DropAttribute id name)

-- ---- the shape, the type and the elements of a dataset

abbrev pub get_shape : Text → Result Op Refusal
get_shape path = id_at Dataset path >>= λ id. Ok (op.GetShape id)

abbrev pub put_shape : Text → Text → Result Op Refusal
put_shape path body = body_in body >>= λ d. id_at Dataset path >>= λ id. dims_at d >>= λ dims. Ok (op.PutShape id dims)

abbrev pub get_elem : Text → Result Op Refusal
get_elem path = id_at Dataset path >>= λ id. Ok (op.GetElem id)

abbrev pub get_value : Text → Text → Result Op Refusal
get_value path query = id_at Dataset path >>= λ id. Ok (op.GetValue id (value_of (codes "select") (pairs_of query)))

abbrev pub put_value : Text → Text → Result Op Refusal
put_value path body = body_in body >>= λ d. id_at Dataset path >>= λ id. write_in d >>= λ write. Ok (op.PutValue id write.0 write.1)

abbrev pub get_points : Text → Text → Result Op Refusal
get_points path body = body_in body >>= λ d. id_at Dataset path >>= λ id. points_in d >>= λ points. Ok (op.GetPoints id points)

-- the operation of a form; a body is read only where it is asked for
abbrev pub op_of : Form → Text → Text → Text → Result Op Refusal
op_of GetNode path query body = Ok op.GetNode
op_of PutNode path query body = put_node body
op_of Flush path query body = Ok op.Flush
op_of DropNode path query body = Ok op.DropNode
op_of ListNodes path query body = Ok op.ListNodes
op_of GetAcls path query body = Ok op.GetAcls
op_of GetAcl path query body = get_acl path
op_of PutAcl path query body = put_acl path body
op_of (MakeObject kind) path query body = make_object kind body
op_of (GetObject kind) path query body = get_object kind path
op_of (DropObject kind) path query body = drop_object kind path
op_of ListLinks path query body = list_links path
op_of GetLink path query body = get_link path
op_of PutLink path query body = put_link path body
op_of DropLink path query body = drop_link path
op_of (ListAttributes kind) path query body = list_attributes kind path
op_of (GetAttribute kind) path query body = get_attribute kind path
op_of (PutAttribute kind) path query body = put_attribute kind path body
op_of (DropAttribute kind) path query body = drop_attribute kind path
op_of GetShape path query body = get_shape path
op_of PutShape path query body = put_shape path body
op_of GetElem path query body = get_elem path
op_of GetValue path query body = get_value path query
op_of PutValue path query body = put_value path body
op_of GetPoints path query body = get_points path body
