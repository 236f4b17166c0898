-- What is asked and what is answered may cross threads: what they are made of, each found by itself.
use denote.Param.Send.{IsSend, sendable}
use Rattle.std.proofs.Crossing.{crosses}
use Rattle.std.proofs.MapsCrossing as maps
use Rattle.serde_json.proofs.value.Value.TheLaws.TheKnot.{send-Value}
use Rattle.json_trees.specs.contracts.kept.kept_tree.KeptTree as tree
use Rattle.json_trees.specs.contracts.kept.list.KeptList as list
use Rattle.shapes.specs.contracts.kept_dims.KeptDims as dims
use Rattle.hdf_types.proofs.types.Fields.TheLaws.TheKnot as knot
use Rattle.hdf_types.specs.contracts.types.ElemType as elem
use Rattle.hdf_values.specs.contracts.attributes.Attribute as attribute
use Rattle.hdf_values.specs.contracts.kept.packed.Packed as packed
use Rattle.hdf_values.specs.contracts.kept.value.Form as kept
use Rattle.hdf_values.specs.contracts.kept.value.KeptValue as value
use Rattle.groups_links.specs.contracts.target.LinkTo as link
use Rattle.object_ids.specs.contracts.ids.ObjectId as id
use Rattle.object_ids.specs.contracts.names.Name as name
use Rattle.access_lists.specs.contracts.rights.Rights as rights
use Rattle.object_ops.specs.contracts.body.Body as body
use Rattle.object_ops.specs.contracts.body.Cells as cells
use Rattle.object_ops.specs.contracts.body.Form as form
use Rattle.object_ops.specs.contracts.ops.LinkPlace as place
use Rattle.object_ops.specs.contracts.ops.Make as make
use Rattle.object_ops.specs.contracts.ops.Op as op
use Rattle.object_ops.specs.contracts.ops.Part as part
use Rattle.object_ops.specs.contracts.ops.SelectText as select
use Rattle.object_ops.specs.contracts.replies.Reply as reply

pub elem_send : IsSend elem.the_field.row
elem_send = search (sendable, crosses, maps.crosses, knot.crosses) depth 40

pub attribute_send : IsSend attribute.the_field.row
attribute_send = search (sendable, crosses, maps.crosses, elem_send) depth 40 fits 20000

pub make_send : IsSend make.the_field.row
make_send = search (sendable, crosses, maps.crosses, elem_send) depth 40 fits 20000

tree_send : IsSend tree.the_field.row
tree_send = search (sendable, crosses, maps.crosses) depth 40 fits 20000

list_send : IsSend list.the_field.row
list_send = search (sendable, crosses, tree_send) depth 40 fits 20000

dims_send : IsSend dims.the_field.row
dims_send = search (sendable, crosses, maps.crosses, tree_send) depth 40 fits 20000

packed_send : IsSend packed.the_field.row
packed_send = search (sendable, crosses, maps.crosses, elem_send) depth 40 fits 20000

kept_send : IsSend kept.the_field.row
kept_send = search (sendable, crosses, tree_send, packed_send) depth 40 fits 20000

value_send : IsSend value.the_field.row
value_send = search (sendable, crosses, kept_send) depth 40 fits 20000

part_send : IsSend part.the_field.row
part_send = search (sendable, crosses, list_send, dims_send) depth 40 fits 20000

select_send : IsSend select.the_field.row
select_send = search (sendable, crosses, maps.crosses) depth 40 fits 20000

place_send : IsSend place.the_field.row
place_send = search (sendable, crosses, maps.crosses) depth 40 fits 20000

link_send : IsSend link.the_field.row
link_send = search (sendable, crosses, maps.crosses) depth 40 fits 20000

name_send : IsSend name.the_field.row
name_send = search (sendable, crosses, maps.crosses) depth 40 fits 20000

id_send : IsSend id.the_field.row
id_send = search (sendable, crosses, maps.crosses) depth 40 fits 20000

rights_send : IsSend rights.the_field.row
rights_send = search (sendable, crosses, maps.crosses) depth 40 fits 20000

pub op_send : IsSend op.the_field.row
op_send = search (sendable, crosses, attribute_send, make_send, list_send, value_send, part_send, select_send, place_send, link_send, name_send, id_send, rights_send) depth 60 fits 400000

cells_send : IsSend cells.the_field.row
cells_send = search (sendable, crosses, maps.crosses, elem_send) depth 40 fits 20000

form_send : IsSend form.the_field.row
form_send = search (sendable, crosses, maps.crosses, cells_send, send-Value) depth 40 fits 20000

body_send : IsSend body.the_field.row
body_send = search (sendable, crosses, form_send) depth 40 fits 20000

pub reply_send : IsSend reply.the_field.row
reply_send = search (sendable, crosses, maps.crosses, body_send) depth 60 fits 400000
