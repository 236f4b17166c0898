-- Lanes may cross threads: what they are made of, each found by itself.
use denote.Param.Send.{IsSend, IsSync, sendable}
use Rattle.std.proofs.Crossing.{crosses}
use Rattle.std.proofs.MapsCrossing as maps
use Rattle.hdf_types.proofs.types.Fields.TheLaws.TheKnot as knot
use Rattle.hdf_types.specs.contracts.types.ElemType as elem
use Rattle.chunk_store.specs.contracts.array.Array as array
use Rattle.object_acts.specs.contracts.objects.Object as object
use Rattle.object_acts.specs.contracts.objects.Body as body
use Rattle.chunk_owner.specs.contracts.slots.changes.Changes as changes
use Rattle.chunk_owner.specs.contracts.slots.slot.Slot as slot

elem_send : IsSend elem.the_field.row
elem_send = search (sendable, crosses, maps.crosses, knot.crosses) depth 40

array_send : IsSend array.the_field.row
array_send = search (sendable, crosses, maps.crosses, elem_send) depth 40 fits 20000

body_send : IsSend body.the_field.row
body_send = search (sendable, crosses, maps.crosses, elem_send, array_send) depth 40 fits 20000

object_send : IsSend object.the_field.row
object_send = search (sendable, crosses, maps.crosses, elem_send, body_send) depth 40 fits 20000

pub slot_send : IsSend slot.the_field.row
slot_send = search (sendable, crosses, maps.crosses, object_send) depth 40 fits 20000

pub changes_send : IsSend changes.the_field.row
changes_send = search (sendable, crosses, maps.crosses) depth 40 fits 20000

elem_sync : IsSync elem.the_field.row
elem_sync = search (sendable, crosses, maps.crosses, knot.crosses) depth 40

array_sync : IsSync array.the_field.row
array_sync = search (sendable, crosses, maps.crosses, elem_sync) depth 40 fits 20000

body_sync : IsSync body.the_field.row
body_sync = search (sendable, crosses, maps.crosses, elem_sync, array_sync) depth 40 fits 20000

object_sync : IsSync object.the_field.row
object_sync = search (sendable, crosses, maps.crosses, elem_sync, body_sync) depth 40 fits 20000

pub slot_sync : IsSync slot.the_field.row
slot_sync = search (sendable, crosses, maps.crosses, object_sync) depth 40 fits 20000

pub changes_sync : IsSync changes.the_field.row
changes_sync = search (sendable, crosses, maps.crosses) depth 40 fits 20000
