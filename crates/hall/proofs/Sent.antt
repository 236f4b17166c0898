-- Passes may be sent to threads, and halls be shared by them: what they are made of, each found by itself.
use denote.RattleType.{RattleType}
use denote.Param.Send.{IsSend, IsSync, sendable}
use Rattle.std.proofs.Crossing.{crosses}
use Rattle.std.proofs.MapsCrossing as maps
use Rattle.chunk_owner.proofs.Sent as slots
use Rattle.chunk_owner.specs.contracts.owner.Owner as owner
use Rattle.register.specs.contracts.register.Register as register
use Rattle.service_core.specs.contracts.owners.Owners as owners
use Rattle.hall.specs.contracts.desk.NotedDesk as desk

pub register_send : IsSend register.the_row
register_send = search (sendable, crosses, maps.crosses) depth 60 fits 5000

pub owner_send : IsSend owner.the_row
owner_send = search (sendable, crosses, maps.crosses, slots.slot_send) depth 40 fits 5000

pub owner_sync : IsSync owner.the_row
owner_sync = search (sendable, crosses, maps.crosses, slots.slot_sync) depth 40 fits 5000

pub owners_sync : IsSync owners.the_field.row
owners_sync = search (sendable, crosses, owner_sync) depth 40 fits 5000

pub desk_send : (D : RattleType) → IsSend D → IsSend (desk.the_row D)
desk_send D d = search (sendable, crosses) depth 40 fits 5000
