-- Tokens may be shared by threads, and a journal's desk be sent to one: what they are made of, each found by itself.
use denote.RattleType.{RattleType}
use denote.Param.Send.{IsSend, IsSync, sendable}
use Rattle.std.proofs.Crossing.{crosses}
use Rattle.std.proofs.MapsCrossing as maps
use Rattle.atomic_table.proofs.badge.Badge.TheSendSync as badge
use Rattle.matchit.proofs.tree.Node.TheLaws.TheKnot as knot
use Rattle.access_lists.specs.contracts.people.Caller as caller
use Rattle.access_lists.specs.contracts.tokens.table.TokenTable as table
use Rattle.edge_traits.specs.declared.disk.Disk.{Ghosts}
use Rattle.hall.specs.contracts.journal.JournalDesk as desk
use Rattle.hall.specs.contracts.note.HallNote as note
use Rattle.rest_requests.specs.contracts.routes.table.RouteTable as routes
use Rattle.rest_requests.specs.contracts.tokens.Tokens as tokens

caller_sync : IsSync caller.the_field.row
caller_sync = search (sendable, crosses, maps.crosses) depth 60 fits 5000

table_sync : IsSync table.the_field.row
table_sync = search (sendable, crosses, maps.crosses, caller_sync) depth 60 fits 5000

routes_sync : IsSync routes.the_field.row
routes_sync = search (sendable, crosses, maps.crosses, knot.crosses) depth 60 fits 5000

pub tokens_sync : IsSync tokens.the_row
tokens_sync = search (sendable, crosses, maps.crosses, table_sync, routes_sync) depth 60 fits 5000

-- ---- the desk of a journal

note_send : (K : RattleType) → IsSend (note.the_row K)
note_send K = search (sendable, crosses, maps.crosses, badge.the_send) depth 60 fits 5000

pub desk_send : (D : RattleType) (met : Ghosts D.Denot) → IsSend D → IsSend (desk.the_row D met)
desk_send D met d = search (sendable, crosses, maps.crosses, note_send) depth 60 fits 5000
