use Rattle.std.proofs.Common.{◌≡◌, Some, length}
use Rattle.std.specs.FinMap.{entries}
use Rattle.serde_json.specs.View.{members_view}
use Rattle.containers.specs.TextMaps.Nexts.{left}
use Rattle.object_ids.specs.IdOrder.{id_order}
use Rattle.documents.specs.Domains.Documents.{put_each}
use Rattle.documents.proofs.domains.collections.put_objects.Given as goal

abbrev pub invariant-loop-id : goal.invariant-loop-id
invariant-loop-id g l =
    let m = g.S.ObjectStore.objects l.store in
    (put_each m l.home l.kind (left id_order (Some l.last) (entries m)) (members_view l.members.entries)
    ≡ put_each m l.home l.kind (entries m) (members_view l.fn.members.entries))
    × (l.last.kind ≡ l.kind)

abbrev pub decreases-loop-id : goal.decreases-loop-id
decreases-loop-id g l = length (left id_order (Some l.last) (entries (g.S.ObjectStore.objects l.store)))
