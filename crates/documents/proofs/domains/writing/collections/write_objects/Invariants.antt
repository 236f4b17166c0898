use Rattle.std.proofs.Common.{◌≡◌, Some, length}
use Rattle.std.specs.FinMap.{entries}
use Rattle.containers.specs.TextMaps.Nexts.{left}
use Rattle.object_ids.specs.IdOrder.{id_order}
use Rattle.documents.specs.Domains.Collected.{with_each}
use Rattle.documents.specs.Domains.Documents.{is_of}
use Rattle.documents.proofs.OfDomains.CollectedLemmas.{IsReadInRange}
use Rattle.documents.proofs.OfDomains.RangeLemmas.{HoldsOf}
use Rattle.documents.proofs.domains.writing.collections.write_objects.Given as goal

-- what is left of the walk completes the collection, and where what is left is read back, so is all
abbrev pub invariant-loop-id : goal.invariant-loop-id
invariant-loop-id g l =
    let m = g.S.ObjectStore.objects l.store in
    let behind = left id_order (Some l.last) (entries m) in
    (with_each m l.home l.kind behind (l.is_due, l.writer.tokens) ≡ with_each m l.home l.kind (entries m) (is_of l.kind l.home l.home.root, l.fn.writer.tokens))
    × (l.writer.before ≡ l.fn.writer.before)
    × (l.last.kind ≡ l.kind)
    × (HoldsOf m l.home l.kind (IsReadInRange m l.home) behind → HoldsOf m l.home l.kind (IsReadInRange m l.home) (entries m))

abbrev pub decreases-loop-id : goal.decreases-loop-id
decreases-loop-id g l = length (left id_order (Some l.last) (entries (g.S.ObjectStore.objects l.store)))
