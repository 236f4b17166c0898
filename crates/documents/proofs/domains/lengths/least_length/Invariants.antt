use Rattle.std.proofs.Common.{◌≡◌, ◌-◌, ◌^◌, ℕ, Some, length, min}
use Rattle.std.specs.FinMap.{entries}
use Rattle.containers.specs.TextMaps.Nexts.{left}
use Rattle.object_ids.specs.IdOrder.{id_order}
use Rattle.object_ids.specs.declared.ids.Kind.TheVariants.{Dataset}
use Rattle.documents.specs.Domains.Lengths.{AreInRangeFrom}
use Rattle.documents.proofs.OfDomains.RangeLemmas.{added_all}
use Rattle.documents.proofs.domains.lengths.least_length.Given as goal

-- the sum so far, and with what is left of the walk
abbrev pub invariant-loop-id : goal.invariant-loop-id
invariant-loop-id g l =
    let m = g.S.ObjectStore.objects l.store in
    let behind = left id_order (Some l.last) (entries m) in
    (sum : ℕ)
    × (l.total ≡ min sum (2 ^ 64 - 1))
    × (added_all l.home behind sum ≡ added_all l.home (entries m) 0)
    × (l.last.kind ≡ Dataset)
    × (AreInRangeFrom l.home behind → AreInRangeFrom l.home (entries m))

abbrev pub decreases-loop-id : goal.decreases-loop-id
decreases-loop-id g l = length (left id_order (Some l.last) (entries (g.S.ObjectStore.objects l.store)))
