use Rattle.std.proofs.Common.{◌+◌, ◌-◌, ◌^◌, Some, min, refl, ap, ◌∙◌, arith, zero-add}
use Rattle.std.specs.FinMap.{entries, get}
use Rattle.object_ids.specs.declared.ids.Kind.TheVariants.{Dataset}
use Rattle.documents.specs.Domains.Lengths.{least_at, least_values}
use Rattle.documents.proofs.OfDomains.LengthLemmas.{capped_sum}
use Rattle.documents.proofs.OfDomains.RangeLemmas.{added, added_all, adds_elsewhere, adds_none, adds_one, range_first, range_last, range_more, walk_first, walk_last}
use Rattle.documents.proofs.OfDomains.Walking.{walk_more, walk_shorter}
use Rattle.documents.proofs.domains.lengths.least_length.Goals as goal

pub loop-id-init : goal.loop-id-init
loop-id-init g c =
    let m = g.S.ObjectStore.objects c.args.store.now in
    let h = c.args.home.now in
    let first = c.first_id-last.result in (
      least_at h first (get m first),
      c.least_at-total.ensures,
      walk_first m h Dataset (added_all h) (added h) (adds_one h) (adds_none h) (adds_elsewhere h) first 0 _ c.first_id-last.ensures (omega arith),
      c.first_id-last.ensures.kind,
      range_first m h first c.first_id-last.ensures,
    )

pub loop-id-smaller : goal.loop-id-smaller
loop-id-smaller g c = walk_shorter (g.S.ObjectStore.objects c.args.store.now) (Some c.loop-id.last) c.in-Some.id c.in-Some.ensures.step

pub loop-id-preserved : goal.loop-id-preserved
loop-id-preserved g c =
    let m = g.S.ObjectStore.objects c.args.store.now in
    let h = c.args.home.now in
    let id = c.in-Some.id in
    let sum = c.loop-id.invariant.0 in
    let more = least_at h id (get m id) in (
      sum + more,
      c.saturating_add-total.ensures
          ∙ (λ i. min (c.loop-id.invariant.1 i + c.least_at.ensures i) (2 ^ 64 - 1))
          ∙ capped_sum sum more (2 ^ 64 - 1),
      walk_more m (added_all h) (added h) (adds_one h) (Some c.loop-id.last) id sum _ _ c.in-Some.ensures.step refl c.loop-id.invariant.2,
      c.in-Some.ensures.kind ∙ c.loop-id.invariant.3,
      λ behind. c.loop-id.invariant.4 (range_more m h c.loop-id.last id c.in-Some.ensures.step c.in-Some.ensures.range behind),
    )

pub returns-clause-least : goal.returns-clause-least
returns-clause-least g c =
    let m = g.S.ObjectStore.objects c.args.store.now in
    let h = c.args.home.now in
    let sum = c.loop-id.invariant.0 in
    c.loop-id.invariant.1
    ∙ ap (λ n. min n (2 ^ 64 - 1)) (walk_last m h Dataset (added_all h) (added h) (adds_one h) (adds_none h) (adds_elsewhere h) c.loop-id.last sum _ c.loop-id.invariant.3 c.in_default.ensures (omega arith) c.loop-id.invariant.2
    ∙ zero-add (least_values h (entries m)))

pub returns-clause-range : goal.returns-clause-range
returns-clause-range g c =
    let m = g.S.ObjectStore.objects c.args.store.now in
    c.loop-id.invariant.4 (range_last m c.args.home.now c.loop-id.last c.loop-id.invariant.3 c.in_default.ensures)
