use Rattle.std.proofs.Common.{Some, refl, ap, subst, ◌∙◌}
use Rattle.std.specs.FinMap.{get}
use Rattle.object_ids.specs.Ids.{InRange}
use Rattle.documents.specs.Domains.Collected.{with_each, with_found}
use Rattle.documents.specs.Domains.Documents.{is_of}
use Rattle.documents.proofs.OfDomains.CollectedLemmas.{IsReadInRange, all_collected, found_elsewhere}
use Rattle.documents.proofs.OfDomains.RangeLemmas.{holds_first, holds_last, holds_more, walk_first, walk_last}
use Rattle.documents.proofs.OfDomains.Walking.{walk_more, walk_shorter}
use Rattle.documents.proofs.domains.writing.collections.write_objects.Goals as goal

pub loop-id-init : goal.loop-id-init
loop-id-init g c =
    let m = g.S.ObjectStore.objects c.args.store.now in
    let h = c.args.home.now in
    let k = c.args.kind in
    let first = c.first_id-last.result in
    let is = c.first_id-last.ensures in
    let found = c.in_ok-is_due.ensures in
    let root = c.is_of-is_root.ensures ∙ ap (is_of k h) c.root_of-root.ensures.root in (
      walk_first m h k (with_each m h k) (with_found m h k) (λ e es a. refl) (λ q a. refl) (found_elsewhere m h k) first (is_of k h h.root, c.args.writer.now.tokens) _ is
          (found.state ∙ ap (λ b. with_found m h k first (get m first) (b, c.args.writer.now.tokens)) root),
      found.before,
      is.kind,
      holds_first m h k (IsReadInRange m h) first is (λ o there one. (is.range, found.exact o there one)),
    )

pub loop-id-smaller : goal.loop-id-smaller
loop-id-smaller g c = walk_shorter (g.S.ObjectStore.objects c.args.store.now) (Some c.loop-id.last) c.in-Some.id c.in-Some.ensures.step

pub loop-id-preserved : goal.loop-id-preserved
loop-id-preserved g c =
    let m = g.S.ObjectStore.objects c.args.store.now in
    let h = c.args.home.now in
    let k = c.args.kind in
    let next = c.in-Some.ensures in
    let found = c.in_ok-is_due-2.ensures in (
      walk_more m (with_each m h k) (with_found m h k) (λ e es a. refl) (Some c.loop-id.last) c.in-Some.id _ _ _ next.step found.state c.loop-id.invariant.0,
      found.before ∙ c.loop-id.invariant.1,
      next.kind ∙ c.loop-id.invariant.2,
      λ behind. c.loop-id.invariant.3 (holds_more m h k (IsReadInRange m h) c.loop-id.last c.in-Some.id next.step (λ o there one. (next.range, found.exact o there one)) behind),
    )

pub returns : goal.returns
returns g c =
    let m = g.S.ObjectStore.objects c.args.store.now in
    let h = c.args.home.now in
    let k = c.args.kind in
    let all = walk_last m h k (with_each m h k) (with_found m h k) (λ e es a. refl) (λ q a. refl) (found_elsewhere m h k) c.loop-id.last _ _ c.loop-id.invariant.2 c.in_default.ensures refl c.loop-id.invariant.0 in
    all_collected m h k c.write_end.result c.loop-id.is_due c.args.writer.now c.loop-id.writer c.write_end.new.writer (subst InRange c.root_of-root.ensures.root c.root_of-root.ensures.range) all c.loop-id.invariant.1
    (c.loop-id.invariant.3 (holds_last m h k (IsReadInRange m h) c.loop-id.last c.loop-id.invariant.2 c.in_default.ensures)) c.write_end.ensures
