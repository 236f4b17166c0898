use Rattle.std.proofs.Common.{Some, refl, ◌∙◌}
use Rattle.documents.specs.Domains.Documents.{put_at, put_each}
use Rattle.documents.proofs.OfDomains.RangeLemmas.{put_elsewhere, walk_first, walk_last}
use Rattle.documents.proofs.OfDomains.Walking.{walk_more, walk_shorter}
use Rattle.documents.proofs.domains.collections.put_objects.Goals as goal

pub loop-id-init : goal.loop-id-init
loop-id-init g c =
    let m = g.S.ObjectStore.objects c.args.store.now in
    let h = c.args.home.now in
    let k = c.args.kind in (
      walk_first m h k (put_each m h k) (put_at m h k) (λ e es ms. refl) (λ q ms. refl) (put_elsewhere m h k) c.first_id-last.result _ _ c.first_id-last.ensures c.in_ok-put_at.ensures,
      c.first_id-last.ensures.kind,
    )

pub loop-id-smaller : goal.loop-id-smaller
loop-id-smaller g c = walk_shorter (g.S.ObjectStore.objects c.args.store.now) (Some c.loop-id.last) c.in-Some.id c.in-Some.ensures.step

pub loop-id-preserved : goal.loop-id-preserved
loop-id-preserved g c =
    let m = g.S.ObjectStore.objects c.args.store.now in
    let h = c.args.home.now in
    let k = c.args.kind in (
      walk_more m (put_each m h k) (put_at m h k) (λ e es ms. refl) (Some c.loop-id.last) c.in-Some.id _ _ _ c.in-Some.ensures.step c.in_ok-put_at-2.ensures c.loop-id.invariant.0,
      c.in-Some.ensures.kind ∙ c.loop-id.invariant.1,
    )

pub returns : goal.returns
returns g c =
    let m = g.S.ObjectStore.objects c.args.store.now in
    let h = c.args.home.now in
    let k = c.args.kind in
    walk_last m h k (put_each m h k) (put_at m h k) (λ e es ms. refl) (λ q ms. refl) (put_elsewhere m h k) c.loop-id.last _ _ c.loop-id.invariant.1 c.in_default.ensures refl c.loop-id.invariant.0
