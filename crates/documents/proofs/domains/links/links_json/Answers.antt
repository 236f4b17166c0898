use Rattle.std.proofs.Common.{None, map, ◌++◌, ap, ◌∙◌}
use Rattle.std.specs.FinMap.{entries}
use Rattle.std.specs.Option.{option_copied}
use Rattle.serde_json.specs.View.{view}
use Rattle.containers.specs.TextMaps.Keyed.{text_order}
use Rattle.containers.specs.TextMaps.Nexts.{left}
use Rattle.documents.specs.Domains.Entries.{shown_links}
use Rattle.documents.proofs.OfDomains.LinkLemmas.{list_at, list_takes, listed}
use Rattle.documents.proofs.OfDomains.Walking.{left_all, walk_more, walk_shorter}
use Rattle.documents.proofs.domains.links.links_json.Goals as goal

pub loop-title-init : goal.loop-title-init
loop-title-init g c =
    let m = g.S.ObjectStore.objects c.args.store.now in
    ap (λ vs. map view vs ++ shown_links m c.args.home.now (left text_order None (entries c.args.links.now))) c.new-items.ensures.items
    ∙ ap (shown_links m c.args.home.now) (left_all c.args.links.now (entries c.args.links.now))

pub loop-title-smaller : goal.loop-title-smaller
loop-title-smaller g c = walk_shorter c.args.links.now (option_copied c.loop-title.after) c.in-Some.title.now c.in-Some.ensures.step

pub loop-title-preserved : goal.loop-title-preserved
loop-title-preserved g c =
    let m = g.S.ObjectStore.objects c.args.store.now in
    walk_more c.args.links.now (listed m c.args.home.now) (list_at m c.args.home.now) (list_takes m c.args.home.now)
    (option_copied c.loop-title.after) c.in-Some.title.now _ _ _ c.in-Some.ensures.step c.in_ok-push_link.ensures c.loop-title.invariant
