use Rattle.std.proofs.Common.{◌≡◌, length, map}
use Rattle.std.specs.FinMap.{entries}
use Rattle.std.specs.Option.{option_copied}
use Rattle.serde_json.specs.View.{view}
use Rattle.containers.specs.TextMaps.Keyed.{text_order}
use Rattle.containers.specs.TextMaps.Nexts.{left}
use Rattle.documents.specs.Domains.Entries.{shown_links}
use Rattle.documents.proofs.OfDomains.LinkLemmas.{listed}
use Rattle.documents.proofs.domains.links.links_json.Given as goal

abbrev pub invariant-loop-title : goal.invariant-loop-title
invariant-loop-title g l =
    let m = g.S.ObjectStore.objects l.store in
    listed m l.home (left text_order (option_copied l.after) (entries l.links)) (map view l.items.items)
    ≡ shown_links m l.home (entries l.links)

abbrev pub decreases-loop-title : goal.decreases-loop-title
decreases-loop-title g l = length (left text_order (option_copied l.after) (entries l.links))
