use Rattle.std.proofs.Common.{map, ap, arith}
use Rattle.std.specs.FinMap.{len, len-empty}
use Rattle.serde_json.specs.View.{view}
use Rattle.containers.specs.TextMaps.Keyed.{text_order}
use Rattle.documents.specs.Parts.Items.{each_item}
use Rattle.documents.specs.Parts.LinkLists.{link_step}
use Rattle.documents.specs.declared.parts.targets.Target.{Target}
use Rattle.documents.proofs.parts.link_lists.listed.Goals as goal

pub loop-index-init : goal.loop-index-init
loop-index-init c = record {
  listed = ap (λ m. each_item (link_step (view c.args.document.now) c.args.path.now) m 0 (map view c.args.items.now)) c.new-links.ensures;
  many = omega (arith, ap len c.new-links.ensures, len-empty text_order Target);
}
