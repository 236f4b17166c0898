use Rattle.std.proofs.Common.{List, map, ap, sym, ◌∙◌}
use Rattle.std.specs.FinMap.{FinMap}
use Rattle.std.proofs.lemmas.Result.{IfOk-weaker}
use Rattle.std.proofs.lemmas.Simd.{map-map}
use Rattle.containers.specs.TextMaps.Keyed.{text_order}
use Rattle.serde_json.specs.Data.{Data, array}
use Rattle.serde_json.specs.View.{items_of}
use Rattle.groups_links.specs.Printed.{link_tree, links_list}
use Rattle.groups_links.specs.declared.target.LinkTo.{LinkTo}
use Rattle.groups_links.proofs.group.Links.list.Goals as goal

pub returns : goal.returns
returns c =
    let items = sym (map-map (λ e. link_tree e.0 e.1 c.args.form) (λ e. (e.1.name, e.1.value)) c.as_tree.result.now.entries) in
    let same = items ∙ ap (map (λ e. link_tree e.0 e.1 c.args.form)) (sym c.as_tree.ensures) in
    let list : List Data → Data = λ ds. array (items_of ds) in
    IfOk-weaker c.listed.result _ _ (λ tree h. h ∙ ap list same ∙ ap (λ (m : FinMap text_order LinkTo). links_list m c.args.form) c.self.view_is) c.listed.ensures
