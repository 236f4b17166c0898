use Rattle.std.proofs.Common.{◌≡◌, ◌<◌, ◌∙◌, ap, sym, subst, Some, ℕ, List}
use Rattle.std.specs.FinMap.{FinMap, empty, len}
use Rattle.object_ids.specs.Paths.{root_path}
use Rattle.domains.specs.Contents.{Contents, with_node}
use Rattle.domains.specs.declared.classes.Node.{Node}
use Rattle.containers.specs.TextMaps.Keyed.{text_order}
use Rattle.configuration.specs.Catalogues.{folder_node}
use Rattle.configuration.proofs.SettingLemmas.{insert-insert, one_node}
use Rattle.configuration.proofs.catalogue.configured_root.Goals as goal

pub put_node-requires-clause-room : goal.put_node-requires-clause-room
put_node-requires-clause-room c = subst (λ (d : Contents). len d.nodes < 65536) (sym c.in_ok-catalogue.ensures) (one_node _)

pub returns-clause-ok : goal.returns-clause-ok
returns-clause-ok c =
    let spelled : Some root_path ≡ Some c.in-Ok.path = c.in-Ok.ensures.ok in
    let path : root_path ≡ c.in-Ok.path = cc in
    c.in_ok-put_node.ensures.ok
    ∙ ap (λ (p : List ℕ). with_node c.in_ok-catalogue.catalogue p (folder_node c.args.setting)) (sym path)
    ∙ ap (λ (d : Contents). with_node d root_path (folder_node c.args.setting)) c.in_ok-catalogue.ensures
    ∙ ap (λ (m : FinMap text_order Node). let d : Contents = record { nodes = m; next = 1 } in d) (insert-insert (empty {X = Node} {R = text_order}) root_path _ (folder_node c.args.setting))
