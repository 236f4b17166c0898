use Rattle.std.proofs.Common.{inl, refl, rules}
use Rattle.serde_json.specs.View.{view}
use Rattle.object_ids.proofs.Listings.{listed_more}
use Rattle.domains.specs.NodeTrees.{child_tree}
use Rattle.domains.proofs.ChildWalks.{Row, children_start}
use Rattle.domains.proofs.children.child_list.Goals as goal

pub children-init : goal.children-init
children-init c = (children_start c.args.nodes.now c.args.folder.now c.new-trees.result.items c.requires c.new-trees.ensures.items, inl refl, c.utf8.folder)

pub next_child-requires-text-after : goal.next_child-requires-text-after
next_child-requires-text-after c = λ _. c.children.invariant.2

pub children-preserved : goal.children-preserved
children-preserved c = (
  listed_more view (λ (e : Row). child_tree e.0 e.1) _ _ _ _ _ _ _ c.in_ok-push.ensures.items c.in_ok-child_json.ensures c.in-Some.ensures.step c.children.invariant.0,
  c.in-Some.ensures.behind c.in-Some.path.now refl,
  search rules,
)
