use Rattle.std.proofs.Common.{◌∙◌}
use Rattle.containers.proofs.TextMaps.Walks.{text_entry}
use Rattle.domains.proofs.ChildWalks.{any_child}
use Rattle.domains.proofs.children.has_child.Goals as goal

pub returns : goal.returns
returns c = c.is_some.ensures ∙ any_child text_entry c.args.nodes.now c.args.folder.now c.next_child.result c.requires c.next_child.ensures.step
