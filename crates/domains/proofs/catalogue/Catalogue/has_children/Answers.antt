use Rattle.std.proofs.Common.{ap, ◌∙◌}
use Rattle.domains.specs.Children.{has_children}
use Rattle.domains.proofs.ChildWalks.{canonical_paths}
use Rattle.domains.proofs.catalogue.Catalogue.has_children.Goals as goal

pub has_child-requires : goal.has_child-requires
has_child-requires c = canonical_paths (record { nodes = c.self.inside.nodes; next = c.self.inside.next }) c.self.invariant

pub returns : goal.returns
returns c = c.has_child.ensures ∙ ap (λ k. has_children k c.args.path.now) c.self.view_is
