use Rattle.domains.proofs.ChildWalks.{canonical_paths}
use Rattle.domains.proofs.catalogue.Catalogue.children.Goals as goal

pub child_list-requires : goal.child_list-requires
child_list-requires c = canonical_paths (record { nodes = c.self.inside.nodes; next = c.self.inside.next }) c.self.invariant
