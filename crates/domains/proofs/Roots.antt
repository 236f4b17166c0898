-- The class of each node of a catalogue.
use Rattle.std.proofs.Common.{◌≡◌, ℕ, List, Option, Some, option_map, ap, lt_of_lt_of_le, ◌∙◌}
use Rattle.std.specs.FinMap.{get}
use Rattle.domains.specs.Contents.{Contents, HasRoot, IsCatalogue, NumberFits, class_at}
use Rattle.domains.specs.declared.classes.Node.{Node}
use Rattle.domains.specs.declared.classes.NodeClass.{NodeClass}
use Rattle.domains.specs.declared.classes.NodeClass.TheVariants.{Folder, Domain}

class_rooted : (c : Contents) (path : List ℕ) (class : NodeClass) → IsCatalogue c → class_at c path ≡ Some class → HasRoot class × NumberFits class
class_rooted c path Folder valid there = (tt, tt)
class_rooted c path (Domain number id) valid there = (valid.roots path number id there, lt_of_lt_of_le (valid.below path number id there) valid.fits)

-- a domain's root is a group of its number, which is below 2^48
pub node_rooted : (c : Contents) (path : List ℕ) (node : Node) → IsCatalogue c → get c.nodes path ≡ Some node → HasRoot node.class × NumberFits node.class
node_rooted c path node valid there = class_rooted c path node.class valid (ap (option_map (λ (n : Node). n.class)) there)
