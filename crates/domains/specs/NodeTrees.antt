-- The JSON of nodes (HSDS, `GET /` and `GET /domains`).
use Rattle.std.specs.Prelude.{ℕ, List, codes, map}
use Rattle.serde_json.specs.Data.{Data, array, object, string, member, no_members}
use Rattle.serde_json.specs.View.{items_of}
use Rattle.object_ids.specs.Ids.{text_of_id}
use Rattle.domains.specs.declared.classes.Node.{Node}
use Rattle.domains.specs.declared.classes.NodeClass.{NodeClass}
use Rattle.domains.specs.declared.classes.NodeClass.TheVariants.{Folder, Domain}
use Rattle.domains.specs.Contents.{Contents}
use Rattle.domains.specs.Children.{children_of}

abbrev pub class_word : NodeClass → List ℕ
class_word Folder = codes "folder"
class_word (Domain number root) = codes "domain"

abbrev pub class_tree : NodeClass → List ℕ → Data
class_tree Folder owner = object (member (codes "class") (string (codes "folder")) (member (codes "owner") (string owner) no_members))
class_tree (Domain number root) owner =
    object (member (codes "class") (string (codes "domain")) (member (codes "owner") (string owner) (member (codes "root") (string (text_of_id root)) no_members)))

-- a node: its class, its owner, and the root group of a domain
abbrev pub node_tree : Node → Data
node_tree node = class_tree node.class node.owner

-- a node in the list of its folder: its class, its path and its owner
abbrev pub child_tree : List ℕ → Node → Data
child_tree path node =
    object (member (codes "class") (string (class_word node.class)) (member (codes "name") (string path) (member (codes "owner") (string node.owner) no_members)))

abbrev pub children_tree : Contents → List ℕ → Data
children_tree c folder = array (items_of (map (λ e. child_tree e.0 e.1) (children_of c folder)))
