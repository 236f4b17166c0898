-- The tree of a node spells the node.
use Rattle.std.proofs.Common.{◌≡◌, ◌≤◌, ◌==◌, ◌&&◌, ◌||◌, ℕ, Bool, true, false, List, [], ◌∷◌, Option, Some, option_map, option_and_then, refl, ap, arith, ◌∙◌}
use Rattle.std.proofs.lemmas.Bool.{eq-eqb}
use Rattle.std.specs.FinMap.{entries}
use Rattle.serde_json.specs.Data.{Data, depth}
use Rattle.serde_json.specs.Written.{has_float, members_have_float}
use Rattle.object_ids.specs.IdValues.{Id}
use Rattle.groups_links.proofs.IdLemmas.{id_of-text}
use Rattle.access_lists.specs.EntryTrees.{entry_members, list_tree}
use Rattle.access_lists.specs.InForce.{Entries}
use Rattle.domains.specs.Contents.{HasRoot}
use Rattle.domains.specs.declared.classes.Node.{Node}
use Rattle.domains.specs.declared.classes.NodeClass.{NodeClass}
use Rattle.domains.specs.declared.classes.NodeClass.TheVariants.{Folder, Domain}
use Rattle.domains.specs.Records.Lists.{list_in, name_in}
use Rattle.domains.specs.Records.Nodes.{HasId, IsKeptNode, class_in, class_tree, domain_of, is_group, is_root, node_in, node_tree}
use Rattle.domains.proofs.OfRecords.BackLemmas.{list_back, list_flat, Row}
use Rattle.containers.specs.Options.{only_if}

own_root : (own : ℕ) (root : Id) → HasRoot (Domain own root) → is_root own root ≡ true
own_root own root held = ap (λ k. is_group k && root.domain == own) held.0 ∙ eq-eqb root.domain own held.1

class_back : (class : NodeClass) (acls : Data) (owner : List ℕ) → HasRoot class → HasId class → class_in (class_tree class acls owner) ≡ Some class
class_back Folder acls owner held range = refl
class_back (Domain own root) acls owner held range =
    ap (option_and_then (domain_of own)) (id_of-text root range) ∙ ap (λ (b : Bool). only_if b (Some (Domain own root))) (own_root own root held)

-- the other parts, of a tree of either class
parts : Option NodeClass → Option (List ℕ) → Option Entries → Option Node
parts class owner list = option_and_then (λ class. option_and_then (λ owner. option_map (λ list. record { class = class; owner = owner; list = list }) list) owner) class

spelled : (class : NodeClass) (acls : Data) (owner : List ℕ) → node_in (class_tree class acls owner) ≡ parts (class_in (class_tree class acls owner)) (name_in owner) (list_in acls)
unfolding parts
spelled Folder acls owner = refl
spelled (Domain own root) acls owner = refl

pub node_back : (node : Node) → IsKeptNode node → node_in (node_tree node) ≡ Some node
unfolding parts
node_back node kept =
    spelled node.class (list_tree node.list) node.owner
    ∙ ap (λ (o : Option NodeClass). parts o (name_in node.owner) (list_in (list_tree node.list))) (class_back node.class (list_tree node.list) node.owner kept.root kept.id)
    ∙ ap (λ (b : Bool). parts (Some node.class) (only_if b (Some node.owner)) (list_in (list_tree node.list))) kept.owner
    ∙ ap (λ (o : Option Entries). parts (Some node.class) (Some node.owner) o) (list_back node.list kept.list)

class_flat : (class : NodeClass) (acls : Data) (owner : List ℕ) → depth acls ≤ 2 → depth (class_tree class acls owner) ≤ 3
class_flat Folder acls owner flat = omega (arith, flat)
class_flat (Domain own root) acls owner flat = omega (arith, flat)

pub node_flat : (node : Node) → depth (node_tree node) ≤ 3
node_flat node = class_flat node.class (list_tree node.list) node.owner (list_flat node.list)

-- ---- no number of it has a fraction or an exponent

rows_exact : (rows : List Row) → members_have_float (entry_members rows) ≡ false
rows_exact [] = refl
rows_exact (row ∷ rows) = rows_exact rows

class_exact : (class : NodeClass) (acls : Data) (owner : List ℕ) → has_float acls ≡ false → has_float (class_tree class acls owner) ≡ false
class_exact Folder acls owner exact = ap (λ b. b || false) exact
class_exact (Domain own root) acls owner exact = ap (λ b. b || false) exact

pub node_exact : (node : Node) → has_float (node_tree node) ≡ false
node_exact node = class_exact node.class (list_tree node.list) node.owner (rows_exact (entries node.list))
