use Rattle.std.proofs.Common.{◌≡◌, ◌≤◌, ◌∙◌, ℕ, List, Some, None, string_bytes, sym, ap, subst, arith}
use Rattle.std.specs.Str.{IsUtf8}
use Rattle.serde_json.specs.Data.{depth}
use Rattle.serde_json.specs.Read.{max_depth, read}
use Rattle.serde_json.specs.View.{view}
use Rattle.serde_json.specs.Written.{compact_text, has_float}
use Rattle.domains.specs.Records.Nodes.{node_in}
use Rattle.domains.proofs.OfRecords.ReadLemmas.{body_reads}
use Rattle.domains.proofs.OfRecords.TreeLemmas.{node_back, node_exact, node_flat}
use Rattle.domains.proofs.records.nodes.node_text.Goals as goal
use Rattle.json_trees.proofs.TreeLemmas.{nothing_read}

pub returns-clause-exact : goal.returns-clause-exact
returns-clause-exact c = let tree = c.in_ok-tree.ensures in c.in_ok-text.ensures.text (ap has_float tree ∙ node_exact c.args.node.now) ∙ ap compact_text tree

pub returns-clause-reads : goal.returns-clause-reads
returns-clause-reads c =
    let tree = c.in_ok-tree.ensures in
    let shallow : depth (view c.in_ok-tree.tree) ≤ max_depth = omega (arith, ap depth tree, node_flat c.args.node.now) in
    let utf8 = subst (λ (bs : List ℕ). IsUtf8 bs) c.as_str.ensures.value c.as_str.utf8 in
    body_reads (string_bytes c.in_ok-text.text) _ utf8 (c.in_ok-text.ensures.reads_back shallow)
    ∙ ap node_in tree ∙ node_back c.args.node.now c.is_whole.ensures

pub returns-clause-some : goal.returns-clause-some
returns-clause-some c = λ e.
    let tree = c.in_ok-tree.ensures in
    let shallow : depth (view c.in_ok-tree.tree) ≤ max_depth = omega (arith, ap depth tree, node_flat c.args.node.now) in
    let none : None ≡ Some (view c.in_ok-tree.tree) = sym nothing_read ∙ ap read (sym e) ∙ c.in_ok-text.ensures.reads_back shallow in
    cc
