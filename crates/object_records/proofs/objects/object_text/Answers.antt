use Rattle.std.proofs.Common.{◌≡◌, ◌≤◌, ◌∙◌, ℕ, List, Some, None, string_bytes, sym, ap, subst}
use Rattle.std.specs.Str.{IsUtf8}
use Rattle.serde_json.specs.Data.{Data, depth}
use Rattle.serde_json.specs.Read.{max_depth, read}
use Rattle.serde_json.specs.View.{view}
use Rattle.object_acts.specs.Objects.{kind_of_body}
use Rattle.object_records.specs.Objects.{spelled_in}
use Rattle.object_records.proofs.ReadLemmas.{body_reads}
use Rattle.object_records.proofs.TreeLemmas.{object_back, object_depth}
use Rattle.object_records.proofs.objects.object_text.Goals as goal
use Rattle.json_trees.proofs.TreeLemmas.{nothing_read}

pub returns-clause-reads : goal.returns-clause-reads
returns-clause-reads c =
    let o = c.args.object.now in
    let tree = c.in_ok-tree.ensures in
    let shallow : depth (view c.in_ok-tree.tree) ≤ max_depth = subst (λ (d : Data). depth d ≤ max_depth) (sym tree) (object_depth o c.is_whole.ensures c.is_whole-2.ensures) in
    let utf8 = subst (λ (bs : List ℕ). IsUtf8 bs) c.as_str.ensures.value c.as_str.utf8 in
    body_reads (kind_of_body o.body) (string_bytes c.in_ok-text.text) _ utf8 (c.in_ok-text.ensures.reads_back shallow)
    ∙ ap (spelled_in (kind_of_body o.body)) tree ∙ object_back o c.is_whole.ensures c.is_whole-2.ensures

pub returns-clause-some : goal.returns-clause-some
returns-clause-some c = λ e.
    let o = c.args.object.now in
    let tree = c.in_ok-tree.ensures in
    let shallow : depth (view c.in_ok-tree.tree) ≤ max_depth = subst (λ (d : Data). depth d ≤ max_depth) (sym tree) (object_depth o c.is_whole.ensures c.is_whole-2.ensures) in
    let none : None ≡ Some (view c.in_ok-tree.tree) = sym nothing_read ∙ ap read (sym e) ∙ c.in_ok-text.ensures.reads_back shallow in
    cc
