use Rattle.std.proofs.Common.{◌≡◌, ◌≤◌, ◌∙◌, Some, ap, sym, subst}
use Rattle.std.proofs.lemmas.Result.{IfOk-weaker}
use Rattle.serde_json.specs.Data.{Data, depth}
use Rattle.serde_json.specs.View.{view}
use Rattle.samples.specs.Trees.{dataset_tree, document_tree, sample_tree}
use Rattle.samples.proofs.TreeLemmas.{document_depth}
use Rattle.samples.proofs.document.document_text.Goals as goal

pub returns : goal.returns
returns c =
    let is : view c.in_ok-document.document ≡ sample_tree c.args.number =
    c.in_ok-document.ensures ∙ ap document_tree (c.in_ok-dataset.ensures ∙ ap dataset_tree c.in_ok-value.ensures) in
    IfOk-weaker c.to_string.result _ _ (λ text h. h (subst (λ (d : Data). depth d ≤ 127) (sym is) (document_depth c.args.number 1000 1000)) ∙ ap Some is) c.to_string.ensures.reads_back
