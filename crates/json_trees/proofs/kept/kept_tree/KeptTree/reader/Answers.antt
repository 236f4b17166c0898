use Rattle.std.proofs.Common.{[], sym, ap, subst, ◌∙◌, string_bytes}
use Rattle.std.proofs.lemmas.Result.{IfOk-weaker}
use Rattle.json.specs.Lex.{tokens}
use Rattle.json_trees.specs.Kept.{Begins}
use Rattle.json_trees.proofs.OfKept.KeptLemmas.{begins_kept}
use Rattle.json_trees.proofs.kept.kept_tree.KeptTree.reader.Goals as goal

pub returns : goal.returns
returns c =
    let text = string_bytes c.self.inside.text in
    let held = subst (λ d. Begins (tokens text) d []) c.self.view_is (begins_kept text c.self.invariant) in
    IfOk-weaker c.new.result _ _ (λ reader is. subst (λ ts. Begins ts c.args.self.now []) (sym (is ∙ ap tokens c.as_str.ensures.value)) held) c.new.ensures.ok
