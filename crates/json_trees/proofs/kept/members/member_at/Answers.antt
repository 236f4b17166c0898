-- An object, or another tree.
use Rattle.std.proofs.Common.{◌∷◌, [], sym, ap, subst, ◌∙◌}
use Rattle.std.proofs.lemmas.Result.{IfOk-weaker}
use Rattle.json.specs.Reads.{token_of}
use Rattle.serde_json.specs.Find.{get}
use Rattle.json_trees.specs.Kept.{Begins}
use Rattle.json_trees.proofs.OfKept.KeyLemmas.{an_object, no_object_no_key}
use Rattle.json_trees.proofs.OfKept.PassLemmas.{no_object}
use Rattle.json_trees.proofs.kept.members.member_at.Goals as goal

pub returns-in-BeginObject : goal.returns-in-BeginObject
returns-in-BeginObject c =
    let begun = subst (λ ts. Begins ts c.args.tree.now []) (c.in-Some.ensures.value ∙ ap (λ k. token_of k ∷ c.next.new.self) c.in-BeginObject.is) c.in_ok-reader.ensures in
    let o = an_object c.next.new.self [] c.args.tree.now begun in
    IfOk-weaker c.last_at.result _ _ (λ found last. last o.all [] o.members ∙ ap (get c.args.key.now) (sym o.is)) c.last_at.ensures

pub returns : goal.returns
returns c =
    let begun = subst (λ ts. Begins ts c.args.tree.now []) c.in-Some.ensures.value c.in_ok-reader.ensures in
    sym (no_object_no_key c.args.key.now (token_of c.in-Some.first) c.next.new.self [] c.args.tree.now (no_object c.in-Some.first c.in_default-first.not-BeginObject) begun)
