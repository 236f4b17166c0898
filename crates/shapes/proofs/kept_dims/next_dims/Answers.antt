-- A list, or one extent.
use Rattle.std.proofs.Common.{◌∷◌, [], sym, ap, subst, ◌∙◌, option_and_then, option_map}
use Rattle.std.proofs.lemmas.Result.{IfOk-weaker}
use Rattle.json.specs.Reads.{token_of}
use Rattle.json_trees.specs.Kept.{Begins}
use Rattle.json_trees.proofs.OfKept.PassLemmas.{no_array}
use Rattle.shapes.specs.Extents.{dims_from, dims_in}
use Rattle.shapes.specs.Spelled.{few_of}
use Rattle.json_trees.proofs.OfKept.StreamLemmas.{a_list, no_list}
use Rattle.shapes.proofs.kept_dims.next_dims.Goals as goal

pub returns-in-BeginArray-clause-told : goal.returns-in-BeginArray-clause-told
returns-in-BeginArray-clause-told c =
    IfOk-weaker c.next_list.result _ _ (λ dims told tree rest h.
    let begun = subst (λ ts. Begins ts tree rest) (c.in-Some.ensures.value ∙ ap (λ k. token_of k ∷ c.next.new.self) c.in-BeginArray.is) h in
    let l = a_list c.next.new.self rest tree begun in
    let found = told l.trees rest l.items in
    (found.0, found.1 ∙ ap (λ d. option_and_then few_of (dims_in d)) (sym l.is))) c.next_list.ensures.told

pub returns-in_ok-extent-in_default-first-clause-told : goal.returns-in_ok-extent-in_default-first-clause-told
returns-in_ok-extent-in_default-first-clause-told c tree rest h =
    let begun = subst (λ ts. Begins ts tree rest) c.in-Some.ensures.value h in
    let found = c.in_ok-extent-in_default-first.ensures.told tree rest begun in
    let none = no_list (token_of c.in-Some.first) c.next.new.self rest tree (no_array c.in-Some.first c.in_default-first.not-BeginArray) begun in
    (found.0, c.one_axis.ensures ∙ ap (λ n. option_and_then few_of (option_map (λ k. k ∷ []) n)) found.1 ∙ ap (λ o. option_and_then few_of (dims_from o tree)) (sym none))
