-- A list, or another tree.
use Rattle.std.proofs.Common.{◌∷◌, [], Some, length, sym, ap, subst, ◌∙◌, option_map}
use Rattle.json.specs.Reads.{token_of}
use Rattle.json_trees.specs.Kept.{Begins}
use Rattle.json_trees.specs.Trees.{list_in}
use Rattle.json_trees.proofs.OfKept.PassLemmas.{no_array}
use Rattle.json_trees.proofs.OfKept.StreamLemmas.{a_list, no_list}
use Rattle.json_trees.proofs.kept.list.count_items.Goals as goal

pub returns-in_ok-count_left-in-BeginArray : goal.returns-in_ok-count_left-in-BeginArray
returns-in_ok-count_left-in-BeginArray c =
    let begun = subst (λ ts. Begins ts c.args.tree.now []) (c.in-Some.ensures.value ∙ ap (λ k. token_of k ∷ c.next.new.self) c.in-BeginArray.is) c.in_ok-reader.ensures in
    let l = a_list c.next.new.self [] c.args.tree.now begun in
    ap (λ n. Some n) (c.in_ok-count_left-in-BeginArray.ensures l.trees [] l.items) ∙ sym (ap (λ d. option_map length (list_in d)) l.is)

pub returns-in_default-first : goal.returns-in_default-first
returns-in_default-first c =
    let begun = subst (λ ts. Begins ts c.args.tree.now []) c.in-Some.ensures.value c.in_ok-reader.ensures in
    sym (ap (option_map length) (no_list (token_of c.in-Some.first) c.next.new.self [] c.args.tree.now (no_array c.in-Some.first c.in_default-first.not-BeginArray) begun))
