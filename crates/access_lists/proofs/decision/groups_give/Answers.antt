use Rattle.std.proofs.Common.{◌++◌, ◌∷◌, [], take, option_map, add-one, take-suc, ap, ap₂, sym, ◌∙◌}
use Rattle.std.specs.FinMap.{get}
use Rattle.std.proofs.lemmas.List.{map-append}
use Rattle.access_lists.specs.GroupKeys.{group_key}
use Rattle.access_lists.specs.GroupNames.{names_of}
use Rattle.access_lists.specs.RightWords.{holds}
use Rattle.access_lists.specs.InForce.{group_entries, joined, union_holds}
use Rattle.access_lists.specs.declared.group.Group.{Group}
use Rattle.access_lists.proofs.Unions.{union-push}
use Rattle.access_lists.proofs.decision.groups_give.Goals as goal

pub loop-group-preserved : goal.loop-group-preserved
loop-group-preserved c =
    let list = c.args.list.now in
    let groups = c.args.groups.now in
    let i = c.loop-group.group-index in
    let group = c.group-item.result in
    let entry = c.entry.ensures ∙ ap (get list) c.key.ensures in
    let so_far =
    ap (λ n. take n groups) (add-one i) ∙ take-suc groups i group c.loop-group-test.true
    ∙ ap (λ g. take i groups ++ g ∷ []) (sym c.group-item.is) in
    c.joined-given.ensures
    ∙ ap₂ (λ e given. joined (option_map (holds c.args.right) e) given) entry c.loop-group.invariant
    ∙ sym (union-push c.args.right (λ g. get list (group_key g)) (names_of (take i groups)) group.name)
    ∙ ap (λ gs. union_holds c.args.right (group_entries list gs)) (sym (map-append (λ (g : Group). g.name) (take i groups) (group ∷ [])))
    ∙ ap (λ gs. union_holds c.args.right (group_entries list (names_of gs))) (sym so_far)
