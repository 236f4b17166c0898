use Rattle.std.proofs.Common.{ap, sym, subst, ◌∙◌}
use Rattle.std.specs.FinMap.{get, insert}
use Rattle.access_lists.specs.Lists.{IsList}
use Rattle.access_lists.proofs.Limits.{put_valid, room_left}
use Rattle.access_lists.proofs.list.AccessList.put.Goals as goal

pub invariant_of-self-2 : goal.invariant_of-self-2
invariant_of-self-2 c =
    let list = c.args.self.now in
    let now = c.in_ok-put.ensures.ok ∙ ap (λ m. insert m c.args.name c.args.rights) c.self.view_is in
    subst IsList (sym now)
    (put_valid list c.args.name c.args.rights (subst IsList c.self.view_is c.self.invariant) c.text.ensures.name
    (λ none. room_left c.is_full_for.result _ _ c.is_full_for.ensures c.if-is_full_for.false (ap (get list) c.text.ensures.value ∙ none)))
