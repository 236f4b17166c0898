use Rattle.std.proofs.Common.{length, drop, sym, ◌∙◌, subst}
use Rattle.std.specs.Prelude.{All}
use Rattle.std.proofs.lemmas.List.{take_at}
use Rattle.lane_tests.specs.Crowds.{IsMember}
use Rattle.lane_tests.specs.declared.halls.crowds.Member.{Member}
use Rattle.lane_tests.proofs.CallerLists.{all_same}
use Rattle.lane_tests.proofs.halls.crowds.speak_all.Goals as goal

pub returns-clause-members : goal.returns-clause-members
returns-clause-members g c =
    let new = c.speak_each.new.members in
    let Ours = λ (m : Member). IsMember c.args.hall.now m.pass in
    let written = take_at new (drop (length new) c.args.members.now.items) c.args.members.now.len (c.speak_each.auto.members ∙ c.as_mut_slice.ensures.len) in
    subst (All Ours) (sym written) (all_same Ours _ new c.speak_each.auto.members c.speak_each.ensures)
