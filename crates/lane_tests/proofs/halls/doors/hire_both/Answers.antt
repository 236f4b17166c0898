use Rattle.std.proofs.Common.{◌∷◌, [], ◌++◌, ap, ◌∙◌}
use Rattle.lane_tests.proofs.OfClerks.{both_members, both_new, both_ready}
use Rattle.lane_tests.proofs.halls.doors.hire_both.Goals as goal

pub hire-one-requires-clause-giver : goal.hire-one-requires-clause-giver
hire-one-requires-clause-giver c = (1, c.requires.giver)

pub hire-two-requires-clause-giver : goal.hire-two-requires-clause-giver
hire-two-requires-clause-giver c = (0, c.hire-one.ensures.giver 1 c.requires.giver)

pub returns-clause-giver : goal.returns-clause-giver
returns-clause-giver c = c.hire-two.ensures.giver 0 (c.hire-one.ensures.giver 1 c.requires.giver)

pub returns-clause-members : goal.returns-clause-members
returns-clause-members c =
    let one = c.push_reserved.ensures.items in
    let two = c.push_reserved-2.ensures.items in
    let both = two ∙ ap (λ l. l ++ c.hire-two.result ∷ []) (one ∙ ap (λ l. l ++ c.hire-one.result ∷ []) c.requires.room.0) in
    both_members c.args.hall.now _ _ _ both c.hire-one.ensures.member c.hire-two.ensures.member

pub returns-clause-ready : goal.returns-clause-ready
returns-clause-ready c =
    let one = c.push_reserved.ensures.items in
    let two = c.push_reserved-2.ensures.items in
    let both = two ∙ ap (λ l. l ++ c.hire-two.result ∷ []) (one ∙ ap (λ l. l ++ c.hire-one.result ∷ []) c.requires.room.0) in
    both_ready c.args.hall.now _ _ _ both c.hire-one.ensures.ready c.hire-two.ensures.ready

pub returns-clause-new : goal.returns-clause-new
returns-clause-new c =
    let one = c.push_reserved.ensures.items in
    let two = c.push_reserved-2.ensures.items in
    let both = two ∙ ap (λ l. l ++ c.hire-two.result ∷ []) (one ∙ ap (λ l. l ++ c.hire-one.result ∷ []) c.requires.room.0) in
    both_new _ _ _ both c.hire-one.ensures.new c.hire-two.ensures.new
