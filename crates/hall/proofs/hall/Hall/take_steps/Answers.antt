use Rattle.std.proofs.Common.{not, refl, ap, ◌∙◌, [], ◌∷◌}
use Rattle.service_core.specs.declared.answers.What.TheVariants.{Replied}
use Rattle.lane_histories.specs.declared.items.Part.TheVariants.{Second}
use Rattle.hall.specs.ArrayMachines.{lanes_in, start_of}
use Rattle.hall.proofs.AskLemmas.{gone_along}
use Rattle.hall.proofs.TicketLemmas.{may_begin, may_follow, none_served, none_third, one_served, tickets_in_hand, two_served}
use Rattle.hall.proofs.hall.Hall.take_steps.Goals as goal

pub act-one-requires-clause-may : goal.act-one-requires-clause-may
act-one-requires-clause-may g c =
    let may = c.requires.serving in
    let k = tickets_in_hand c.requires.opened c.the_register_counts.ensures.counts c.decisions_keep.ensures.granted
    c.decisions_continue.ensures.issues may.2 in
    may_begin k c.requires.of_objects (c.asks_are_answered.ensures (lanes_in (start_of c.args.self.now.table.shared.key)))
    c.in-Some.first c.next.new.self.left c.in-Some.ensures.turn

pub act-two-requires-clause-may : goal.act-two-requires-clause-may
act-two-requires-clause-may g c =
    let may = c.requires.serving in
    let k = tickets_in_hand c.requires.opened c.the_register_counts.ensures.counts c.decisions_keep.ensures.granted
    c.decisions_continue.ensures.issues may.2 in
    let first = c.in-Some.first in
    let both = c.in-Some.ensures.turn ∙ ap (λ ts. first ∷ ts) c.in-Some-next.ensures.turn in (
      Second first.lane,
      may_follow k c.requires.of_objects (c.asks_are_answered.ensures (lanes_in (start_of c.args.self.now.table.shared.key)))
          first c.in-Some-next.second c.next-2.new.self.left both c.act-one.result c.act-one.new.seat.me.0
          c.act-one.ensures.acted (not c.went_well-follows.result) (ap not c.went_well-follows.ensures),
    )

pub returns-in_default-clause-served : goal.returns-in_default-clause-served
returns-in_default-clause-served g c = λ before e serving.
    let k = tickets_in_hand c.requires.opened c.the_register_counts.ensures.counts c.decisions_keep.ensures.granted
    c.decisions_continue.ensures.issues serving in
    none_served k c.requires.of_objects (c.asks_are_answered.ensures (lanes_in (start_of c.args.self.now.table.shared.key)))
    c.in_default.ensures.turn.0 _ (ap Replied c.done.ensures)

pub returns-in_default-next-clause-served : goal.returns-in_default-next-clause-served
returns-in_default-next-clause-served g c = λ before e serving.
    let k = tickets_in_hand c.requires.opened c.the_register_counts.ensures.counts c.decisions_keep.ensures.granted
    c.decisions_continue.ensures.issues serving in
    one_served k c.requires.of_objects (c.asks_are_answered.ensures (lanes_in (start_of c.args.self.now.table.shared.key)))
    c.in-Some.first c.next.new.self.left c.in-Some.ensures.turn c.in_default-next.ensures.turn.0 c.act-one.result _ c.act-one.new.seat.me.0
    c.told.ensures c.act-one.ensures.acted

pub returns-clause-spent : goal.returns-clause-spent
returns-clause-spent g c =
    let may = c.requires.serving in
    let k = tickets_in_hand c.requires.opened c.the_register_counts.ensures.counts c.decisions_keep.ensures.granted
    c.decisions_continue.ensures.issues may.2 in
    let first = c.in-Some.first in
    let both = c.in-Some.ensures.turn ∙ ap (λ ts. first ∷ ts) c.in-Some-next.ensures.turn in
    none_third k c.requires.of_objects first c.in-Some-next.second c.next-2.new.self.left both

pub returns-clause-served : goal.returns-clause-served
returns-clause-served g c = λ before e serving.
    let k = tickets_in_hand c.requires.opened c.the_register_counts.ensures.counts c.decisions_keep.ensures.granted
    c.decisions_continue.ensures.issues serving in
    let first = c.in-Some.first in
    let both = c.in-Some.ensures.turn ∙ ap (λ ts. first ∷ ts) c.in-Some-next.ensures.turn in
    two_served k c.requires.of_objects (c.asks_are_answered.ensures (lanes_in (start_of c.args.self.now.table.shared.key)))
    first c.in-Some-next.second c.next-2.new.self.left both c.act-one.result c.act-one.new.seat.me.0 c.act-one.ensures.acted
    (not c.went_well-follows.result) (ap not c.went_well-follows.ensures) c.act-two.result _ c.act-two.new.seat.me.0 c.told_by.ensures
    c.act-two.ensures.acted

-- ---- the gate

pub returns-in_default-clause-gates : goal.returns-in_default-clause-gates
returns-in_default-clause-gates g c =
    gone_along g.G.Gate.goes c.args.job.now.place c.args.gate.now c.args.gate.now c.args.tickets.now.left [] c.in_default.ensures.turn.0 refl

pub returns-in_default-next-clause-gates : goal.returns-in_default-next-clause-gates
returns-in_default-next-clause-gates g c =
    let first = c.in-Some.first in
    gone_along g.G.Gate.goes c.args.job.now.place c.args.gate.now c.act-one.new.gate c.args.tickets.now.left (first ∷ [])
    (c.in-Some.ensures.turn ∙ ap (λ ts. first ∷ ts) c.in_default-next.ensures.turn.0) (c.act-one.new.gate, c.act-one.ensures.gone, refl)

pub returns-clause-gates : goal.returns-clause-gates
returns-clause-gates g c =
    let may = c.requires.serving in
    let k = tickets_in_hand c.requires.opened c.the_register_counts.ensures.counts c.decisions_keep.ensures.granted
    c.decisions_continue.ensures.issues may.2 in
    let first = c.in-Some.first in
    let second = c.in-Some-next.second in
    let both = c.in-Some.ensures.turn ∙ ap (λ ts. first ∷ ts) c.in-Some-next.ensures.turn in
    let all = both ∙ ap (λ ts. first ∷ (second ∷ ts)) (none_third k c.requires.of_objects first second c.next-2.new.self.left both) in
    gone_along g.G.Gate.goes c.args.job.now.place c.args.gate.now c.act-two.new.gate c.args.tickets.now.left (first ∷ (second ∷ [])) all
    (c.act-one.new.gate, c.act-one.ensures.gone, (c.act-two.new.gate, c.act-two.ensures.gone, refl))
