use Rattle.std.proofs.Common.{length, refl, ap, ◌∙◌, [], ◌∷◌, arith}
use Rattle.service_core.specs.declared.answers.What.TheVariants.{Replied}
use Rattle.lane_histories.specs.declared.items.Part.TheVariants.{Only}
use Rattle.hall.specs.ArrayMachines.{lanes_in, start_of}
use Rattle.hall.proofs.AskLemmas.{gone_along}
use Rattle.hall.proofs.TicketLemmas.{lanes_begin, lanes_go_on, lanes_served, may_drop, tickets_in_hand}
use Rattle.hall.proofs.hall.Hall.take_lanes.Goals as goal

pub lanes-init : goal.lanes-init
lanes-init g c = record {
  table = refl;
  id = refl;
  slots = refl;
  gates = λ end through. through;
  taking = λ before e serving.
      let k = tickets_in_hand c.requires.opened c.the_register_counts.ensures.counts c.decisions_keep.ensures.granted
      c.decisions_continue.ensures.issues serving in
      lanes_begin k (c.each_lane_is_served.ensures (lanes_in (start_of c.args.self.now.table.shared.key))) c.requires.of_a_node;
}

pub act-requires-clause-table : goal.act-requires-clause-table
act-requires-clause-table g c = c.lanes.invariant.table ∙ c.requires.table

pub act-requires-clause-may : goal.act-requires-clause-may
act-requires-clause-may g c =
    let may = c.requires.serving in
    let k = tickets_in_hand c.requires.opened c.the_register_counts.ensures.counts c.decisions_keep.ensures.granted
    c.decisions_continue.ensures.issues may.2 in (
      Only,
      may_drop k (c.each_lane_is_served.ensures (lanes_in (start_of c.args.self.now.table.shared.key)))
          (c.lanes.invariant.taking may.0 may.1 may.2) c.in-Some.turn c.next.new.self.left c.in-Some.ensures.turn,
    )

pub lanes-preserved : goal.lanes-preserved
lanes-preserved g c =
    let i = c.lanes.invariant in
    let a = c.act.ensures in record {
      table = a.table.0 ∙ i.table;
      id = a.table.1 ∙ i.id;
      slots = a.slots ∙ i.slots;
      gates = λ end through.
          i.gates end (gone_along g.G.Gate.goes c.args.job.now.place c.lanes.gate end c.lanes.tickets.left (c.in-Some.turn ∷ c.next.new.self.left)
          c.in-Some.ensures.turn (c.act.new.gate, a.gone, through));
      taking = λ before e serving.
          let k = tickets_in_hand c.requires.opened c.the_register_counts.ensures.counts c.decisions_keep.ensures.granted
          c.decisions_continue.ensures.issues serving in
          lanes_go_on k (c.each_lane_is_served.ensures (lanes_in (start_of c.args.self.now.table.shared.key))) (i.taking before e serving)
          c.in-Some.turn c.next.new.self.left c.in-Some.ensures.turn c.act.result c.act.new.seat.me.0 a.acted;
    }

pub lanes-smaller : goal.lanes-smaller
lanes-smaller g c = let e = ap length c.in-Some.ensures.turn in omega arith

pub returns : goal.returns
returns g c =
    let i = c.lanes.invariant in
    let none_left = c.in_default.ensures.turn in record {
      spent = none_left.1;
      table = (i.table, i.id);
      slots = i.slots;
      gates = i.gates c.lanes.gate (gone_along g.G.Gate.goes c.args.job.now.place c.lanes.gate c.lanes.gate c.lanes.tickets.left [] none_left.0 refl);
      served = λ before e serving.
          let k = tickets_in_hand c.requires.opened c.the_register_counts.ensures.counts c.decisions_keep.ensures.granted
          c.decisions_continue.ensures.issues serving in
          lanes_served k (c.each_lane_is_served.ensures (lanes_in (start_of c.args.self.now.table.shared.key))) (i.taking before e serving)
          c.requires.of_a_node none_left.0 _ (ap Replied c.done.ensures);
    }
