use Rattle.std.proofs.Common.{sym, ap, ◌∙◌, ◌+◌}
use mathlib.Core.Option.{some}
use lib.ListN.{get_elem?}
use Rattle.std.specs.Mem.Slots.{slots_counts, slots_filled}
use Rattle.hall_rule.proofs.CloseLemmas.{slot_is, two_taken}
use Rattle.hall_rule.proofs.slot.take_machines.Goals as goal

pub into_register_slot-requires : goal.into_register_slot-requires
into_register_slot-requires g c = let d = c.requires.register in (d.0, slot_is _ 0 _ _ c.take.ensures.value d.1)

pub into_desk-desk-requires : goal.into_desk-desk-requires
into_desk-desk-requires g c = let d = c.requires.desk in
    (d.0, slot_is _ 1 _ _ (sym (ap (λ l. get_elem? l 1) c.take.ensures.others.0) ∙ c.take-2.ensures.value) d.1)

pub take_lanes-requires-clause-filled : goal.take_lanes-requires-clause-filled
take_lanes-requires-clause-filled g c =
    let slots = c.args.closed.slots in
    (two_taken (slots_filled slots) _ _ _ c.args.lanes c.take.ensures.others.1 c.take-2.ensures.others.1 (sym (slots_counts slots).1)
    c.requires.count c.requires.filled).0

pub take_lanes-requires-clause-emptied : goal.take_lanes-requires-clause-emptied
take_lanes-requires-clause-emptied g c =
    let slots = c.args.closed.slots in
    (two_taken (slots_filled slots) _ _ _ c.args.lanes c.take.ensures.others.1 c.take-2.ensures.others.1 (sym (slots_counts slots).1)
    c.requires.count c.requires.filled).1

pub take_lanes-requires-clause-owners : goal.take_lanes-requires-clause-owners
take_lanes-requires-clause-owners g c = λ lane below.
    let d = c.requires.owners lane below in
    (d.0, ap (λ l. get_elem? l (lane + 2)) (c.take-2.ensures.others.0 ∙ c.take.ensures.others.0) ∙ d.1)

pub returns-clause-register : goal.returns-clause-register
returns-clause-register g c =
    (c.into_register_slot.result, c.take.ensures.value ∙ ap some c.into_register_slot.ensures, c.into_register-register.ensures)

pub returns-clause-desk : goal.returns-clause-desk
returns-clause-desk g c =
    sym (ap (λ l. get_elem? l 1) c.take.ensures.others.0) ∙ c.take-2.ensures.value ∙ ap some c.into_desk-desk.ensures

pub returns-clause-owners : goal.returns-clause-owners
returns-clause-owners g c = λ lane below.
    let d = c.take_lanes.ensures.owners lane below in
    (d.0, sym (ap (λ l. get_elem? l (lane + 2)) (c.take-2.ensures.others.0 ∙ c.take.ensures.others.0)) ∙ d.1, d.2)
