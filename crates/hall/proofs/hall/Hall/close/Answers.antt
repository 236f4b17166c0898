use Rattle.std.proofs.Common.{◌≡◌, ◌+◌, ◌<◌, ◌≤◌, length, sym, ap, subst, ◌∙◌, arith}
use Rattle.std.specs.Prelude.{slice_get, vec_capacity}
use Rattle.std.specs.Mem.Slots.{slots_items}
use Rattle.service_core.specs.Worlds.{IsBuilt, State}
use Rattle.hall.specs.ArrayMachines.{lanes_in, start_of}
use Rattle.hall.specs.Passes.{HasEnded, IsDeskAtEnd}
use Rattle.hall.proofs.FrontLemmas.{front_is_last}
use Rattle.hall.proofs.SharingLemmas.{both_ended, built}
use Rattle.hall.proofs.hall.Hall.close.Goals as goal

pub take_machines-register-requires : goal.take_machines-register-requires
take_machines-register-requires g c =
    let h = c.args.self in
    let p = c.args.pass in
    let start = start_of h.table.shared.key in
    let lanes_are : c.room-lanes.result ≡ lanes_in start = c.room-lanes.ensures ∙ h.lanes.1 in
    let v = c.close_with-closed.ensures.values.2 in
    let e = (c.halls_begin_and_end.ensures (lanes_in start)).end h.table.shared.key.passes start v.0 (slots_items c.close_with-closed.result.slots)
    p.seat.id p.seat.me.0 v.1.0 v.1.1 v.4 p.live p.idle p.alone c.requires.whole in record {
      count = c.close_with-closed.ensures.counts.1 ∙ h.sized.1 ∙ ap (λ n. n + 2) (sym lanes_are);
      filled = c.close_with-closed.ensures.values.1;
      register = e.register;
      desk = e.desk;
      owners = λ lane below. e.owners lane (subst (λ n. lane < n) lanes_are below);
      room = (h.room.0, subst (λ n. n ≤ vec_capacity h.taken) (sym lanes_are) h.room.1);
    }

pub put_back-requires : goal.put_back-requires
put_back-requires g c =
    let h = c.args.self in
    let t = c.take_machines-register in
    let count : length t.new.room.items ≡ h.owners.room = t.ensures.count ∙ c.room-lanes.ensures in record {
      empty = h.lanes.0;
      room = omega arith;
    }

pub of_parts-requires : goal.of_parts-requires
of_parts-requires g c =
    let h = c.args.self in
    let p = c.args.pass in
    let start = start_of h.table.shared.key in
    let lanes_are : c.room-lanes.result ≡ lanes_in start = c.room-lanes.ensures ∙ h.lanes.1 in
    let v = c.close_with-closed.ensures.values.2 in
    let e = (c.halls_begin_and_end.ensures (lanes_in start)).end h.table.shared.key.passes start v.0 (slots_items c.close_with-closed.result.slots)
    p.seat.id p.seat.me.0 v.1.0 v.1.1 v.4 p.live p.idle p.alone c.requires.whole in
    let t = c.take_machines-register in
    let taken = t.new.room.items in
    let closed = e.closed t.result.0 t.result.1 taken t.ensures.register t.ensures.desk (t.ensures.count ∙ lanes_are)
    (λ lane below. t.ensures.owners lane (subst (λ n. lane < n) (sym lanes_are) below)) in
    subst (IsBuilt t.result.0) (sym c.put_back.ensures)
    (built g.D.AtDesk start c.requires.of_this_hall.opened p.seat.me.0 t.result.0 taken t.result.1 closed
    (λ l o at. c.are_whole.ensures l o (ap (λ xs. slice_get xs l) c.as_slice.ensures.value ∙ at)) (c.worlds_close.ensures.built (lanes_in start)))

pub returns : goal.returns
returns g c =
    let h = c.args.self in
    let p = c.args.pass in
    let start = start_of h.table.shared.key in
    let lanes_are : c.room-lanes.result ≡ lanes_in start = c.room-lanes.ensures ∙ h.lanes.1 in
    let v = c.close_with-closed.ensures.values.2 in
    let e = (c.halls_begin_and_end.ensures (lanes_in start)).end h.table.shared.key.passes start v.0 (slots_items c.close_with-closed.result.slots)
    p.seat.id p.seat.me.0 v.1.0 v.1.1 v.4 p.live p.idle p.alone c.requires.whole in
    let t = c.take_machines-register in
    let taken = t.new.room.items in
    let closed = e.closed t.result.0 t.result.1 taken t.ensures.register t.ensures.desk (t.ensures.count ∙ lanes_are)
    (λ lane below. t.ensures.owners lane (subst (λ n. lane < n) (sym lanes_are) below)) in
    let both = subst (λ (x : State × g.row.D.Denot). (end : HasEnded start p.seat.me.0 x.0) × IsDeskAtEnd g.D.AtDesk start end.seen x.1)
    (λ i. (
      sym (c.of_parts.ensures ∙ ap (λ xs. record { register = t.result.0; lanes = xs }) c.put_back.ensures) i,
      sym c.into_desk.ensures i,
    ))
    (both_ended g.D.AtDesk start c.requires.of_this_hall.opened p.seat.me.0 t.result.0 taken t.result.1 closed
    (λ l o at. c.are_whole.ensures l o (ap (λ xs. slice_get xs l) c.as_slice.ensures.value ∙ at))) in record {
      ended = both.0;
      desk = both;
      front = front_is_last start p.front p.seat.me.0 _ both.0 p.counted p.below;
    }
