use Rattle.std.proofs.Common.{rules, ◌≡◌, ◌+◌, ◌≤◌, ◌<◌, ◌^◌, ◌∷◌, Some, length, map, replicate, vec_capacity, refl, sym, ap, ◌∙◌, subst}
use Rattle.hall_rule.specs.Homes.{desk_home, lane_home, register_home}
use Rattle.hall_rule.specs.Rule.{first_view}
use Rattle.hall.specs.Answers.{ArrayStart}
use Rattle.hall.specs.ArrayMachines.{IsOpened, lanes_in, start_of}
use Rattle.hall.proofs.PlainLemmas.{fresh_so}
use Rattle.hall.proofs.SharingLemmas.{noted, opened}
use Rattle.hall.specs.declared.desk.NotedDesk.{NotedDesk}
use Rattle.hall.proofs.hall.Hall.begin.Goals as goal

pub new-requires : goal.new-requires
unfolding start_of
new-requires g c =
    let s = c.args.world in
    let parts = c.parts-register.ensures in
    let machines_are : c.in_ok-machines.machines.items ≡ s.lanes = c.in_ok-machines.ensures.taken ∙ ap (λ o. o.owners) parts.owners in
    let owners_are : c.of-4.result.value.items ≡ s.lanes = ap (λ v. v.items) c.of-4.ensures ∙ machines_are in
    let start : ArrayStart g.row.D-KnownBy.Denot = record { register = c.of-3.result.value; owners = c.of-4.result.value.items; desk = c.known_by.result.value } in
    let opening = c.worlds_open.ensures.world (length s.lanes) s (sym parts.built.count) parts.built c.is_whole.ensures.roots c.is_whole.ensures.catalogue in
    let here = opened s c.requires.new parts.built opening c.worlds_open.ensures.register start (c.of-3.ensures ∙ parts.register) owners_are in
    let few : c.args.passes < 2 ^ 32 = c.ranges.passes.fits in
    let desk : NotedDesk g.row.D.Denot = record { desk = c.args.desk; register = c.of.result; owners = c.of-2.result } in
    (c.halls_begin_and_end.ensures (lanes_in start)).begin c.args.passes start desk _ _
    (fresh_so g.D.AtDesk (lanes_in start) start here.fresh)
    (noted g.D.AtDesk s start desk c.known_by.ensures (c.of.ensures ∙ sym c.of-3.ensures)
    (ap (λ v. v.items) c.of-2.ensures ∙ sym (ap (λ v. v.items) c.of-4.ensures)) (c.of-3.ensures ∙ parts.register) owners_are
    c.requires.since c.requires.note c.requires.told) c.requires.some_pass few
    (c.as_slice.ensures.value ∙ c.in_ok-words.ensures.items_if_clones_equal (λ y e. search rules)
    ∙ ap (λ n. replicate (n + 4) 0) (c.len-lanes.ensures ∙ ap (λ o. length o.owners) parts.owners ∙ sym (ap length owners_are)))
    (c.in_ok-slots.ensures.laid
    ∙ (λ i. register_home (sym c.of-3.ensures i) ∷ (desk_home desk ∷ map lane_home (sym c.of-4.ensures i).items)))

pub invariant_of-hall : goal.invariant_of-hall
unfolding start_of
invariant_of-hall g c =
    let s = c.args.world in
    let parts = c.parts-register.ensures in
    let made = c.in-Ok.ensures.ok in
    let machines_are : c.in_ok-machines.machines.items ≡ s.lanes = c.in_ok-machines.ensures.taken ∙ ap (λ o. o.owners) parts.owners in
    let lanes_are : c.len-lanes.result ≡ length s.lanes = c.len-lanes.ensures ∙ ap (λ o. length o.owners) parts.owners in
    let count : length c.in-Ok.table.shared.key.owners.value.items ≡ length s.lanes =
    ap (λ k. length k.owners.value.items) made.5 ∙ ap (λ v. length v.items) c.of-4.ensures ∙ ap length machines_are in record {
      room = (
        c.in_ok-taken.ensures.items,
        subst (λ n. n ≤ vec_capacity c.in_ok-taken.taken) (lanes_are ∙ sym count) c.in_ok-taken.ensures.capacity,
      );
      lanes = (c.in_ok-machines.ensures.emptied, c.taken_out.ensures.room ∙ ap (λ o. o.room) parts.owners ∙ sym count);
      sized = (
        made.0 ∙ c.as_slice.ensures.len ∙ c.in_ok-words.ensures.len ∙ ap (λ n. n + 4) (lanes_are ∙ sym count),
        made.1 ∙ c.in_ok-slots.ensures.count ∙ ap (λ n. n + 2) (ap length machines_are ∙ sym count),
      );
    }

pub returns : goal.returns
unfolding start_of
returns g c =
    let s = c.args.world in
    let parts = c.parts-register.ensures in
    let made = c.in-Ok.ensures.ok in
    let machines_are : c.in_ok-machines.machines.items ≡ s.lanes = c.in_ok-machines.ensures.taken ∙ ap (λ o. o.owners) parts.owners in
    let owners_are : c.of-4.result.value.items ≡ s.lanes = ap (λ v. v.items) c.of-4.ensures ∙ machines_are in
    let start : ArrayStart g.row.D-KnownBy.Denot = record { register = c.of-3.result.value; owners = c.of-4.result.value.items; desk = c.known_by.result.value } in
    let opening = c.worlds_open.ensures.world (length s.lanes) s (sym parts.built.count) parts.built c.is_whole.ensures.roots c.is_whole.ensures.catalogue in
    let here = opened s c.requires.new parts.built opening c.worlds_open.ensures.register start (c.of-3.ensures ∙ parts.register) owners_are in record {
      begun = record {
        register = ap (λ k. k.register.value) made.5 ∙ c.of-3.ensures ∙ parts.register;
        owners = ap (λ k. k.owners.value.items) made.5 ∙ owners_are;
        passes_are = ap (λ k. k.passes) made.5;
        pass = record {
          table = made.2;
          begun = ap (λ me. me.0.start) made.4 ∙ ap (λ k. Some (start_of k)) (sym made.5);
          opened = subst (λ k. IsOpened (start_of k)) (sym made.5) here;
        };
        first = ap (λ me. me.0) made.4 ∙ (λ i. first_view c.args.passes (owners_are i) (start_of (sym made.5 i)));
        front = refl;
      };
      desk = ap (λ k. k.desk.value) made.5 ∙ c.known_by.ensures;
    }
