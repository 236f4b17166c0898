use Rattle.std.proofs.Common.{◌≡◌, ◌≢◌, ℕ, ◌+◌, ◌<◌, false, [], ◌∷◌, set, get_or, get_or-set_same, get_or-set_other, length, length-append}
use Rattle.std.proofs.Common.{sym, ap, ◌∙◌, subst, arith}
use mathlib.Core.Option.{some, some-injective}
use mathlib.Core.Logic.{dite}
use native.Mathlib.Decide.{ℕ_discrete}
use lib.ListN.{get_elem?}
use Rattle.atomic_table.proofs.Lists.{at_longer, at_last}
use Rattle.std.specs.Mem.Slots.{slots_filled, slots_items, slots_counts}
use Rattle.hall_rule.proofs.slot.take_lanes.Goals as goal

pub into_lane_slot-slot-requires : goal.into_lane_slot-slot-requires
into_lane_slot-slot-requires g c =
    let i = c.loop-lane.invariant in
    let o = c.requires.owners c.loop-lane.lane c.loop-lane-test.true in
    (o.0, some-injective _ _ (sym c.take.ensures.value ∙ ap (λ l. get_elem? l (c.loop-lane.lane + 2)) i.items ∙ o.1))

pub loop-lane-preserved : goal.loop-lane-preserved
loop-lane-preserved g c =
    let i = c.loop-lane.invariant in
    let at : ℕ = c.loop-lane.lane + 2 in
    let before = slots_filled c.loop-lane.closed.slots in
    let others = c.take.ensures.others in
    let there = c.loop-lane-test.true in
    let long = (slots_counts c.loop-lane.closed.slots).1 in
    let count = i.count in
    let near : at < length before = omega arith in
    let owner = c.into_owner.result in
    let room = c.loop-lane.room.items in
    let pushed = c.push_reserved.ensures.items in record {
      count = others.2 ∙ i.count;
      items = others.0 ∙ i.items;
      filled = λ k lo hi. ap (λ l. get_or l k false) others.1 ∙ get_or-set_other before at k false false (λ e. absurd (omega (arith, e)))
          ∙ i.filled k (omega arith) hi;
      empty = λ k lt. ap (λ l. get_or l k false) others.1 ∙ dite (ℕ_discrete k at)
          (λ e. subst (λ (x : ℕ). get_or (set before at false) x false ≡ false) (sym e) (get_or-set_same before at false false near))
          (λ ne. get_or-set_other before at k false false ne ∙ i.empty k (let apart : k ≢ at = ne in omega arith));
      room = let r = i.room in let s = c.push_reserved.ensures.capacity in omega arith;
      taken = ap length pushed ∙ length-append room (owner ∷ []) ∙ ap (λ n. n + 1) i.taken;
      owners = λ k lt. dite (ℕ_discrete k c.loop-lane.lane)
          (λ e. (
            c.into_lane_slot-slot.result,
            ap (λ n. get_elem? (slots_items c.args.closed.now.slots) (n + 2)) e ∙ sym (ap (λ l. get_elem? l at) i.items)
                ∙ c.take.ensures.value ∙ ap some c.into_lane_slot-slot.ensures,
            ap (λ l. get_elem? l k) pushed ∙ at_last room owner k (i.taken ∙ sym e) ∙ ap some c.into_owner.ensures,
          ))
          (λ ne. let o = i.owners k (let apart : k ≢ c.loop-lane.lane = ne in omega arith) in
          (o.0, o.1, ap (λ l. get_elem? l k) pushed ∙ at_longer room (owner ∷ []) k o.0.owner o.2));
    }

pub returns-clause-count : goal.returns-clause-count
returns-clause-count g c =
    let over = c.loop-lane-test.false in
    let most = c.loop-lane.auto.lane-end in
    let all : c.loop-lane.lane ≡ c.args.lanes = omega arith in
    c.loop-lane.invariant.taken ∙ all

pub returns-clause-owners : goal.returns-clause-owners
returns-clause-owners g c =
    let over = c.loop-lane-test.false in
    let most = c.loop-lane.auto.lane-end in
    λ k lt. c.loop-lane.invariant.owners k (omega arith)
