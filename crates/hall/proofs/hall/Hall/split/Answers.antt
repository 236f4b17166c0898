use Rattle.std.proofs.Common.{◌≤◌, refl, sym, ap, subst, ◌∙◌}
use Rattle.lane_histories.specs.Histories.{places}
use Rattle.hall.proofs.FrontLemmas.{given_unused, left_below}
use Rattle.hall.proofs.hall.Hall.split.Goals as goal

pub split_seat-seat-requires : goal.split_seat-seat-requires
split_seat-seat-requires g c =
    let p = c.args.pass.now in
    record { table = c.requires.of_this_hall.table; live = (p.live, p.alone); spare = c.requires.spare }

pub invariant_of-pass : goal.invariant_of-pass
invariant_of-pass g c =
    let p = c.args.pass.now in
    let s = c.split_seat-seat.ensures in
    let spare = c.requires.spare in record {
      idle = ap (λ v. v.claims) s.kept ∙ p.idle;
      bare = s.slots.0 ∙ p.bare;
      live = ap (λ v. v.live) s.kept ∙ p.live;
      alone = ap (λ v. v.guests) s.kept ∙ p.alone;
      counted = subst (λ v. p.front ≤ places v.seen.register) (sym s.kept) p.counted;
      below = left_below p.front _ _ spare.0 spare.1 p.live spare.2 s.kept p.below;
    }

pub returns : goal.returns
returns g c =
    let of = c.requires.of_this_hall in
    let p = c.args.pass.now in
    let s = c.split_seat-seat.ensures in
    let spare = c.requires.spare in record {
      of_this_hall = record { table = s.table.0 ∙ of.table; begun = ap (λ v. v.start) s.kept ∙ of.begun; opened = of.opened };
      of_this_hall_too = record { table = s.table.1 ∙ of.table; begun = ap (λ v. v.start) s.given ∙ of.begun; opened = of.opened };
      kept = s.kept;
      given = s.given;
      unused = given_unused p.seat.me.0 _ spare.0 spare.1 spare.2 s.given s.unused;
      fronts = (refl, refl);
    }
