use Rattle.std.proofs.Common.{refl, ap, ◌∙◌}
use Rattle.hall.specs.ArrayMachines.{start_of}
use Rattle.hall.proofs.DeskWorkLemmas.{below_after, counted_after}
use Rattle.hall.proofs.flushing.Hall+JournalDesk+D.keep_register.Goals as goal

pub take_desk-requires : goal.take_desk-requires
take_desk-requires g c =
    let p = c.args.pass.now in
    let of = c.requires.of_this_hall in record {
      table = of.table;
      opened = of.opened;
      pass = record { live = p.live; no_guests = p.alone; begun = of.begun };
      idle = p.idle;
    }

pub invariant_of-pass : goal.invariant_of-pass
invariant_of-pass g c =
    let p = c.args.pass.now in
    let start = start_of c.args.self.now.table.shared.key in
    let kept = c.take_desk.ensures.turn.0.turn in record {
      idle = ap (λ v. v.claims) kept.is;
      bare = c.take_desk.ensures.slots ∙ p.bare;
      live = ap (λ v. v.live) kept.is ∙ p.live;
      alone = ap (λ v. v.guests) kept.is;
      counted = counted_after start _ _ _ kept p.front p.counted;
      below = below_after start _ _ _ kept p.front p.below;
    }

pub returns : goal.returns
returns g c =
    let of = c.requires.of_this_hall in
    let kept = c.take_desk.ensures.turn.0.turn in record {
      of_this_hall = record { table = c.take_desk.ensures.table.0 ∙ of.table; begun = ap (λ v. v.start) kept.is ∙ of.begun; opened = of.opened };
      same = (
        λ i. (
          c.take_desk.ensures.table.0 i,
          (kept.is i).live,
          (kept.is i).number,
          (kept.is i).spare,
          (kept.is i).joined,
          (kept.is i).start,
        ),
        refl,
      );
      kept = c.take_desk.ensures.turn;
    }
