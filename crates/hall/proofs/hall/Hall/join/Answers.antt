use Rattle.std.proofs.Common.{◌≤◌, sym, ap, ◌∙◌, subst}
use Rattle.lane_histories.specs.Histories.{places}
use Rattle.hall.specs.ArrayMachines.{lanes_in, start_of}
use Rattle.hall.proofs.FrontLemmas.{AreBelow, joined_below, took_mine, took_theirs}
use Rattle.hall.proofs.hall.Hall.join.Goals as goal

pub invariant_of-pass : goal.invariant_of-pass
invariant_of-pass g c =
    let start = start_of c.args.self.now.table.shared.key in
    let p = c.args.pass.now in
    let j = c.join_seat.ensures.joined in record {
      idle = ap (λ v. v.claims) j.is ∙ p.idle;
      bare = c.join_seat.ensures.slots ∙ p.bare;
      live = ap (λ v. v.live) j.is ∙ p.live;
      alone = ap (λ v. v.guests) j.is;
      counted = subst (λ n. n ≤ places c.join_seat.new.seat.me.0.seen.register) (sym c.max-pass.ensures)
          ((c.steps_tell_what_was_seen.ensures (lanes_in start)).front start p.front c.args.other.front _ _ _ p.counted c.args.other.counted j);
      below = subst (λ n. AreBelow n c.join_seat.new.seat.me.0) (sym c.max-pass.ensures)
          (joined_below j p.front c.args.other.front p.below c.args.other.below);
    }

pub returns-clause-of_this_hall : goal.returns-clause-of_this_hall
returns-clause-of_this_hall g c =
    let of = c.requires.of_this_hall in
    let s = c.join_seat.ensures in record {
      table = s.table ∙ of.table;
      begun = ap (λ v. v.start) s.joined.is ∙ of.begun;
      opened = of.opened;
    }

pub returns-clause-mine : goal.returns-clause-mine
returns-clause-mine g c = took_mine c.join_seat.ensures.joined

pub returns-clause-theirs : goal.returns-clause-theirs
returns-clause-theirs g c = took_theirs c.join_seat.ensures.joined

pub returns-clause-names : goal.returns-clause-names
returns-clause-names g c = c.join_seat.ensures.joined.as_many
