use Rattle.std.proofs.Common.{refl, ap, ◌∙◌}
use Rattle.hall.specs.ArrayMachines.{lanes_in, start_of}
use Rattle.hall.proofs.DenialLemmas.{denied_where}
use Rattle.hall.proofs.FrontLemmas.{asked_below}
use Rattle.hall.proofs.MemoryLemmas.{wanting_where}
use Rattle.hall.proofs.hall.Hall.ask.Goals as goal

pub ask_seat-answer-requires : goal.ask_seat-answer-requires
ask_seat-answer-requires g c =
    let p = c.args.pass.now in
    let of = c.requires.of_this_hall in record {
      table = of.table;
      opened = of.opened;
      sound = c.requires.op;
      pass = record { live = p.live; no_guests = p.alone; begun = of.begun };
      idle = p.idle;
    }

pub invariant_of-pass : goal.invariant_of-pass
invariant_of-pass g c =
    let p = c.args.pass.now in
    let start = start_of c.args.self.now.table.shared.key in
    let asks = c.asks_are_answered.ensures (lanes_in start) in
    let answered = c.ask_seat-answer.ensures.answered in
    let asked = answered.asked in record {
      idle = ap (λ v. v.claims) asked.is;
      bare = c.ask_seat-answer.ensures.slots ∙ p.bare;
      live = ap (λ v. v.live) asked.is ∙ p.live;
      alone = ap (λ v. v.guests) asked.is;
      counted = asks.place_seen start _ _ _ _ _ _ asked;
      below = asked_below start p.front _ _ _ _ _ answered (asks.place_above start p.front _ _ _ _ _ _ p.counted asked) p.below;
    }

pub returns : goal.returns
returns g c =
    let p = c.args.pass.now in
    let of = c.requires.of_this_hall in
    let start = start_of c.args.self.now.table.shared.key in
    let asks = c.asks_are_answered.ensures (lanes_in start) in
    let answered = c.ask_seat-answer.ensures.answered in record {
      of_this_hall = record { table = c.ask_seat-answer.ensures.table.0 ∙ of.table; begun = ap (λ v. v.start) answered.asked.is ∙ of.begun; opened = of.opened };
      same = λ i. (
        c.ask_seat-answer.ensures.table.0 i,
        (answered.asked.is i).live,
        (answered.asked.is i).number,
        (answered.asked.is i).spare,
        (answered.asked.is i).joined,
        (answered.asked.is i).start,
      );
      answered = answered;
      denied = denied_where start (c.histories_are_legal.ensures.verdicts (lanes_in start)) (c.replies_are_replays.ensures.entry (lanes_in start)) c.verdicts_come_exactly.ensures.denied _ _ _ _ _ answered;
      wanting = wanting_where start (c.replies_are_replays.ensures.entry (lanes_in start)) (c.replies_are_replays.ensures.outcome (lanes_in start)) _ _ _ _ _ answered;
      above = asks.place_above start p.front _ _ _ _ _ _ p.counted answered.asked;
      front = refl;
      gates = c.ask_seat-answer.ensures.gates;
    }
