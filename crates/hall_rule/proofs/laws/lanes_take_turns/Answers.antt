use Rattle.std.proofs.Common.{ap}
use Rattle.hall_rule.proofs.LaneTurns.{is_next, lane_acted, lane_cut_done, lane_done, lane_was_cut, slots_tell}
use Rattle.hall_rule.proofs.TurnLemmas.{may_look_cut, may_look_lane}
use Rattle.hall_rule.proofs.laws.lanes_take_turns.Goals as goal

pub returns : goal.returns
returns g c = λ number.
    let m = (g.H.RuledHall.hall number).machines in
    record {
      news = slots_tell m;
      turn = λ start lane n first taken back d new t here mine.
          let back_is = ap (λ x. x.0) mine in record {
            may_act = lane_done m start lane n first taken back d new t here mine;
            may_cut = lane_cut_done m start lane n first taken back d new t here mine;
            acted = λ place part task skip outcome w may. lane_acted m start lane n place part task skip outcome new.owner first taken back w may t
                back_is;
            cut = λ cut place found w may. lane_was_cut m start lane n cut place found new.owner first taken back w may t back_is;
          };
      next = is_next m;
      may_look = may_look_lane (g.H.RuledHall.service number);
      may_look_cut = may_look_cut (g.H.RuledHall.service number);
    }
