use Rattle.hall_rule.proofs.LaneTicketLemmas.{is_pass, lanes_begin_cut, lanes_begin_entry, lanes_end, lanes_go_on, may_act_next}
use Rattle.hall_rule.proofs.LaneTicketLemmas.{may_cut_next, served_by_each}
use Rattle.hall_rule.proofs.laws.each_lane_is_served.Goals as goal

pub returns : goal.returns
returns g c = λ number.
    let m = (g.H.RuledHall.hall number).machines in
    record {
      begin_entry = lanes_begin_entry m;
      begin_cut = lanes_begin_cut m;
      lane = λ start count ticket lane others v w s. record {
        pass = is_pass m start count ticket lane others v w s;
        may_cut = may_cut_next m start count ticket lane others v w s;
        may_act = may_act_next m start count ticket lane others v w s;
        go_on = lanes_go_on m start count ticket lane others v w s;
        end = lanes_end m start count ticket lane others v w s;
      };
      by_each = served_by_each m;
    }
