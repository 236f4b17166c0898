use Rattle.hall_rule.proofs.RegisterTurns.{room_left}
use Rattle.hall_rule.proofs.TurnLemmas.{desk_stands, lane_stands, register_stands, took_desk, took_lane, took_register}
use Rattle.hall_rule.proofs.laws.machines_stand_for_their_lists.Goals as goal

pub returns : goal.returns
returns g c = λ number.
    let m = (g.H.RuledHall.hall number).machines in
    record {
      register = λ start n others me after t.
          let d = took_register m start n others me after t in (d.0, d.1, register_stands m start n others me after d.0 t d.1);
      room = room_left m;
      owner = λ start lane n others me after t.
          let d = took_lane m start lane n others me after t in (d.0, d.1, lane_stands m start lane n others me after d.0 t d.1);
      desk = λ start n others me after t.
          let d = took_desk m start n others me after t in (d.0, d.1, desk_stands m start n others me after d.0 t d.1);
    }
