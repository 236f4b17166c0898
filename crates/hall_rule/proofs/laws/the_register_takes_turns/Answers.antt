use Rattle.std.proofs.Common.{ap}
use Rattle.hall_rule.proofs.RegisterTurns.{drawn_cut_done, has_cut_register, has_drawn_cut, register_cut_done, register_decided}
use Rattle.hall_rule.proofs.RegisterTurns.{register_done}
use Rattle.hall_rule.proofs.TurnLemmas.{may_look}
use Rattle.hall_rule.proofs.laws.the_register_takes_turns.Goals as goal

pub returns : goal.returns
returns g c = λ number.
    let m = (g.H.RuledHall.hall number).machines in
    record {
      turn = λ start n v first taken back d new may is t here mine.
          let back_is = ap (λ x. x.0) mine in record {
            may_decide = register_done m start n v first taken back d new may is t here mine;
            may_draw_cut = drawn_cut_done m start n v first taken back d new may is t here mine;
            may_cut = register_cut_done m start n v first taken back d new may is t here mine;
            decided = λ place asked verdict w. register_decided m start n place v first taken back w d asked verdict may is t here back_is;
            drew_cut = λ place w. has_drawn_cut m start n place v first taken back w may is t back_is;
            cut = λ place found w. has_cut_register m start n place found v first taken back w may is t back_is;
          };
      may_look = may_look;
    }
