use Rattle.hall_rule.proofs.DeskTurns.{desk_ready, has_kept}
use Rattle.hall_rule.proofs.StandingLemmas.{desk_on, desk_pushed_on}
use Rattle.hall_rule.proofs.TurnLemmas.{may_look_desk}
use Rattle.hall_rule.proofs.laws.the_desk_takes_turns.Goals as goal

pub returns : goal.returns
returns g c = λ number.
    let m = (g.H.RuledHall.hall number).machines in
    record {
      may_look = may_look_desk;
      stays = desk_on m;
      keeps = desk_pushed_on m;
      may_pass = desk_ready m;
      kept = has_kept m;
    }
