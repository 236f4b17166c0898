use Rattle.hall_rule.proofs.AskLemmas.{front_seen, has_asked, may_act_first, may_act_only, may_act_second, may_draw, may_serve}
use Rattle.hall_rule.proofs.AskLemmas.{place_above, served_by_one, served_by_register, served_by_two}
use Rattle.hall_rule.proofs.laws.asks_are_answered.Goals as goal

pub returns : goal.returns
returns g c = λ number.
    let m = (g.H.RuledHall.hall number).machines in
    record {
      may_draw = may_draw m;
      may_serve = may_serve m;
      serve = λ start before e v may. record {
        by_none = served_by_register m start before e v may;
        may_act_only = may_act_only m start before e v may;
        by_one = served_by_one m start before e v may;
        may_act_first = may_act_first m start before e v may;
        may_act_second = may_act_second m start before e v may;
        by_two = served_by_two m start before e v may;
      };
      asked = has_asked m;
      place_above = place_above m;
      place_seen = front_seen m;
    }
