use Rattle.hall_rule.proofs.ShareStep.{joined_as}
use Rattle.hall_rule.proofs.TurnLemmas.{joined_front, looked_turn, was_passed}
use Rattle.hall_rule.proofs.laws.steps_tell_what_was_seen.Goals as goal

pub returns : goal.returns
returns g c = λ number.
    let m = (g.H.RuledHall.hall number).machines in
    record {
      looked = λ start q n shown others first me after same may at is early.
          looked_turn m start q n shown others first me after same may.begun may.is_claim at is early;
      passed = was_passed m;
      joined = joined_as m;
      front = joined_front m;
    }
