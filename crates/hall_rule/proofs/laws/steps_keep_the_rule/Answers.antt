use Rattle.std.proofs.Common.{refl}
use Rattle.hall_rule.proofs.DrawStep.{draws_desk, draws_register}
use Rattle.hall_rule.proofs.LookStep.{counts, learns, spares}
use Rattle.hall_rule.proofs.ShareStep.{joins, notes, splits}
use Rattle.hall_rule.proofs.TurnLemmas.{looks_at, passes_at, word_there}
use Rattle.hall_rule.proofs.laws.steps_keep_the_rule.Goals as goal

pub returns : goal.returns
returns g c = λ number.
    let m = (g.H.RuledHall.hall number).machines in
    record {
      step = λ passes start slots id me. record {
        draws_register = draws_register m passes start slots id me;
        draws_desk = draws_desk m passes start slots id me;
        looks = λ q n others word is may.
            looks_at m passes start slots id me q n others word is may.live may.there may.is_claim may.one_turn;
        counts = counts m passes start slots id me;
        passes_turn = passes_at m passes start slots id me;
        spares = spares m passes start slots id me;
        learns = learns m passes start slots id me;
      };
      share = λ passes start id v. record {
        splits = splits m passes start id v;
        notes = notes m passes start id v;
        joins = joins m passes start id v;
      };
      words = λ word lanes count q is there enough. word_there word lanes lanes count q is there refl enough;
    }
