use Rattle.std.proofs.Common.{refl}
use Rattle.hall_rule.proofs.LegalLemmas.{history_with}
use Rattle.hall_rule.proofs.StandingLemmas.{goes_on, longer_history}
use Rattle.hall_rule.proofs.laws.lists_are_histories.Goals as goal

pub returns : goal.returns
returns g c = λ number.
    let s = (g.H.RuledHall.service number) in
    record {
      longer = longer_history s;
      uncut = goes_on s;
      register = λ h i. refl;
      lane = λ h l i owner below. history_with s h l i owner below;
      keepings = λ h k. refl;
    }
