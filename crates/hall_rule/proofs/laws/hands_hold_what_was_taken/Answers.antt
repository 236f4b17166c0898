use Rattle.hall_rule.proofs.TurnLemmas.{in_hand, read_here, swapped}
use Rattle.hall_rule.proofs.laws.hands_hold_what_was_taken.Goals as goal

pub returns : goal.returns
returns g c = λ number.
    λ me place at v slot more is same. record {
      there = in_hand me place at v slot more is same;
      read = λ old. read_here me place at v slot old more is same;
      swapped = λ out back old away new found taken put.
          (swapped me out back place at v slot old away new more is same found taken put).0;
    }
