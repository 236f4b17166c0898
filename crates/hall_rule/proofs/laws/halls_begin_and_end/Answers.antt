use Rattle.hall_rule.proofs.BeginLemmas.{begins}
use Rattle.hall_rule.proofs.CloseLemmas.{at_end, closed_with, end_desk, end_lane, end_register}
use Rattle.hall_rule.proofs.laws.halls_begin_and_end.Goals as goal

pub returns : goal.returns
returns g c = λ number.
    let m = (g.H.RuledHall.hall number).machines in
    record {
      begin = begins m;
      end = λ passes start s slots id v follows at same live idle alone whole.
          let e = at_end m start passes s slots id v follows at same live idle alone whole in record {
            register = end_register m start v slots e;
            desk = end_desk m start v slots e;
            owners = λ lane below. end_lane m start v slots lane below e;
            closed = λ register desk owners r d count lanes. closed_with m start v slots e register desk owners r d count lanes;
          };
    }
