use Rattle.service_histories.proofs.CutLemmas.{owner_cuts_tell, owner_cuts_write, owners_mark, says_all}
use Rattle.service_histories.proofs.laws.cuts_tell_the_lane.Goals as goal

pub returns : goal.returns
returns c = record {
  says = says_all;
  marks = owners_mark;
  turn = c.cuts_tell_the_lane.ensures.turn;
  all = λ lanes. c.cuts_tell_the_lane.ensures.all lanes (says_all lanes);
  cut = λ lanes. owner_cuts_tell lanes c.last_record_wins.ensures.none c.record_keys_differ.ensures;
  write = λ lanes. owner_cuts_write lanes c.last_record_wins.ensures.none c.record_keys_differ.ensures;
}
