use Rattle.service_histories.proofs.CutLemmas.{kept_registers_are_parts, register_cuts_tell, register_cuts_write}
use Rattle.service_histories.proofs.laws.cuts_tell_the_register.Goals as goal

pub returns : goal.returns
returns c = record {
  cut = λ lanes. register_cuts_tell lanes c.last_record_wins.ensures.none;
  write = λ lanes. register_cuts_write lanes c.last_record_wins.ensures.none;
  part = kept_registers_are_parts;
}
