use Rattle.service_histories.proofs.Readying.{gives_out}
use Rattle.service_histories.proofs.TellLemmas.{installs_are_told, kept_worlds_are_described, kept_worlds_are_told, worlds_told_are_one}
use Rattle.service_histories.proofs.laws.worlds_are_told.Goals as goal

pub returns : goal.returns
returns c = record {
  all = kept_worlds_are_told;
  described = λ lanes. kept_worlds_are_described lanes (c.turns_are_ready.ensures.kept lanes) (gives_out c.decisions_keep.ensures.granted lanes);
  installed = λ lanes. installs_are_told lanes c.described_registers_stand.ensures.one c.records_tell_one.ensures;
  one = λ lanes. worlds_told_are_one lanes c.described_registers_stand.ensures.one c.records_tell_one.ensures;
}
