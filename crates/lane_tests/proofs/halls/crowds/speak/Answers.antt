use Rattle.std.proofs.Common.{◌∙◌}
use Rattle.lane_tests.proofs.PassLemmas.{names_still}
use Rattle.lane_tests.proofs.halls.crowds.speak.Goals as goal

pub returns : goal.returns
returns g c = record {
  of_this_hall = c.ask_rows-told.ensures.of_this_hall;
  alone = names_still c.args.member.now.pass c.ask_rows-told.new.pass c.ask_rows-told.ensures.same ∙ c.requires.alone;
}
