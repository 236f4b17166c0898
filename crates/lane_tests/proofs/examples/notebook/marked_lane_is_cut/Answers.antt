use Rattle.lane_histories.specs.Since.{SaysAll}
use Rattle.lane_tests.specs.Examples.Marks.{marking}
use Rattle.lane_tests.proofs.examples.notebook.marked_lane_is_cut.Goals as goal

says_all : SaysAll marking
says_all x l lane still says = says still

pub returns : goal.returns
returns c = λ l last old new before after since said cut.
    (c.cuts_tell_the_lane.ensures.cut 2 says_all l last old new before after since said cut).told
