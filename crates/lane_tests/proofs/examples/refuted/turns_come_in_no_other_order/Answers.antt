use Rattle.lane_histories.specs.declared.items.LaneItem.TheVariants.{Passed}
use Rattle.lane_tests.proofs.OfExamples.RefutedLemmas.{no_later_first}
use Rattle.lane_tests.proofs.examples.refuted.turns_come_in_no_other_order.Goals as goal

pub returns : goal.returns
returns c = λ before h l p q part other note task x y front back legal is here below.
    no_later_first p q part other below (c.turns_come_in_order.ensures.order 2 before h legal l front back (Passed q part task x) (Passed p other note y) is here)
