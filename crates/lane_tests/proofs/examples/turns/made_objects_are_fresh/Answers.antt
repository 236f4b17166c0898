use Rattle.lane_tests.proofs.OfExamples.FreshLemmas.{gives_out}
use Rattle.lane_tests.specs.Examples.Links.{make_at}
use Rattle.lane_tests.proofs.examples.turns.made_objects_are_fresh.Goals as goal

pub returns : goal.returns
returns c = λ start h legal given l place part fresh next. c.turns_are_ready.ensures.turns 2 gives_out start h legal given l place part (make_at fresh) next
