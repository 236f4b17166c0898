use Rattle.service_core.specs.Worlds.{seen}
use Rattle.samples.proofs.WorldLemmas.{slab_summed}
use Rattle.samples.proofs.slabs.sum_of_request.Goals as goal

pub returns : goal.returns
returns c n small h =
    slab_summed n c.args.start (seen c.args.world.now) (seen c.step-answer.new.self) c.args.caller.now c.args.request.now c.step-answer.result.what c.sum_of_answer.result small c.requires.low h
    c.requires.user c.requires.request c.step-answer.ensures.steps.answered c.sum_of_answer.ensures
