use Rattle.std.proofs.Common.{arith}
use Rattle.samples.proofs.LoadedLemmas.{adopted_holds}
use Rattle.samples.proofs.world.sample_world.Goals as goal

pub returns-in-Ok : goal.returns-in-Ok
returns-in-Ok c =
    adopted_holds c.cells_have_elements.ensures c.args.number c.in_ok-loaded.loaded c.in_ok-world.world c.adopt.new.world c.in_ok-path.path c.in_ok-user.user (omega arith) c.in_ok-loaded.ensures
    c.in_ok-world.ensures c.in_ok-path.ensures c.in_ok-user.ensures c.in-Ok.ensures.domain c.in-Ok.ensures.objects
