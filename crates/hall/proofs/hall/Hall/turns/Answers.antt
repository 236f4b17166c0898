use Rattle.std.proofs.Common.{arith}
use Rattle.hall.specs.ArrayMachines.{lanes_in, start_of}
use Rattle.hall.proofs.hall.Hall.turns.Goals as goal

pub load-requires : goal.load-requires
load-requires g c =
    let h = c.args.self.now in
    let sized = h.sized.0 in
    let law = c.steps_keep_the_rule.ensures (lanes_in (start_of h.table.shared.key)) in (
      c.requires.of_this_hall.table,
      omega arith,
      (law.step _ _ _ _ _).counts c.args.pass.now.live,
    )
