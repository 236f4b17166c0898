use Rattle.std.proofs.Common.{arith}
use Rattle.hall.proofs.hall.Hall.draw_desk.Goals as goal

pub fetch_add-requires : goal.fetch_add-requires
fetch_add-requires g c =
    let sized = c.args.self.now.sized.0 in
    let law = c.steps_keep_the_rule.ensures _ in
    (c.requires.table, omega arith, (law.step _ _ _ _ _).draws_desk c.requires.idle.0 c.requires.idle.1)
