use Rattle.std.proofs.Common.{subst, ◌+◌, ◌%◌, ◌^◌}
use mathlib.Core.Option.{none}
use Rattle.atomic_table.specs.Table.{Allows, step}
use Rattle.hall_rule.specs.Queues.{IsQueue}
use Rattle.hall_rule.specs.Rule.{FollowsRule}
use Rattle.hall_rule.specs.Steps.{PassesTurn}
use Rattle.hall.specs.ArrayMachines.{desk_machines, lanes_in, start_of}
use Rattle.hall.proofs.Knowing.{as_known}
use Rattle.hall.proofs.hall.Hall.leave.Goals as goal

pub fetch_add-requires : goal.fetch_add-requires
fetch_add-requires g c =
    let h = c.args.self.now in
    let start = start_of h.table.shared.key in
    let ready = c.requires.ready in
    let me = c.args.seat.now.me in
    let law = c.steps_keep_the_rule.ensures (lanes_in start) in (
      c.requires.table,
      law.words _ _ _ c.args.queue c.word.ensures (subst (IsQueue (lanes_in start)) ready.1 ready.2.there) h.sized.0,
      as_known (λ l. Allows (FollowsRule (desk_machines g.D.AtDesk (lanes_in start)) h.table.shared.key.passes start) h.table.shared.table_id.slots c.args.seat.now.id me c.word.result (λ n. (n + 1) % 2 ^ 64) (PassesTurn (desk_machines g.D.AtDesk l) (step h.table.shared.table_id.slots c.word.result 1 0 none) me)) start me.0 ready.2.begun
          ((law.step _ _ _ _ _).passes_turn ready.0 c.args.queue _ c.word.ensures ready.1 ready.2),
    )
