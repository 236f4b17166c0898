use Rattle.std.proofs.Common.{sym, subst, ◌∙◌}
use mathlib.Core.Option.{none}
use Rattle.atomic_table.specs.Table.{Allows, step}
use Rattle.hall_rule.specs.Rule.{FollowsRule}
use Rattle.hall_rule.specs.Steps.{HasLooked}
use Rattle.hall_rule.specs.WholeTurns.{MayLook}
use Rattle.hall.specs.ArrayMachines.{desk_machines, lanes_in, start_of}
use Rattle.hall.proofs.Knowing.{as_known}
use Rattle.hall.proofs.hall.Hall.wait.Goals as goal

pub load-now-requires : goal.load-now-requires
load-now-requires g c =
    let h = c.args.self.now in
    let start = start_of h.table.shared.key in
    let i = c.loop.invariant in
    let me = c.loop.seat.me in
    let may = subst (λ m. MayLook start c.args.queue c.args.mine c.requires.may.0 m.0) (sym i.same) c.requires.may.1 in
    let law = c.steps_keep_the_rule.ensures (lanes_in start) in (
      i.table ∙ c.requires.table,
      law.words _ _ _ c.args.queue c.word-word.ensures may.there h.sized.0,
      as_known (λ l. Allows (FollowsRule (desk_machines g.D.AtDesk (lanes_in start)) h.table.shared.key.passes start) h.table.shared.table_id.slots c.loop.seat.id me c.word-word.result (λ n. n) (HasLooked (desk_machines g.D.AtDesk l) (step h.table.shared.table_id.slots c.word-word.result 0 0 none) me)) start me.0 may.begun
          ((law.step _ _ _ _ _).looks c.args.queue c.args.mine c.requires.may.0 _ c.word-word.ensures may),
    )

pub pause-requires : goal.pause-requires
pause-requires g c =
    let h = c.args.self.now in
    let may = c.requires.may.1 in
    let law = c.steps_keep_the_rule.ensures (lanes_in (start_of h.table.shared.key)) in
    law.words _ _ _ c.args.queue c.word-word.ensures may.there h.sized.0
