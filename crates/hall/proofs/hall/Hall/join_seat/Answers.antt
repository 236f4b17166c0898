use Rattle.std.proofs.Common.{ap, ◌∙◌, arith}
use mathlib.Core.Option.{none}
use Rattle.atomic_table.specs.Table.{Allows, step}
use Rattle.hall_rule.specs.Rule.{FollowsRule}
use Rattle.hall_rule.specs.Steps.{HasLearnt}
use Rattle.hall.specs.ArrayMachines.{desk_machines, lanes_in, start_of}
use Rattle.hall.proofs.Knowing.{as_known, as_there}
use Rattle.hall.proofs.PlainLemmas.{joined_so}
use Rattle.hall.proofs.hall.Hall.join_seat.Goals as goal

pub join_seat-requires : goal.join_seat-requires
join_seat-requires g c =
    let h = c.args.self.now in
    let sized = h.sized.0 in
    let mine = c.requires.mine in
    let theirs = c.requires.theirs in
    let law = c.steps_keep_the_rule.ensures (lanes_in (start_of h.table.shared.key)) in (
      c.requires.table,
      c.requires.other_table,
      theirs.3,
      omega arith,
      (law.share _ _ _ _).joins _ _ mine.0 theirs.0 theirs.2 mine.1 theirs.1,
    )

pub load-requires : goal.load-requires
load-requires g c =
    let h = c.args.self.now in
    let start = start_of h.table.shared.key in
    let sized = h.sized.0 in
    let j = c.join_seat.ensures in
    let seat = c.join_seat.new.seat in
    let slots = h.table.shared.table_id.slots in
    let law = c.steps_keep_the_rule.ensures (lanes_in start) in (
      j.0 ∙ c.requires.table,
      omega arith,
      as_known (λ l. Allows (FollowsRule (desk_machines g.D.AtDesk (lanes_in start)) h.table.shared.key.passes start) slots seat.id seat.me 0 (λ n. n) (HasLearnt (desk_machines g.D.AtDesk l) (step slots 0 0 0 none) seat.me)) start seat.me.0
          (ap (λ me. me.0.start) j.2 ∙ c.requires.mine.2)
          ((law.step _ _ _ _ _).learns (ap (λ me. me.0.live) j.2 ∙ c.requires.mine.0)),
    )

pub returns : goal.returns
returns g c =
    let h = c.args.self.now in
    let start = start_of h.table.shared.key in
    let j = c.join_seat.ensures in
    let mine = c.requires.mine in
    let seat = c.join_seat.new.seat in
    let told = (c.steps_tell_what_was_seen.ensures (lanes_in start)).joined start c.args.seat.now.me.0 c.args.other.me.0 0 seat.me c.load.new.seat.me
    mine.0 c.requires.theirs.0 mine.2 (ap (λ me. me.0) j.2)
    (as_there (λ l. HasLearnt (desk_machines g.D.AtDesk l) (step h.table.shared.table_id.slots 0 0 0 none) seat.me c.load.result c.load.new.seat.me) start seat.me.0
    (ap (λ me. me.0.start) j.2 ∙ mine.2) c.load.ensures.2) in record {
      table = c.load.ensures.0 ∙ j.0;
      slots = told.1 ∙ ap (λ me. me.1) j.2;
      joined = joined_so g.D.AtDesk (lanes_in start) start _ _ _ told.0;
    }
