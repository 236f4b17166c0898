use Rattle.std.proofs.Common.{ap, ◌∙◌, arith}
use Rattle.hall_rule.specs.Rule.{given_by_split, left_by_split}
use Rattle.hall.specs.ArrayMachines.{lanes_in, start_of}
use Rattle.hall.proofs.hall.Hall.split_seat.Goals as goal

pub load-requires : goal.load-requires
load-requires g c =
    let h = c.args.self.now in
    let sized = h.sized.0 in
    let law = c.steps_keep_the_rule.ensures (lanes_in (start_of h.table.shared.key)) in (
      c.requires.table,
      omega arith,
      (law.step _ _ _ _ _).spares c.requires.live.0,
    )

pub split_seat-requires : goal.split_seat-requires
split_seat-requires g c =
    let h = c.args.self.now in
    let sized = h.sized.0 in
    let same = ap (λ me. me.0) c.load.ensures.2.0 in
    let law = c.steps_keep_the_rule.ensures (lanes_in (start_of h.table.shared.key)) in (
      c.load.ensures.0 ∙ c.requires.table,
      omega arith,
      (law.share _ _ _ _).splits _ _ (ap (λ v. v.live) same ∙ c.requires.live.0) (ap (λ v. v.guests) same ∙ c.requires.live.1)
          (ap (λ v. v.spare) same ∙ c.requires.spare.2),
    )

pub returns : goal.returns
returns g c =
    let same = c.load.ensures.2.0 in
    let cut = c.split_seat.ensures in record {
      table = (cut.0 ∙ c.load.ensures.0, cut.3 ∙ c.load.ensures.0);
      slots = (ap (λ me. me.1) cut.2 ∙ ap (λ me. me.1) same, ap (λ me. me.1) cut.4);
      kept = ap (λ me. me.0) cut.2 ∙ ap (λ me. left_by_split me.0) same;
      given = ap (λ me. me.0) cut.4 ∙ ap (λ me. given_by_split me.0) same;
      unused = c.load.ensures.2.1;
    }
