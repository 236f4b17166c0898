use Rattle.std.proofs.Common.{◌∷◌, [], ◌++◌, None, map, ap, ◌∙◌}
use Rattle.hall_rule.specs.declared.slot.Slot.{Slot}
use Rattle.hall_rule.specs.declared.slot.Slot.TheVariants.{AtRegister, AtDesk}
use Rattle.hall_rule.specs.Homes.{lane_home}
use Rattle.hall_rule.proofs.slot.lay.Goals as goal

pub returns-clause-laid : goal.returns-clause-laid
returns-clause-laid g c =
    let r : Slot g.row.M.Denot g.row.N.Denot g.row.P.Denot g.row.Q.Denot g.row.V.Denot g.row.R.Denot =
    AtRegister (record { register = c.args.register; news = None }) in
    c.in_ok-add_lanes.ensures ∙ ap (λ l. l ++ map lane_home c.args.owners.items)
    (c.in_ok-push-2.ensures.items ∙ ap (λ l. l ++ AtDesk c.args.desk ∷ [])
    (c.in_ok-push.ensures.items ∙ ap (λ l. l ++ r ∷ []) c.new-slots.ensures.items))
