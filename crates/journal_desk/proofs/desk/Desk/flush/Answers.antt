use Rattle.std.proofs.Common.{◌≡◌, false, true, Result, refl, ap, ◌∙◌, subst}
use Rattle.std.specs.Prelude.{IsErr}
use Rattle.flush_journal.specs.declared.why.Why.{Why}
use Rattle.std.specs.Result.{is_err}
use Rattle.journal_desk.proofs.AppendLemmas.{appends_on, settled_end}
use Rattle.journal_desk.proofs.ContinueLemmas.{continues_both, still_up_to}
use Rattle.journal_desk.proofs.OrderLemmas.{order_all}
use Rattle.journal_desk.proofs.ImageLemmas.{farther}
use Rattle.journal_desk.proofs.RefusalLemmas.{first_handed, first_on}
use Rattle.journal_desk.proofs.desk.Desk.flush.Goals as goal

pub returns-in_err-places-clause-continues : goal.returns-in_err-places-clause-continues
returns-in_err-places-clause-continues g c =
    continues_both g.D.Disk g.N.Note _ _ _ c.settle.ensures.continues c.cut_lanes.ensures.continues

pub returns-in_err-cut_register-clause-continues : goal.returns-in_err-cut_register-clause-continues
returns-in_err-cut_register-clause-continues g c =
    continues_both g.D.Disk g.N.Note _ _ _ c.settle.ensures.continues
    (continues_both g.D.Disk g.N.Note _ _ _ c.cut_lanes.ensures.continues c.cut_register.ensures.continues)

pub returns-in_err-append-clause-continues : goal.returns-in_err-append-clause-continues
returns-in_err-append-clause-continues g c =
    continues_both g.D.Disk g.N.Note _ _ _ c.settle.ensures.continues
    (continues_both g.D.Disk g.N.Note _ _ _ c.cut_lanes.ensures.continues
    (continues_both g.D.Disk g.N.Note _ _ _ c.cut_register.ensures.continues c.append.ensures.continues))

pub returns-clause-continues : goal.returns-clause-continues
returns-clause-continues g c =
    continues_both g.D.Disk g.N.Note _ _ _ c.settle.ensures.continues
    (continues_both g.D.Disk g.N.Note _ _ _ c.cut_lanes.ensures.continues
    (continues_both g.D.Disk g.N.Note _ _ _ c.cut_register.ensures.continues c.append.ensures.continues))

pub returns-clause-stopped : goal.returns-clause-stopped
returns-clause-stopped g c some off =
    let err = subst (λ (r : Result (Unit {0}) Why). IsErr r) c.in_ok-settle.was (c.settle.ensures.stopped some off) in
    absurd (let never : false ≡ true = err in cc)

pub cut_lanes-requires-clause-here : goal.cut_lanes-requires-clause-here
cut_lanes-requires-clause-here g c =
    still_up_to g.N.Note _ _ _ _ c.settle.ensures.continues.lanes c.settle.ensures.same.2 c.requires.here

pub returns-in_err-settle-clause-here : goal.returns-in_err-settle-clause-here
returns-in_err-settle-clause-here g c =
    still_up_to g.N.Note _ _ _ _ c.settle.ensures.continues.lanes c.settle.ensures.same.2 c.requires.here

pub returns-in_err-append-clause-here : goal.returns-in_err-append-clause-here
returns-in_err-append-clause-here g c =
    still_up_to g.N.Note _ _ _ _ c.append.ensures.continues.lanes c.append.ensures.same.2 c.cut_register.ensures.here

pub returns-clause-here : goal.returns-clause-here
returns-clause-here g c =
    still_up_to g.N.Note _ _ _ _ c.append.ensures.continues.lanes c.append.ensures.same.2 c.cut_register.ensures.here

pub returns-in_err-settle-clause-first : goal.returns-in_err-settle-clause-first
returns-in_err-settle-clause-first g c = first_handed g.D.Disk _ _ _ _ c.from_residual.ensures.0 c.settle.ensures.first

pub returns-in_err-places-clause-first : goal.returns-in_err-places-clause-first
returns-in_err-places-clause-first g c =
    first_on g.D.Disk _ _ _ _ _ (ap is_err c.in_ok-settle.was) c.cut_lanes.ensures.continues.own c.settle.ensures.first

pub returns-in_err-cut_register-clause-first : goal.returns-in_err-cut_register-clause-first
returns-in_err-cut_register-clause-first g c =
    first_on g.D.Disk _ _ _ _ _ (ap is_err c.in_ok-settle.was)
    (farther _ _ _ c.cut_lanes.ensures.continues.own c.cut_register.ensures.continues.own) c.settle.ensures.first

pub returns-in_err-append-clause-first : goal.returns-in_err-append-clause-first
returns-in_err-append-clause-first g c =
    first_on g.D.Disk _ _ _ _ _ (ap is_err c.in_ok-settle.was)
    (farther _ _ _ c.cut_lanes.ensures.continues.own (farther _ _ _ c.cut_register.ensures.continues.own c.append.ensures.continues.own)) c.settle.ensures.first

pub returns-clause-first : goal.returns-clause-first
returns-clause-first g c =
    first_on g.D.Disk _ _ _ _ _ (ap is_err c.in_ok-settle.was)
    (farther _ _ _ c.cut_lanes.ensures.continues.own (farther _ _ _ c.cut_register.ensures.continues.own c.append.ensures.continues.own)) c.settle.ensures.first

pub returns-clause-wrote : goal.returns-clause-wrote
returns-clause-wrote g c =
    appends_on g.N.Note c.args.self.now c.settle.new.self c.cut_register.new.self c.append.new.self
    (settled_end c.args.self.now c.settle.new.self (λ rs some. c.in_ok-settle.ensures.grown rs some) c.settle.ensures.idle)
    c.in_ok-settle.ensures.since (c.cut_register.ensures.journal.pending ∙ c.cut_lanes.ensures.journal.pending ∙ c.in_ok-settle.ensures.ok)
    (c.cut_register.ensures.journal.end ∙ c.cut_lanes.ensures.journal.end) (c.cut_register.ensures.journal.since ∙ c.cut_lanes.ensures.journal.since)
    (c.cut_register.ensures.continues.lanes ∙ c.cut_lanes.ensures.continues.lanes ∙ c.settle.ensures.continues.lanes)
    (continues_both g.D.Disk g.N.Note _ _ _ c.settle.ensures.continues (continues_both g.D.Disk g.N.Note _ _ _ c.cut_lanes.ensures.continues c.cut_register.ensures.continues)).start
    c.append.result _ _ c.in_ok-places.places c.in_ok-append.was refl c.append.ensures.wrote

pub returns-clause-order : goal.returns-clause-order
returns-clause-order g c =
    let first = c.in_ok-places.ensures.order in (
      first.0,
      order_all g.N.Note c.args.self.now c.settle.new.self c.cut_lanes.new.self c.cut_register.new.self c.append.new.self
          c.settle.ensures.same.2 c.settle.ensures.continues.lanes first.0 c.cut_lanes.ensures.continues.lanes
          c.append.ensures.same.2 c.append.ensures.same.1 c.in_ok-cut_register.ensures.ok.0 first.1 c.in_ok-cut_register.ensures.order,
    )
