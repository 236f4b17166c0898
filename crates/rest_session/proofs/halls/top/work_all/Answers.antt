use Rattle.std.proofs.Common.{length, map, drop, sym, ap, ◌∙◌, subst}
use Rattle.std.specs.Prelude.{All}
use Rattle.std.specs.List.{slice_get}
use Rattle.std.proofs.lemmas.List.{take_at}
use Rattle.hall.specs.Passes.{who}
use Rattle.rest_session.specs.Halls.Accounts.{IsReady}
use Rattle.rest_session.proofs.halls.top.work_all.Goals as goal

pub returns-clause-ready : goal.returns-clause-ready
returns-clause-ready g c =
    let new = c.work.new.workers in
    let written = take_at new (drop (length new) c.args.workers.now.items) c.args.workers.now.len (c.work.auto.workers ∙ c.as_mut_slice.ensures.len) in
    subst (All (λ w. IsReady c.args.hall.now w.pass)) (sym written) c.work.ensures.ready

pub returns-clause-same : goal.returns-clause-same
returns-clause-same g c =
    let new = c.work.new.workers in
    let written = take_at new (drop (length new) c.args.workers.now.items) c.args.workers.now.len (c.work.auto.workers ∙ c.as_mut_slice.ensures.len) in
    ap (map (λ w. who w.pass)) written ∙ c.work.ensures.same ∙ ap (map (λ w. who w.pass)) c.as_mut_slice.ensures.value

pub returns-clause-works : goal.returns-clause-works
returns-clause-works g c = λ i x y was is.
    let new = c.work.new.workers in
    let written = take_at new (drop (length new) c.args.workers.now.items) c.args.workers.now.len (c.work.auto.workers ∙ c.as_mut_slice.ensures.len) in
    c.work.ensures.works i x y (ap (λ l. slice_get l i) c.as_mut_slice.ensures.value ∙ was) (ap (λ l. slice_get l i) (sym written) ∙ is)
