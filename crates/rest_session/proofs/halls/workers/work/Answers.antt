use Rattle.hall.specs.Passes.{who}
use Rattle.rest_session.specs.Halls.Accounts.{IsReady}
use Rattle.rest_session.proofs.OfHalls.Lists.{all_same, map_same}
use Rattle.rest_session.proofs.halls.workers.work.Goals as goal

pub returns-clause-ready : goal.returns-clause-ready
returns-clause-ready g c =
    all_same (λ w. IsReady c.args.hall.now w.pass) c.args.workers.now c.work_each.new.workers c.work_each.auto.workers (λ i x y was is. (c.work_each.ensures i x y was is).ready)

pub returns-clause-same : goal.returns-clause-same
returns-clause-same g c =
    map_same (λ w. who w.pass) c.args.workers.now c.work_each.new.workers c.work_each.auto.workers (λ i x y was is. (c.work_each.ensures i x y was is).same)

pub returns-clause-works : goal.returns-clause-works
returns-clause-works g c = λ i x y was is. (c.work_each.ensures i x y was is).works

pub returns-clause-gates : goal.returns-clause-gates
returns-clause-gates g c = λ i x y was is. (c.work_each.ensures i x y was is).gates
