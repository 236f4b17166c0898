use Rattle.std.proofs.Common.{arith}
use Rattle.std.proofs.lemmas.Result.{err_from_is_err_and}
use Rattle.rest_session.specs.Halls.Accounts.{account}
use Rattle.rest_session.specs.Halls.Visits.{Visit, telling}
use Rattle.rest_session.proofs.OfHalls.Gates.{gone_none}
use Rattle.rest_session.proofs.OfHalls.Talks.{attends_none, attends_one}
use Rattle.rest_session.proofs.halls.attending.attend_link.Goals as goal

pub returns-in_err-link-clause-attends : goal.returns-in_err-link-clause-attends
returns-in_err-link-clause-attends g c =
    let t = telling g.F.Door g.F.Link.Source g.F.Link.Sink in
    let e = c.in_err-link.ensures in
    let failed = err_from_is_err_and c.from_residual.result c.from_residual.ensures.1 in
    rw failed.1 (attends_none t c.args.door.now c.next.new.self _ _ e.links e.ended (omega (arith, e.out)) e.cause.later, e.cause.cause)

pub returns-in_err-link-clause-gates : goal.returns-in_err-link-clause-gates
returns-in_err-link-clause-gates g c = gone_none g.G.Gate.goes _ _

pub returns-in_default-clause-gates : goal.returns-in_default-clause-gates
returns-in_default-clause-gates g c = gone_none g.G.Gate.goes _ _

pub returns-in_default-clause-attends : goal.returns-in_default-clause-attends
returns-in_default-clause-attends g c =
    let t = telling g.F.Door g.F.Link.Source g.F.Link.Sink in
    let e = c.in_ok-link.ensures in
    let none = rw c.in_default.is at e.links in
    let same_out = rw c.in_default.is at e.out in
    (attends_none t c.args.door.now c.next.new.self _ _ none.0 e.ended (omega (arith, same_out)) e.cause.later, none.1)

pub returns-clause-attends : goal.returns-clause-attends
returns-clause-attends g c =
    let t = telling g.F.Door g.F.Link.Source g.F.Link.Sink in
    let e = c.in_ok-link.ensures in
    let first = rw c.in-Some.is at e.links in
    let given = rw c.in-Some.is at e.out in
    let s = c.serve_link-end.ensures.transcript in
    let b = c.give_back.ensures in
    let v : Visit g.row.F-Link.Denot = record {
      link = c.in-Some.link;
      after = c.serve_link-end.new.link;
      end = c.serve_link-end.result;
      begin = account c.args.tokens.now c.args.hall.now c.args.pass.now;
      now = account c.args.tokens.now c.args.hall.now c.serve_link-end.new.pass;
    } in (
      v,
      attends_one t c.args.door.now c.next.new.self c.give_back.new.self v _ _ first b.left e.ended b.ended given b.out e.cause.later b.faults c.push_reserved.ensures.items
          (record { taken = s.0; sent = s.1; consumed = s.2; appended = s.3; transcript = s.4; causes = c.serve_link-end.ensures.causes }),
    )
