use Rattle.std.proofs.Common.{◌≡◌, List, [], length, vec_capacity}
use Rattle.hall.specs.Passes.{who}
use Rattle.rest_session.specs.Halls.Accounts.{IsReady, account}
use Rattle.rest_session.specs.Halls.Gates.{HasGoneThroughAll}
use Rattle.rest_session.specs.Halls.Visits.{Visit, Attends, telling}
use Rattle.rest_session.proofs.halls.attending.attend_door.Given as goal

abbrev pub invariant-links : goal.invariant-links
invariant-links g l = record {
  ready : IsReady l.hall l.pass;
  same : who l.pass ≡ who l.initial.pass;
  room : vec_capacity l.ends ≡ vec_capacity l.initial.ends;
  visits : List (Visit g.row.F-Link.Denot);
  one_each : length visits ≡ l.counter;
  attends : Attends (telling g.F.Door g.F.Link.Source g.F.Link.Sink) visits l.initial.door l.door [] l.ends.items
      (account l.tokens l.hall l.initial.pass) (account l.tokens l.hall l.pass);
  gates : HasGoneThroughAll g.G.Gate.goes (account l.tokens l.hall l.initial.pass) (account l.tokens l.hall l.pass) l.initial.gate l.gate;
}
