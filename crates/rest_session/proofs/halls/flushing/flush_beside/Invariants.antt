use Rattle.std.proofs.Common.{◌≡◌}
use Rattle.access_lists.specs.Tokens.Bearer.{TokenTable}
use Rattle.hall.specs.Passes.{who}
use Rattle.rest_session.specs.Halls.Accounts.{HasAskedNothing, IsReady, account}
use Rattle.rest_session.proofs.halls.flushing.flush_beside.Given as goal

abbrev pub invariant-loop : goal.invariant-loop
invariant-loop g l = record {
  ready : IsReady l.hall l.pass;
  same : who l.pass ≡ who l.initial.pass;
  nothing : (tokens : TokenTable) → HasAskedNothing (account tokens l.hall l.initial.pass) (account tokens l.hall l.pass);
}
