use Rattle.std.proofs.Common.{◌≡◌}
use Rattle.hall.specs.Passes.{IsPassOf, who}
use Rattle.lane_tests.proofs.halls.asks.ask_each.Given as goal

abbrev pub invariant-rows : goal.invariant-rows
invariant-rows g l = record {
  of_this_hall : IsPassOf l.hall l.pass;
  same : who l.pass ≡ who l.initial.pass;
}
