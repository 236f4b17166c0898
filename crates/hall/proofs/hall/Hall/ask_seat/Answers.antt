use Rattle.hall_rule.specs.WholeTurns.{entry_behind}
use Rattle.hall.specs.Answers.{asked_by}
use Rattle.hall.specs.ArrayMachines.{lanes_in, start_of}
use Rattle.hall.proofs.AskLemmas.{is_serving, verdict_here}
use Rattle.hall.proofs.hall.Hall.ask_seat.Goals as goal

pub serve-what-requires-clause-serving : goal.serve-what-requires-clause-serving
serve-what-requires-clause-serving g c =
    let start = start_of c.args.self.now.table.shared.key in
    let d = c.decide-place.ensures.decided in (
      d.before.register,
      entry_behind d.before.register c.args.seat.now.me.0.number (asked_by c.args.caller.now c.args.request.now) c.decide-place.result.1,
      is_serving start (c.asks_are_answered.ensures (lanes_in start)) _ _ _ _ _ _ c.requires.pass c.requires.idle d,
    )

pub returns-clause-answered : goal.returns-clause-answered
returns-clause-answered g c =
    let start = start_of c.args.self.now.table.shared.key in
    let asks = c.asks_are_answered.ensures (lanes_in start) in
    let d = c.decide-place.ensures.decided in
    let s = c.serve-what.ensures.served _ _ (is_serving start asks _ _ _ _ _ _ c.requires.pass c.requires.idle d) in record {
      decided_as = c.decide-place.result.1;
      what_is = s.what_is;
      asked = asks.asked start _ _ _ _ _ _ _ c.requires.pass c.requires.idle d s.served;
      told = s.told;
    }

pub returns-clause-early : goal.returns-clause-early
returns-clause-early g c = c.decide-place.ensures.decided.early

pub returns-clause-gates : goal.returns-clause-gates
returns-clause-gates g c =
    let start = start_of c.args.self.now.table.shared.key in
    let asks = c.asks_are_answered.ensures (lanes_in start) in
    let d = c.decide-place.ensures.decided in
    let s = c.serve-what.ensures.served _ _ (is_serving start asks _ _ _ _ _ _ c.requires.pass c.requires.idle d) in record {
      decided_as = c.decide-place.result.1;
      verdict_is = verdict_here start c.args.caller.now c.args.request.now (record { place = c.decide-place.result.0; what = c.serve-what.result })
          c.args.seat.now.me.0 c.serve-what.new.seat.me.0 (record {
            decided_as = c.decide-place.result.1;
            what_is = s.what_is;
            asked = asks.asked start _ _ _ _ _ _ _ c.requires.pass c.requires.idle d s.served;
            told = s.told;
          });
      gates = c.serve-what.ensures.gates;
    }
