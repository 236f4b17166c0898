use Rattle.std.proofs.Common.{refl}
use Rattle.register.specs.declared.verdicts.Verdict.TheVariants.{Answered, Denied, Granted, Refused, NoMemory}
use Rattle.hall.specs.ArrayMachines.{lanes_in, start_of}
use Rattle.hall.proofs.AskLemmas.{gone_as, served_by_none, serving_as, serving_job}
use Rattle.hall.proofs.hall.Hall.serve.Goals as goal

pub take_turns-what-requires-clause-serving : goal.take_turns-what-requires-clause-serving
take_turns-what-requires-clause-serving g c =
    let may = c.requires.serving in
    (may.0, may.1, serving_job (start_of c.args.self.now.table.shared.key) may.0 may.1 c.args.place c.args.op.now c.args.seat.now.me.0 c.args.verdict c.in-Granted.tickets c.grant.result c.in-Granted.is c.grant.ensures may.2)

pub finish-requires : goal.finish-requires
finish-requires g c = c.take_turns-what.ensures.spent

pub returns-in-Granted-clause-served : goal.returns-in-Granted-clause-served
returns-in-Granted-clause-served g c = λ before e s.
    c.take_turns-what.ensures.served before e (serving_job (start_of c.args.self.now.table.shared.key) before e c.args.place c.args.op.now c.args.seat.now.me.0 c.args.verdict c.in-Granted.tickets c.grant.result c.in-Granted.is c.grant.ensures s)

pub returns-in-Answered-clause-served : goal.returns-in-Answered-clause-served
returns-in-Answered-clause-served g c = λ before e s.
    let start = start_of c.args.self.now.table.shared.key in
    let v = Answered c.in-Answered.reply in
    served_by_none start (c.asks_are_answered.ensures (lanes_in start)) before e c.args.place c.args.op.now v c.args.seat.now.me.0
    (serving_as start before e c.args.place c.args.op.now c.args.seat.now.me.0 c.args.verdict v c.in-Answered.is s) refl _ refl

pub returns-in-Denied-clause-served : goal.returns-in-Denied-clause-served
returns-in-Denied-clause-served g c = λ before e s.
    let start = start_of c.args.self.now.table.shared.key in
    let v = Denied c.in-Denied.right in
    served_by_none start (c.asks_are_answered.ensures (lanes_in start)) before e c.args.place c.args.op.now v c.args.seat.now.me.0
    (serving_as start before e c.args.place c.args.op.now c.args.seat.now.me.0 c.args.verdict v c.in-Denied.is s) refl _ refl

pub returns-in-Refused-clause-served : goal.returns-in-Refused-clause-served
returns-in-Refused-clause-served g c = λ before e s.
    let start = start_of c.args.self.now.table.shared.key in
    let v = Refused c.in-Refused.refusal in
    served_by_none start (c.asks_are_answered.ensures (lanes_in start)) before e c.args.place c.args.op.now v c.args.seat.now.me.0
    (serving_as start before e c.args.place c.args.op.now c.args.seat.now.me.0 c.args.verdict v c.in-Refused.is s) refl _ refl

pub returns-in-NoMemory-clause-served : goal.returns-in-NoMemory-clause-served
returns-in-NoMemory-clause-served g c = λ before e s.
    let start = start_of c.args.self.now.table.shared.key in
    served_by_none start (c.asks_are_answered.ensures (lanes_in start)) before e c.args.place c.args.op.now NoMemory c.args.seat.now.me.0
    (serving_as start before e c.args.place c.args.op.now c.args.seat.now.me.0 c.args.verdict NoMemory c.in-NoMemory.is s) refl _ refl

-- ---- the gate

pub returns-in-Granted-clause-gates : goal.returns-in-Granted-clause-gates
returns-in-Granted-clause-gates g c =
    gone_as g.G.Gate.goes c.args.place c.args.gate.now c.take_turns-what.new.gate c.args.verdict (Granted c.in-Granted.tickets) c.in-Granted.is
    c.take_turns-what.ensures.gates

pub returns-in-Answered-clause-gates : goal.returns-in-Answered-clause-gates
returns-in-Answered-clause-gates g c =
    gone_as g.G.Gate.goes c.args.place c.args.gate.now c.args.gate.now c.args.verdict (Answered c.in-Answered.reply) c.in-Answered.is refl

pub returns-in-Denied-clause-gates : goal.returns-in-Denied-clause-gates
returns-in-Denied-clause-gates g c =
    gone_as g.G.Gate.goes c.args.place c.args.gate.now c.args.gate.now c.args.verdict (Denied c.in-Denied.right) c.in-Denied.is refl

pub returns-in-Refused-clause-gates : goal.returns-in-Refused-clause-gates
returns-in-Refused-clause-gates g c =
    gone_as g.G.Gate.goes c.args.place c.args.gate.now c.args.gate.now c.args.verdict (Refused c.in-Refused.refusal) c.in-Refused.is refl

pub returns-in-NoMemory-clause-gates : goal.returns-in-NoMemory-clause-gates
returns-in-NoMemory-clause-gates g c = gone_as g.G.Gate.goes c.args.place c.args.gate.now c.args.gate.now c.args.verdict NoMemory c.in-NoMemory.is refl
