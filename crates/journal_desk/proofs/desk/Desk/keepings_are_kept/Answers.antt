use Rattle.journal_desk.proofs.desk.Desk.keepings_are_kept.Goals as goal

pub returns-clause-each : goal.returns-clause-each
returns-clause-each g c = rw (← c.self.view_is) (λ honest i here is. (c.self.invariant.answered.each honest i here is).1)

pub returns-clause-own : goal.returns-clause-own
returns-clause-own g c = rw (← c.self.view_is) (λ honest. (c.self.invariant.answered.own honest).1)

pub returns-clause-moments : goal.returns-clause-moments
returns-clause-moments g c = rw (← c.self.view_is) (λ honest i here is. (c.self.invariant.answered.each honest i here is).0)

pub returns-clause-reached : goal.returns-clause-reached
returns-clause-reached g c = rw (← c.self.view_is) (λ honest. (c.self.invariant.answered.own honest).0)

pub returns-clause-far : goal.returns-clause-far
returns-clause-far g c = rw (← c.self.view_is) c.self.invariant.desk.keepings
