use Rattle.journal_desk.proofs.desk.Desk.owed_is_of_cuts.Goals as goal

pub returns : goal.returns
returns g c = rw (← c.self.view_is) (record { owed = c.self.invariant.owes })
